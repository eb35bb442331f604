-- The white after lexemes.
use Rattle.std.proofs.Common.{◌≡◌, ℕ, zero, suc, ◌+◌, ◌-◌, ◌<◌, ◌≤◌, ◌==◌, ◌&&◌, ◌||◌, not, nat_lt, Bool, true, false, List, [], ◌∷◌, ◌++◌, length, get_or, refl, sym, ap, subst, ◌∙◌, inl, inr, ◌⊎◌, arith}
use Rattle.yaml_scan_laws.proofs.LevelWords.{cases_Bool, and_parts, nat_tests, append-nil, byte, break_of, Gap, gap_at, HasAt, are_gap, has_break, begins_lexeme, Kind, Lexeme, allows_key, is_value, reached, in_flow, key_allowed, gap_behind, allowed_behind, gap_is_read, IsGap, WhiteBegins, WhiteGoesOn, WhiteIsTaken, WhiteIsOver, WhiteIsPassed, WhiteMeets, KeyIsAllowed}

-- ---- gaps of several parts

gap_more : (xs ys : List ℕ) → are_gap xs ≡ true → are_gap ys ≡ true → are_gap (xs ++ ys) ≡ true
gap_more [] ys e f = f
gap_more (x ∷ xs) ys e f = let (here, rest) = and_parts (x == 32 || (x == 10 || x == 13)) (are_gap xs) e in rw here (gap_more xs ys rest f)

or_more : (a b c : Bool) → ((a || b) || c) ≡ (a || (b || c))
or_more a b c = grind (arith, nat_tests)

break_more : (xs ys : List ℕ) → has_break (xs ++ ys) ≡ (has_break xs || has_break ys)
break_more [] ys = refl
break_more (x ∷ xs) ys = ap (λ (b : Bool). (x == 10 || x == 13) || b) (break_more xs ys) ∙ sym (or_more (x == 10 || x == 13) (has_break xs) (has_break ys))

length_more : (xs ys : List ℕ) → length (xs ++ ys) ≡ length xs + length ys
length_more [] ys = omega arith
length_more (x ∷ xs) ys = let e = length_more xs ys in omega (arith, e)

nth_front : (xs ys : List ℕ) (k : ℕ) → k < length xs → get_or (xs ++ ys) k 0 ≡ get_or xs k 0
nth_front [] ys k e = absurd (omega (arith, e))
nth_front (x ∷ xs) ys zero e = refl
nth_front (x ∷ xs) ys (suc k) e = nth_front xs ys k (omega (arith, e))

nth_back : (xs ys : List ℕ) (k : ℕ) → get_or (xs ++ ys) (length xs + k) 0 ≡ get_or ys k 0
nth_back [] ys k = let e : 0 + k ≡ k = omega arith in rw e refl
nth_back (x ∷ xs) ys k = let e : suc (length xs) + k ≡ suc (length xs + k) = omega arith in rw e (nth_back xs ys k)

has_more : (text : List ℕ) (p : ℕ) (xs ys : List ℕ) → HasAt text p xs
    → HasAt text (p + length xs) ys → HasAt text p (xs ++ ys)
has_more text p xs ys f g = λ k few. elim (cases_Bool (nat_lt k (length xs))) [
  | inl e ↦ let less : k < length xs = grind (arith, nat_tests) in f k less ∙ sym (nth_front xs ys k less)
  | inr e ↦
      let more : length xs ≤ k = grind (arith, nat_tests) in
      let size = length_more xs ys in
      let far : p + length xs + (k - length xs) ≡ p + k = omega (arith, more) in
      let there : length xs + (k - length xs) ≡ k = omega (arith, more) in
      sym (ap (λ (n : ℕ). byte text n) far) ∙ g (k - length xs) (omega (arith, few, size, more)) ∙ sym (nth_back xs ys (k - length xs)) ∙ ap (λ (n : ℕ). get_or (xs ++ ys) n 0) there
]

-- ---- where the last lexeme ends before the white

gap_there : (text : List ℕ) (h : List Lexeme) (p : ℕ) (gap : List ℕ) → (reached h).index ≡ p
    → IsGap text p gap
    → gap_behind text h ≡ record { place = p + length gap; broke = has_break gap }
gap_there text h p gap e g = ap (λ (i : ℕ). gap_at (in_flow h) (key_allowed h) text i) e ∙ gap_is_read (in_flow h) (key_allowed h) text p gap g.has g.blank g.ends

pub white_begins : WhiteBegins
white_begins text h p now e k = grind (arith, nat_tests, gap_there)

-- ---- further white

gap_front : (text : List ℕ) (p : ℕ) (white gap : List ℕ) → HasAt text p white → are_gap white ≡ true
    → IsGap text (p + length white) gap → IsGap text p (white ++ gap)
gap_front text p white gap f e g =
    let size = length_more white gap in
    let there : p + length (white ++ gap) ≡ p + length white + length gap = omega (arith, size) in
    record {
      has = has_more text p white gap f g.has;
      blank = gap_more white gap e g.blank;
      ends = ap (λ (n : ℕ). begins_lexeme text n) there ∙ g.ends;
    }

both_breaks : (now x y broken : Bool)
    → (now || ((x || y) && broken)) ≡ ((now || (x && broken)) || (y && broken))
both_breaks now x y broken = grind (arith, nat_tests)

pub white_goes_on : WhiteGoesOn
white_goes_on text h p now broken white w f e = record {
  place = λ gap g. let size = length_more white gap in w.place (white ++ gap) (gap_front text p white gap f e g) ∙ omega (arith, size);
  allowed = λ gap g. w.allowed (white ++ gap) (gap_front text p white gap f e g) ∙ ap (λ (b : Bool). now || (b && broken)) (break_more white gap) ∙ both_breaks now (has_break white) (has_break gap) broken;
}

-- ---- white that was taken

feeds : (b c d : ℕ) → (b == 32 || (b == 10 || b == 13)) ≡ true
    → ((b == 32) ≡ true) ⊎ (nat_lt 0 (break_of b c d) ≡ true)
unfolding break_of
feeds b c d h = grind (arith, nat_tests)

-- No lexeme begins at white space.
pub no_white : (text : List ℕ) (p b : ℕ) → byte text p ≡ b
    → (b == 32 || (b == 10 || b == 13)) ≡ true → begins_lexeme text p ≡ true → ⊥
no_white text p b e f g = grind (arith, nat_tests, feeds)

-- what is left of a gap after its first part
record Parts (text : List ℕ) (p : ℕ) (white gap : List ℕ) : Type 0 where
  more : List ℕ
  same : gap ≡ white ++ more
  is : IsGap text (p + length white) more

-- The first of bytes that are at a place is there.
pub has_first : (text : List ℕ) (p b : ℕ) (bs : List ℕ) → HasAt text p (b ∷ bs) → byte text p ≡ b
has_first text p b bs h = let e : p + 0 ≡ p = omega arith in sym (ap (λ (n : ℕ). byte text n) e) ∙ h 0 (omega arith)

-- the bytes after the first
pub has_rest : (text : List ℕ) (p b : ℕ) (bs : List ℕ) → HasAt text p (b ∷ bs)
    → HasAt text (p + 1) bs
has_rest text p b bs h = λ k few. let e : p + suc k ≡ p + 1 + k = omega arith in sym (ap (λ (n : ℕ). byte text n) e) ∙ h (suc k) (omega (arith, few))

parted : (text : List ℕ) (p : ℕ) (white gap : List ℕ) → HasAt text p white → are_gap white ≡ true
    → IsGap text p gap → Parts text p white gap
parted text p [] gap f e g =
    let z : p + 0 ≡ p = omega arith in
    let P : ℕ → Type 0 = λ n. IsGap text n gap in
    record { more = gap; same = refl; is = subst P (sym z) g }
parted text p (x ∷ white) [] f e g =
    let (here, rest) = and_parts (x == 32 || (x == 10 || x == 13)) (are_gap white) e in
    let z : p + 0 ≡ p = omega arith in
    absurd (no_white text p x (has_first text p x white f) here (sym (ap (λ (n : ℕ). begins_lexeme text n) z) ∙ g.ends))
parted text p (x ∷ white) (y ∷ gap) f e g =
    let (here, rest) = and_parts (x == 32 || (x == 10 || x == 13)) (are_gap white) e in
    let (there, left) = and_parts (y == 32 || (y == 10 || y == 13)) (are_gap gap) g.blank in
    let same : y ≡ x = sym (has_first text p y gap g.has) ∙ has_first text p x white f in
    let z : p + suc (length gap) ≡ p + 1 + length gap = omega arith in
    let far : p + 1 + length white ≡ p + suc (length white) = omega arith in
    let one : IsGap text (p + 1) gap = record { has = has_rest text p y gap g.has; blank = left; ends = sym (ap (λ (n : ℕ). begins_lexeme text n) z) ∙ g.ends } in
    let parts = parted text (p + 1) white gap (has_rest text p x white f) rest one in
    let P : ℕ → Type 0 = λ n. IsGap text n parts.more in
    record { more = parts.more; same = ap (λ (b : ℕ). b ∷ gap) same ∙ ap (λ (bs : List ℕ). x ∷ bs) parts.same; is = subst P far parts.is }

passed_place : (text : List ℕ) (h : List Lexeme) (p : ℕ) (white gap : List ℕ)
    → (reached h).index ≡ p + length white → Parts text p white gap
    → (gap_behind text h).place ≡ p + length gap
passed_place text h p white gap e parts = grind (arith, nat_tests, length_more, gap_there)

pub white_is_passed : WhiteIsPassed
white_is_passed text h p white broken f e there key = record {
  place = λ gap g. passed_place text h p white gap there (parted text p white gap f e g);
  allowed = λ gap g. ap (λ (b : Bool). b || ((gap_behind text h).broke && not (in_flow h))) key;
}

-- no white is where a lexeme begins
pub nothing_more : (text : List ℕ) (p : ℕ) (more : List ℕ) → begins_lexeme text p ≡ true
    → IsGap text p more → more ≡ []
nothing_more text p [] e g = refl
nothing_more text p (x ∷ more) e g =
    let (here, rest) = and_parts (x == 32 || (x == 10 || x == 13)) (are_gap more) g.blank in
    absurd (no_white text p x (has_first text p x more g.has) here e)

-- the first of two where the second fails
pub or_none : (a b : Bool) → (a || (false && b)) ≡ a
or_none a b = grind (arith, nat_tests)

and_true : (a : Bool) → a ≡ (a && true)
and_true a = grind (arith, nat_tests)

taken_allowed : (text : List ℕ) (h : List Lexeme) (p : ℕ) (white gap : List ℕ)
    → begins_lexeme text (p + length white) ≡ true → (reached h).index ≡ p + length white
    → key_allowed h ≡ has_break white → Parts text p white gap
    → allowed_behind h (gap_behind text h) ≡ (false || (has_break gap && true))
taken_allowed text h p white gap ends there key parts =
    let none = nothing_more text (p + length white) parts.more ends parts.is in
    let whole : gap ≡ white = parts.same ∙ ap (λ (bs : List ℕ). white ++ bs) none ∙ append-nil white in
    ap (λ (x : Gap). key_allowed h || (x.broke && not (in_flow h))) (gap_there text h (p + length white) parts.more there parts.is)
    ∙ ap (λ (bs : List ℕ). key_allowed h || (has_break bs && not (in_flow h))) none
    ∙ or_none (key_allowed h) (not (in_flow h)) ∙ key ∙ sym (ap (λ (bs : List ℕ). has_break bs) whole) ∙ and_true (has_break gap)

pub white_is_taken : WhiteIsTaken
white_is_taken text h p white g there key = record {
  place = λ gap f. passed_place text h p white gap there (parted text p white gap g.has g.blank f);
  allowed = λ gap f. taken_allowed text h p white gap g.ends there key (parted text p white gap g.has g.blank f);
}

over_allowed : (text : List ℕ) (h : List Lexeme) (p : ℕ) (now : Bool) (white gap : List ℕ)
    → begins_lexeme text (p + length white) ≡ true → (reached h).index ≡ p + length white
    → key_allowed h ≡ now → Parts text p white gap
    → allowed_behind h (gap_behind text h) ≡ (now || (has_break gap && false))
over_allowed text h p now white gap ends there key parts =
    let none = nothing_more text (p + length white) parts.more ends parts.is in
    ap (λ (x : Gap). key_allowed h || (x.broke && not (in_flow h))) (gap_there text h (p + length white) parts.more there parts.is)
    ∙ ap (λ (bs : List ℕ). key_allowed h || (has_break bs && not (in_flow h))) none
    ∙ or_none (key_allowed h) (not (in_flow h)) ∙ key ∙ or_off now (has_break gap)
  where
    or_off : (a b : Bool) → a ≡ (a || (b && false))
    or_off true b = refl
    or_off false true = refl
    or_off false false = refl

pub white_is_over : WhiteIsOver
white_is_over text h p now white g there key = record {
  place = λ gap f. passed_place text h p white gap there (parted text p white gap g.has g.blank f);
  allowed = λ gap f. over_allowed text h p now white gap g.ends there key (parted text p white gap g.has g.blank f);
}

pub white_meets : WhiteMeets
white_meets text h p d level now broken gap k w white g kind word = record { place = white.place gap g; allowed = white.allowed gap g; kind = kind; word = word }

allows_found : (k : Kind) (block x y : Bool) → (is_value k ≡ true → x ≡ y)
    → allows_key k block x ≡ allows_key k block y
allows_found k block x y f = grind (arith, nat_tests)

pub key_is_allowed : KeyIsAllowed
key_is_allowed text h d k q a found w deep f = grind (arith, nat_tests, allows_found)
