-- How a plain scalar's parts are read: characters, single spaces and folds.
use Rattle.std.proofs.Common.{◌≡◌, ◌≢◌, ℕ, zero, suc, ◌+◌, ◌<◌, ◌≤◌, Bool, true, false, ◌&&◌, ◌==◌, nat_lt, List, [], ◌∷◌, ◌++◌, length, replicate, refl, sym, ap, subst, ◌∙◌, inl, inr, arith, add-zero, encode_utf8, ◌||◌, Result, Ok, append-nil, length-append}
use Rattle.yaml_emit_laws.proofs.ScalarWords.{cases_Bool, true≢false, le-ltb, ne_eqb, and_parts, nat_tests, and-false, byte, break_of, break_width, ends_break, column_at, is_blank, is_blank_or_end, starts, break_value, feed_at, Piece, Kept, Blank, Break, value_of, is_bracket, after_white, leads, Takes, spot_at, is_nothing, PlainText, plain_at, leads-blank, white-blank, spot_blank, spot_break, lead_break, blank_inside, past_break, column_more, within, Has, has_front, has_rest, first, last_or, LineEnd, feed, return, return_feed, next_line, line_separator, paragraph_separator, end_bytes, end_means, QuotedPart, raw, doubled, named, numbered, fold, joint, spelling, LineTurn, turn_bytes, meaning, IsSpelling, encode_1, keeps, blanks_of, read_as, all_read_as, raw_kept, raw_blank, turns_read, spelling_value, calm_end, calm_break, calm_from, column_on, column_start, Wrong, are_gap, has_break, space_encodes}
use Rattle.yaml_emit_laws.proofs.Standing.{Read, read_blank, read_break, InLine, Stays, Through, CharAt, Plainly, char_at, through_byte, through_both, no_tab, space_blank, stand_behind, kept_sealed, positive, Stops, gap_words}
use Rattle.yaml_emit_laws.proofs.Turns.{length_spaces}
use Rattle.yaml_emit_laws.proofs.Values.{encoded_front}

-- ---- what the parts say

-- LF, CR, and both
abbrev pub is_plain_end : LineEnd → Bool
is_plain_end feed = true
is_plain_end return = true
is_plain_end return_feed = true
is_plain_end next_line = false
is_plain_end line_separator = false
is_plain_end paragraph_separator = false

-- a character as itself, or a space as a fold into a line of that many spaces
abbrev pub IsOne : ℕ → QuotedPart → ℕ → Type 0
IsOne n (raw c) x = c ≡ x
IsOne n doubled x = ⊥
IsOne n (named b bytes) x = ⊥
IsOne n (numbered b digits c) x = ⊥
IsOne n (fold t ts) x = (x ≡ 32) × (t.spaces ≡ n) × (ts ≡ []) × (is_plain_end t.end ≡ true)
IsOne n (joint t ts) x = ⊥

-- the characters, one by one
abbrev pub Spells : ℕ → List QuotedPart → List ℕ → Type 0
Spells n [] [] = Unit {0}
Spells n [] (x ∷ xs) = ⊥
Spells n (p ∷ ps) [] = ⊥
Spells n (p ∷ ps) (x ∷ xs) = IsOne n p x × Spells n ps xs

-- a character that plain text may have, by the one before it and the one after it
pub record Good (flow : Bool) (before x next : ℕ) : Type 0 where
  pub plainly : Plainly x
  pub some : x ≢ 0
  pub tab : x ≢ 9
  pub colon : x ≡ 58 → (next ≢ 0) × (next ≢ 32) × (next ≢ 9)
  pub hash : x ≡ 35 → before ≢ 32
  pub bracket : (flow && is_bracket x) ≡ false
  pub odd : (flow && x == 58) ≡ false
  pub ask : (flow && x == 63) ≡ false

abbrev pub AreGood : Bool → ℕ → List ℕ → Type 0
AreGood flow before [] = Unit {0}
AreGood flow before (x ∷ xs) = Good flow before x (first xs) × AreGood flow x xs

-- ---- a character

-- the byte that begins a character is white or the end only where the character is
pub record Firm (text : List ℕ) (p x : ℕ) : Type 0 where
  pub blank : x ≢ 32 → x ≢ 9 → is_blank (byte text p) ≡ false
  pub some : x ≢ 0 → (byte text p == 0) ≡ false
  pub same : (k : ℕ) → k < 128 → byte text p ≡ k → x ≡ k

pub firm : (flow : Bool) (level : ℕ) (text : List ℕ) (p x : ℕ) (bytes : List ℕ)
    → CharAt flow level text p x bytes → Firm text p x
firm flow level text p x bytes c = grind (arith, nat_tests)

-- after a colon there is something
abbrev pub FirmNext : List ℕ → ℕ → ℕ → Type 0
FirmNext text p x = x ≡ 58 → is_blank_or_end text (p + 1) ≡ false

pub when_is : (b : ℕ) (k : ℕ) (t : Bool) → (b ≡ k → t ≡ false) → (b == k && t) ≡ false
when_is b k t f = grind (arith, nat_tests)

bracket_is : (flow : Bool) (text : List ℕ) (p x : ℕ) → Firm text p x
    → (flow && is_bracket x) ≡ false → (flow && is_bracket (byte text p)) ≡ false
unfolding is_bracket
bracket_is false text p x f h = refl
bracket_is true text p x f h =
    let no : (k : ℕ) → k < 128 → is_bracket k ≡ true → (byte text p == k) ≡ false = λ k small e. ne_eqb (byte text p) k (λ g. true≢false (sym (ap (λ y. is_bracket y) (f.same k small g) ∙ e) ∙ h)) in
    rw (no 44 (omega arith) refl, no 91 (omega arith) refl, no 93 (omega arith) refl, no 123 (omega arith) refl, no 125 (omega arith) refl) refl

colon_is : (flow : Bool) (text : List ℕ) (p x : ℕ) → Firm text p x → (flow && x == 58) ≡ false
    → (flow && byte text p == 58) ≡ false
colon_is false text p x f h = refl
colon_is true text p x f h = ne_eqb (byte text p) 58 (λ g. true≢false (sym (ap (λ k. k == 58) (f.same 58 (omega arith) g)) ∙ h))

pub stays_at : (flow : Bool) (level : ℕ) (text : List ℕ) (p before x next : ℕ) → Firm text p x
    → Good flow before x next → FirmNext text p x → InLine level text p before → Stays flow text p
stays_at flow level text p before x next f g n s = record {
  some = f.some g.some;
  hash = when_is (byte text p) 35 (after_white text p) (λ e. no_white (after_white text p) (λ w. g.hash (f.same 35 (omega arith) e) (s.white w)));
  colon = when_is (byte text p) 58 (is_blank_or_end text (p + 1)) (λ e. n (f.same 58 (omega arith) e));
  bracket = bracket_is flow text p x f g.bracket;
  odd = colon_is flow text p x f g.odd;
}
  where
    no_white : (b : Bool) → (b ≡ true → ⊥) → b ≡ false
    no_white true h = absurd (h refl)
    no_white false h = refl

pub char_through : (flow : Bool) (level : ℕ) (text : List ℕ) (p before x next : ℕ)
    → Good flow before x next → x ≢ 32 → FirmNext text p x → InLine level text p before
    → Has text p (encode_utf8 x)
    → Through flow level text p (keeps (encode_utf8 x)) (p + length (encode_utf8 x))
char_through flow level text p before x next g space n s h =
    let c = char_at flow level text p x g.plainly h in
    let f = firm flow level text p x (encode_utf8 x) c in
    let k = stays_at flow level text p before x next f g n s in
    let one = through_byte flow level text p c.first before s k c.here (ap (λ b. is_blank b) (sym c.here) ∙ f.blank space g.tab) c.ends c.width in
    let both = through_both flow level text p (p + 1) (p + length (encode_utf8 x)) (Kept (c.first ∷ []) ∷ []) (keeps c.rest) one (c.tail one.stand) in
    subst (λ (bs : List ℕ). Through flow level text p (keeps bs) (p + length (encode_utf8 x))) (sym c.is) both

-- ---- a space

pub space_spot : (flow : Bool) (level : ℕ) (text : List ℕ) (p : ℕ) → byte text p ≡ 32
    → spot_at flow level text p ≡ Takes (Blank 32) (p + 1)
space_spot flow level text p h = grind (arith, nat_tests, calm_from, spot_blank, calm_break, space_blank, no_tab)

-- columns and lines after a space
pub record Spaced (text : List ℕ) (p : ℕ) : Type 0 where
  pub ends : ends_break text p ≡ false
  pub column : column_at text (p + 1) ≡ column_at text p + 1
  pub leading : leads text (p + 1) ≡ leads text p
  pub white : after_white text (p + 1) ≡ true
  pub inside : p < length text

pub spaced : (text : List ℕ) (p : ℕ) → byte text p ≡ 32 → Spaced text p
spaced text p h =
    let calm = calm_from 32 (omega arith) (omega arith) in
    let ends : ends_break text p ≡ false = rw h (calm_end _ _ 32 _ calm) in
    let blank = space_blank (byte text p) h in
    record { ends = ends; column = column_more text p ends (rw h refl); leading = leads-blank text p blank; white = white-blank text p blank; inside = blank_inside text p blank }

further : (b : Bool) (m n level : ℕ) → n ≡ m + 1 → (b && nat_lt m level) ≡ false
    → (b && nat_lt n level) ≡ false
further false m n level e h = refl
further true m n level e h = grind (arith, nat_tests)

pub stand_space : (level : ℕ) (text : List ℕ) (p before : ℕ) → byte text p ≡ 32
    → InLine level text p before → InLine level text (p + 1) 32
stand_space level text p before h s = grind (arith, nat_tests, spaced, column_on, further)

-- ---- a fold

lined_up : (text : List ℕ) (q k n : ℕ) → Has text q (replicate n 32) → column_at text q ≡ k
    → leads text q ≡ true → (column_at text (q + n) ≡ k + n) × (leads text (q + n) ≡ true)
lined_up text q k zero h c l = grind (arith, nat_tests)
lined_up text q k (suc n) (e, h) c l =
    let d = spaced text q e in
    let far : q + suc n ≡ q + 1 + n = omega arith in
    let deep : k + suc n ≡ k + 1 + n = omega arith in
    rw (far, deep) (lined_up text (q + 1) (k + 1) n h (d.column ∙ ap (λ i. i + 1) c) (d.leading ∙ l))

blanks_read : (flow : Bool) (level : ℕ) (text : List ℕ) (q n : ℕ) (ps : List Piece) (e place : ℕ)
    (broke : Bool) → Has text q (replicate n 32) → is_nothing ps ≡ false
    → Read flow level text (q + n) ps e place broke
    → Read flow level text q (blanks_of n ++ ps) e place broke
blanks_read flow level text q zero ps e place broke h some r = rw add-zero at r
blanks_read flow level text q (suc n) ps e place broke (b, h) some r =
    let d = spaced text q b in
    let far : q + suc n ≡ q + 1 + n = omega arith in
    read_blank flow level text q 32 (blanks_of n ++ ps) e place broke (space_spot flow level text q b) d.inside (some_behind n ps some)
    (blanks_read flow level text (q + 1) n ps e place broke h some (subst (λ k. Read flow level text k ps e place broke) far r))
  where
    some_behind : (n : ℕ) (ps : List Piece) → is_nothing ps ≡ false
        → is_nothing (blanks_of n ++ ps) ≡ false
    some_behind zero ps h = h
    some_behind (suc n) ps h = refl

-- an end of a line is there, before a space
pub record EndAt (text : List ℕ) (p : ℕ) (e : LineEnd) : Type 0 where
  width : break_width text p ≡ length (end_bytes e)
  some : 0 < length (end_bytes e)
  read : feed_at text p ≡ end_means e

end_at : (text : List ℕ) (p : ℕ) (e : LineEnd) (xs : List ℕ) → is_plain_end e ≡ true
    → Has text p (end_bytes e ++ 32 ∷ xs) → EndAt text p e
unfolding break_value break_of
end_at text p feed xs good (a, (b, h)) = record { width = rw a refl; some = omega arith; read = rw a refl }
end_at text p return xs good (a, (b, h)) = record { width = rw (a, b) refl; some = omega arith; read = rw (a, b) refl }
end_at text p return_feed xs good (a, (b, h)) = record { width = rw (a, b) refl; some = omega arith; read = rw (a, b) refl }
end_at text p next_line xs good h = absurd (true≢false (sym good))
end_at text p line_separator xs good h = absurd (true≢false (sym good))
end_at text p paragraph_separator xs good h = absurd (true≢false (sym good))

-- a fold, and what is after it
pub record Folded (flow : Bool) (level : ℕ) (text : List ℕ) (p n : ℕ) (e : LineEnd) : Type 0 where
  pub reads : (ps : List Piece) (f place : ℕ) (broke : Bool) → is_nothing ps ≡ false
      → Read flow level text (p + length (end_bytes e) + n) ps f place broke
      → Read flow level text p (Break (end_means e) ∷ (blanks_of n ++ ps)) f place broke
  pub stand : InLine level text (p + length (end_bytes e) + n) 32

some_blanks : (n : ℕ) (ps : List Piece) → is_nothing ps ≡ false
    → is_nothing (blanks_of n ++ ps) ≡ false
some_blanks zero ps h = h
some_blanks (suc n) ps h = refl

pub folded_at : (flow : Bool) (level : ℕ) (text : List ℕ) (p m : ℕ) (e : LineEnd)
    → is_plain_end e ≡ true → level ≤ suc m → Has text p (end_bytes e ++ replicate (suc m) 32)
    → Folded flow level text p (suc m) e
folded_at flow level text p m e good deep h =
    let n = suc m in
    let a = end_at text p e (replicate m 32) good h in
    let some : 0 < break_width text p = let w = a.width in let s = a.some in omega (arith, w, s) in
    let past = past_break text p some in
    let seat = lead_break text p some in
    let q = p + length (end_bytes e) in
    let same : p + break_width text p ≡ q = ap (λ k. p + k) a.width in
    let blanks = has_rest text p (end_bytes e) (replicate n 32) h in
    let up = lined_up text q 0 n blanks (subst (λ k. column_at text k ≡ 0) same past.column) (subst (λ k. leads text k ≡ true) same (sym seat.leading)) in
    let col : column_at text (q + n) ≡ n = up.0 ∙ (let z : 0 + n ≡ n = omega arith in z) in
    let spot : spot_at flow level text p ≡ Takes (Break (end_means e)) q = spot_break flow level text p some ∙ ap (λ v. Takes (Break v) (p + break_width text p)) a.read ∙ ap (λ k. Takes (Break (end_means e)) k) same in
    let more : p < q = let s = a.some in omega (arith, s) in
    record {
      reads = λ ps f place broke nonempty r.
          read_break flow level text p q (end_means e) (blanks_of n ++ ps) f place broke spot more (subst (λ k. k ≤ length text) same past.inside) (some_blanks n ps nonempty)
          (blanks_read flow level text q n ps f place broke blanks nonempty r);
      stand = record {
        column = omega (arith, col);
        inner = ap (λ k. leads text (q + n) && nat_lt k level) col ∙ ap (λ t. leads text (q + n) && t) (le-ltb n level deep) ∙ and-false (leads text (q + n));
        white = λ w. refl;
      };
    }

-- ---- all parts

some_part : (n x : ℕ) (q : QuotedPart) (ps : List Piece) → IsOne n q x
    → is_nothing (read_as q ++ ps) ≡ false
some_part n x (raw c) ps e =
    elim (cases_Bool (is_blank c)) [
      | inl b ↦ subst (λ (t : List Piece). is_nothing (t ++ ps) ≡ false) (sym (raw_blank c b)) refl
      | inr b ↦ let s = encoded_front c in subst (λ (t : List Piece). is_nothing (t ++ ps) ≡ false) (sym (raw_kept c b)) (subst (λ (t : List ℕ). is_nothing (keeps t ++ ps) ≡ false) (sym s.is) refl)
    ]
some_part n x (fold t ts) ps e = refl
some_part n x _ ps e = absurd e

some_parts : (n : ℕ) (ps : List QuotedPart) (x : ℕ) (xs : List ℕ) → Spells n ps (x ∷ xs)
    → is_nothing (all_read_as ps) ≡ false
unfolding all_read_as
some_parts n [] x xs h = absurd h
some_parts n (p ∷ ps) x xs (a, h) = some_part n x p (all_read_as ps) a

-- what follows a part that is white
pub behind_white : (n : ℕ) (ps : List QuotedPart) (xs : List ℕ) → Spells n ps xs
    → (last_or 32 xs == 32) ≡ false → is_nothing (all_read_as ps) ≡ false
unfolding last_or
behind_white n ps [] h l = absurd (true≢false l)
behind_white n ps (x ∷ xs) h l = some_parts n ps x xs h

-- the character after a colon
pub colon_next : (flow : Bool) (level n : ℕ) (text : List ℕ) (p before : ℕ) (ps : List QuotedPart)
    (xs : List ℕ) → Spells n ps xs → AreGood flow before xs → Has text p (spelling ps)
    → (first xs ≢ 0) × (first xs ≢ 32) × (first xs ≢ 9) → is_blank_or_end text p ≡ false
unfolding spelling
colon_next flow level n text p before ps [] s g h (a, b, c) = absurd (a refl)
colon_next flow level n text p before [] (x ∷ xs) s g h d = absurd s
colon_next flow level n text p before (raw c ∷ ps) (x ∷ xs) (e, s) (g, gs) h (a, b, d) =
    let at = char_at flow level text p x g.plainly (subst (λ k. Has text p (encode_utf8 k)) e (has_front text p (encode_utf8 c) (spelling ps) h)) in
    let f = firm flow level text p x (encode_utf8 x) at in
    rw (f.blank b d, f.some a, at.width) refl
colon_next flow level n text p before (doubled ∷ ps) (x ∷ xs) (e, s) g h d = absurd e
colon_next flow level n text p before (named i bytes ∷ ps) (x ∷ xs) (e, s) g h d = absurd e
colon_next flow level n text p before (numbered i digits c ∷ ps) (x ∷ xs) (e, s) g h d = absurd e
colon_next flow level n text p before (fold t ts ∷ ps) (x ∷ xs) (e, s) g h (a, b, d) = absurd (b e.0)
colon_next flow level n text p before (joint t ts ∷ ps) (x ∷ xs) (e, s) g h d = absurd e

-- ==== A plain scalar's parts, one after the other, are read as one scalar.

-- ---- all parts

no_zero : (n : ℕ) → n ≡ 0 → n ≡ 32 → ⊥
no_zero n e f = omega (arith, e, f)

next_firm : (flow : Bool) (level n : ℕ) (text : List ℕ) (p before x : ℕ) (ps : List QuotedPart)
    (xs : List ℕ) → Good flow before x (first xs) → Spells n ps xs → AreGood flow x xs
    → Has text (p + length (encode_utf8 x)) (spelling ps) → FirmNext text p x
next_firm flow level n text p before x ps xs g s gs h e =
    let one : length (encode_utf8 x) ≡ 1 = ap (λ k. length (encode_utf8 k)) e ∙ ap (λ (t : List ℕ). length t) (encode_1 58 (omega arith)) in
    colon_next flow level n text (p + 1) x ps xs s gs (subst (λ k. Has text (p + k) (spelling ps)) one h) (g.colon e)

-- from a place on, up to what is read after the last part
abbrev ReadsOn : Bool → ℕ → List ℕ → ℕ → ℕ → List Piece → Type 0
ReadsOn flow level text p q ps = (place : ℕ) (broke : Bool) → Read flow level text q [] q place broke → Read flow level text p ps q place broke

space_on : (flow : Bool) (level : ℕ) (text : List ℕ) (p q : ℕ) (ps : List Piece) → byte text p ≡ 32
    → is_nothing ps ≡ false → ReadsOn flow level text (p + 1) q ps
    → ReadsOn flow level text p q (Blank 32 ∷ ps)
space_on flow level text p q ps h some more place broke r = let d = spaced text p h in read_blank flow level text p 32 ps q place broke (space_spot flow level text p h) d.inside some (more place broke r)

turn_is : (t : LineTurn) (n : ℕ) → t.spaces ≡ n
    → turn_bytes (t ∷ []) ≡ end_bytes t.end ++ replicate n 32
unfolding turn_bytes
turn_is t n e = ap (λ (xs : List ℕ). end_bytes t.end ++ xs) (append-nil (replicate t.spaces 32)) ∙ ap (λ k. end_bytes t.end ++ replicate k 32) e

fold_read : (t : LineTurn) (n : ℕ) → t.spaces ≡ n
    → read_as (fold t []) ≡ Break (end_means t.end) ∷ blanks_of n
unfolding turns_read
fold_read t n e = ap (λ (xs : List Piece). Break (end_means t.end) ∷ xs) (append-nil (blanks_of t.spaces)) ∙ ap (λ k. Break (end_means t.end) ∷ blanks_of k) e

append_long : (p : ℕ) (xs ys : List ℕ) → p + length xs + length ys ≡ p + length (xs ++ ys)
append_long p xs ys = let e : length (xs ++ ys) ≡ length xs + length ys = length-append xs ys in omega (arith, e)

same_space : (c x : ℕ) → c ≡ x → (x == 32) ≡ true → c ≡ 32
same_space c x e h = grind (arith, nat_tests)

no_space : (x : ℕ) → (x == 32) ≡ false → x ≢ 32
no_space x h e = true≢false (sym (ap (λ k. k == 32) e) ∙ h)

pub parts_read : (flow : Bool) (level m : ℕ) (text : List ℕ) (p before : ℕ) (ps : List QuotedPart)
    (xs : List ℕ) → level ≤ suc m → Spells (suc m) ps xs → AreGood flow before xs
    → (last_or before xs == 32) ≡ false → InLine level text p before
    → Has text p (spelling ps)
    → ReadsOn flow level text p (p + length (spelling ps)) (all_read_as ps)
unfolding all_read_as spelling last_or
parts_read flow level m text p before [] [] deep s g l st h = λ place broke r. let z : p + 0 ≡ p = omega arith in subst (λ k. Read flow level text k [] (p + 0) place broke) z r
parts_read flow level m text p before [] (x ∷ xs) deep s g l st h = absurd s
parts_read flow level m text p before (q ∷ ps) [] deep s g l st h = absurd s
parts_read flow level m text p before (raw c ∷ ps) (x ∷ xs) deep (e, s) (g, gs) l st h =
    elim (cases_Bool (x == 32)) [
      | inl k ↦
          let is = same_space c x e k in
          let bytes : encode_utf8 c ≡ 32 ∷ [] = ap (λ i. encode_utf8 i) is ∙ space_encodes in
          let pieces : read_as (raw c) ≡ Blank 32 ∷ [] = ap (λ i. read_as (raw i)) is ∙ (raw_blank 32 refl) in
          let all = subst (λ (bs : List ℕ). Has text p (bs ++ spelling ps)) bytes h in
          let x32 : x ≡ 32 = sym e ∙ is in
          let some = behind_white (suc m) ps xs s (subst (λ i. (last_or i xs == 32) ≡ false) x32 l) in
          let more = parts_read flow level m text (p + 1) x ps xs deep s gs l (subst (λ i. InLine level text (p + 1) i) (sym x32) (stand_space level text p before all.0 st)) all.1 in
          let far : p + 1 + length (spelling ps) ≡ p + length (32 ∷ spelling ps) = omega arith in
          subst (λ (bs : List ℕ). ReadsOn flow level text p (p + length (bs ++ spelling ps)) (read_as (raw c) ++ all_read_as ps)) (sym bytes)
          (subst (λ (rs : List Piece). ReadsOn flow level text p (p + length (32 ∷ spelling ps)) (rs ++ all_read_as ps)) (sym pieces)
          (subst (λ k. ReadsOn flow level text p k (Blank 32 ∷ all_read_as ps)) far
          (space_on flow level text p (p + 1 + length (spelling ps)) (all_read_as ps) all.0 some more)))
      | inr k ↦
          let here = subst (λ i. Has text p (encode_utf8 i ++ spelling ps)) e h in
          let rest = has_rest text p (encode_utf8 x) (spelling ps) here in
          let space = no_space x k in
          let next = next_firm flow level (suc m) text p before x ps xs g s gs rest in
          let one = char_through flow level text p before x (first xs) g space next st (has_front text p (encode_utf8 x) (spelling ps) here) in
          let q = p + length (encode_utf8 x) in
          let st2 : InLine level text q x = record { column = one.stand.column; inner = one.stand.inner; white = λ w. absurd (no_zero 0 refl (one.stand.white w)) } in
          let more = parts_read flow level m text q x ps xs deep s gs l st2 rest in
          let pieces : read_as (raw x) ≡ keeps (encode_utf8 x) = raw_kept x (rw (k, ne_eqb x 9 g.tab) refl) in
          subst (λ i. ReadsOn flow level text p (p + length (encode_utf8 i ++ spelling ps)) (read_as (raw i) ++ all_read_as ps)) (sym e)
          (subst (λ (rs : List Piece). ReadsOn flow level text p (p + length (encode_utf8 x ++ spelling ps)) (rs ++ all_read_as ps)) (sym pieces)
          (subst (λ k. ReadsOn flow level text p k (keeps (encode_utf8 x) ++ all_read_as ps)) (append_long p (encode_utf8 x) (spelling ps))
          (λ place broke r. one.reads (all_read_as ps) (q + length (spelling ps)) place broke (more place broke r))))
    ]
parts_read flow level m text p before (fold t [] ∷ ps) (x ∷ xs) deep (e, s) (g, gs) l st h =
    let x32 = e.0 in
    let n = suc m in
    let bytes = turn_is t n e.1 in
    let pieces = fold_read t n e.1 in
    let all = subst (λ (bs : List ℕ). Has text p (bs ++ spelling ps)) bytes h in
    let f = folded_at flow level text p m t.end e.3 deep (has_front text p (end_bytes t.end ++ replicate n 32) (spelling ps) all) in
    let far : p + length (end_bytes t.end) + n ≡ p + length (end_bytes t.end ++ replicate n 32) = ap (λ k. p + length (end_bytes t.end) + k) (sym (length_spaces n)) ∙ append_long p (end_bytes t.end) (replicate n 32) in
    let q = p + length (end_bytes t.end) + n in
    let rest = subst (λ k. Has text k (spelling ps)) (sym far) (has_rest text p (end_bytes t.end ++ replicate n 32) (spelling ps) all) in
    let some = behind_white n ps xs s (subst (λ i. (last_or i xs == 32) ≡ false) x32 l) in
    let more = parts_read flow level m text q x ps xs deep s gs l (subst (λ i. InLine level text q i) (sym x32) f.stand) rest in
    subst (λ (bs : List ℕ). ReadsOn flow level text p (p + length (bs ++ spelling ps)) (read_as (fold t []) ++ all_read_as ps)) (sym bytes)
    (subst (λ (rs : List Piece). ReadsOn flow level text p (p + length ((end_bytes t.end ++ replicate n 32) ++ spelling ps)) (rs ++ all_read_as ps)) (sym pieces)
    (subst (λ k. ReadsOn flow level text p k ((Break (end_means t.end) ∷ blanks_of n) ++ all_read_as ps)) (ap (λ k. k + length (spelling ps)) far ∙ append_long p (end_bytes t.end ++ replicate n 32) (spelling ps))
    (λ place broke r. f.reads (all_read_as ps) (q + length (spelling ps)) place broke some (more place broke r))))
parts_read flow level m text p before (fold t (u ∷ us) ∷ ps) (x ∷ xs) deep (e, s) g l st h = grind (arith, nat_tests)
parts_read flow level m text p before _ (x ∷ xs) deep (e, s) g l st h = absurd e

-- ---- the gap after

some_gap : (b : ℕ) → (b == 32 || (b == 10 || b == 13)) ≡ true → 0 < b
some_gap b h = grind (arith, nat_tests)

gap_inside : (text : List ℕ) (p : ℕ) (gap : List ℕ) → p ≤ length text → Has text p gap
    → are_gap gap ≡ true → p + length gap ≤ length text
gap_inside text p [] l h are = omega arith
gap_inside text p (b ∷ bs) l (e, h) are =
    let (front, back) = and_parts (b == 32 || (b == 10 || b == 13)) (are_gap bs) are in
    let some = some_gap b front in
    let here = within text p (omega (arith, e, some)) in
    let more = gap_inside text (p + 1) bs (omega (arith, here)) h back in
    omega (arith, more)

pub gap_read : (flow : Bool) (level : ℕ) (text : List ℕ) (p : ℕ) (gap : List ℕ) → Has text p gap
    → are_gap gap ≡ true → Stops flow level text (p + length gap)
    → Read flow level text p [] p (p + length gap) (has_break gap)
gap_read flow level text p gap h are stop = grind (arith, nat_tests, gap_inside, gap_words)

-- ---- the first character

abbrev pub said : List ℕ → ℕ → ℕ → Bool → PlainText
said value e place broke = record { value = value; end = e; place = place; broke = broke }

begun : (flow : Bool) (level : ℕ) (text : List ℕ) (p b : ℕ) (ps : List Piece) (e place : ℕ)
    (broke : Bool) → byte text p ≡ b → p < length text
    → Read flow level text (p + 1) ps e place broke
    → plain_at flow level text p ≡ Ok (said (value_of (Kept (b ∷ []) ∷ ps)) e place broke)
begun flow level text p b ps e place broke h i r = grind (arith, nat_tests, kept_sealed)

-- a character, which isn't white, and parts after it
pub scalar_read : (flow : Bool) (level m quote : ℕ) (text : List ℕ) (p c : ℕ) (ps : List QuotedPart)
    (xs : List ℕ) (place : ℕ) (broke : Bool) → level ≤ suc m → IsSpelling quote (raw c ∷ ps)
    → Spells (suc m) ps xs → c ≢ 32 → AreGood flow 32 (c ∷ xs) → (last_or c xs == 32) ≡ false
    → Has text p (spelling (raw c ∷ ps))
    → Read flow level text (p + length (spelling (raw c ∷ ps))) []
    (p + length (spelling (raw c ∷ ps))) place broke
    → plain_at flow level text p ≡ Ok
    (said (meaning (raw c ∷ ps)) (p + length (spelling (raw c ∷ ps))) place broke)
unfolding spelling all_read_as
scalar_read flow level m quote text p c ps xs place broke deep right s space (g, gs) l h r =
    let at = char_at flow level text p c g.plainly (has_front text p (encode_utf8 c) (spelling ps) h) in
    let f = firm flow level text p c (encode_utf8 c) at in
    let blank = f.blank space g.tab in
    let st = stand_behind level text p 0 blank at.ends (column_start text p at.ends (ap (λ b. starts b) at.here ∙ at.starts)) in
    let tail = at.tail st in
    let q = p + length (encode_utf8 c) in
    let st2 : InLine level text q c = record { column = tail.stand.column; inner = tail.stand.inner; white = λ w. absurd (no_zero 0 refl (tail.stand.white w)) } in
    let long = append_long p (encode_utf8 c) (spelling ps) in
    let end = p + length (encode_utf8 c ++ spelling ps) in
    let r2 = subst (λ k. Read flow level text k [] k place broke) (sym long) r in
    let more = parts_read flow level m text q c ps xs deep s gs l st2 (has_rest text p (encode_utf8 c) (spelling ps) h) place broke r2 in
    let all = tail.reads (all_read_as ps) (q + length (spelling ps)) place broke more in
    let whole = begun flow level text p at.first (keeps at.rest ++ all_read_as ps) (q + length (spelling ps)) place broke at.here (within text p (positive (byte text p) (f.some g.some))) all in
    let same : keeps at.rest ≡ keeps at.rest = refl in
    let pieces : read_as (raw c) ≡ Kept (at.first ∷ []) ∷ keeps at.rest = raw_kept c (rw (ne_eqb c 32 space, ne_eqb c 9 g.tab) refl) ∙ ap (λ (bs : List ℕ). keeps bs) at.is in
    whole
    ∙ ap (λ (rs : List Piece). let y : Result PlainText Wrong = Ok (said (value_of (rs ++ all_read_as ps)) (q + length (spelling ps)) place broke) in y) (sym pieces)
    ∙ ap (λ (v : List ℕ). let y : Result PlainText Wrong = Ok (said v (q + length (spelling ps)) place broke) in y) (spelling_value quote (raw c ∷ ps) right)
    ∙ ap (λ k. let y : Result PlainText Wrong = Ok (said (meaning (raw c ∷ ps)) k place broke) in y) long
