-- Layouts whose bytes and last cursor are known where the first cursor is.
use Rattle.std.proofs.Common.{◌≡◌, ℕ, ◌+◌, ◌-◌, ◌<◌, ◌≤◌, List, [], ◌∷◌, ◌++◌, length, Bool, true, false, refl, sym, subst, ◌∙◌, ap, append_assoc, arith, encode_utf8}
use lib.Utf8.{encode as encoded}
use Rattle.std.specs.Prelude.{zero, suc, replicate, ◌==◌, ◌&&◌, ◌||◌, nat_lt, not}
use Rattle.std.specs.Str.{IsAscii}
use Rattle.std.proofs.lemmas.Str.{IsAscii-drop}
use Rattle.std.proofs.lemmas.Bool.Decides.{nat_tests}
use Rattle.std.proofs.lemmas.Bool.{false≢true, or_parts, ltb-false, eq-eqb}
use Rattle.yaml_emit_layout.specs.declared.cursor.Cursor.{Cursor}
use Rattle.yaml_emit_layout.specs.declared.cursor.Status.TheVariants.{Going}
use Rattle.yaml_emit_layout.specs.declared.settings.Encoding.TheVariants.{Utf8}
use Rattle.yaml_emit_layout.specs.declared.settings.LineBreak.{LineBreak}
use Rattle.yaml_emit_layout.specs.declared.settings.LineBreak.TheVariants.{Lf, Cr, CrLf}
use Rattle.yaml_emit_layout.specs.Text.{Item, letter, encode, char_bytes, is_deep, shallow}
use Rattle.yaml_emit_layout.specs.Layout.{Layout, Rest, ◌▹◌, stay, when, char, letters, blank, blanks, gap, word, indicator, new_line, line, must_break, indent_to, after_text}
use Rattle.yaml_emit_layout.specs.Appends.{lettered}
use Rattle.yaml_emit_layout.specs.Sink.{Output, Puts}
use Rattle.yaml_emit_layout.proofs.Sinks.{Leads, puts_sure, stepped, stepped_none, stepped_is, blanks_lead, cond_true, cond_false}
use Rattle.yaml_scan_runs.specs.Placed.{due_byte}
use Rattle.yaml_emit_output.specs.Placed.{break_bytes, mark_bytes}
use Rattle.yaml_emit_output.specs.Draft.{line_mark}

-- from one cursor the layout puts these bytes and ends at the other
pub record Goes (a : Layout) (from to : Cursor) (bytes : List ℕ) : Type 0 where
  pub leads : (rest : Rest) → Leads Utf8 (a from rest) (rest to) bytes

-- the cursor with all its fields
abbrev pub at : ℕ → Bool → Bool → Bool → Cursor
at k white bare kept = record { column = k; white = white; bare = bare; kept = kept }

leads_then : (x y z : List Item) (xs ys : List ℕ) → Leads Utf8 x y xs → Leads Utf8 y z ys
    → Leads Utf8 x z (xs ++ ys)
leads_then x y z xs ys p q = record {
  all = p.all ∙ ap (λ t. xs ++ t) q.all ∙ sym (append_assoc xs ys (encode Utf8 z));
  deep = p.deep ∙ q.deep;
  front = p.front ∙ ap (λ t. xs ++ t) q.front ∙ sym (append_assoc xs ys (encode Utf8 (shallow z)));
}

pub goes_then : (a b : Layout) (c d e : Cursor) (xs ys : List ℕ) → Goes a c d xs → Goes b d e ys
    → Goes (a ▹ b) c e (xs ++ ys)
goes_then a b c d e xs ys p q = record { leads = λ rest. leads_then _ _ _ xs ys (p.leads (λ f. b f rest)) (q.leads rest) }

-- a layout that is another at the cursor
pub goes_as : (a b : Layout) (c d : Cursor) (xs : List ℕ) → ((rest : Rest) → a c rest ≡ b c rest)
    → Goes b c d xs → Goes a c d xs
goes_as a b c d xs e p = record { leads = λ rest. let P : List Item → Type 0 = λ t. Leads Utf8 t (rest d) xs in subst P (sym (e rest)) (p.leads rest) }

pub goes_to : (a : Layout) (c d e : Cursor) (xs : List ℕ) → d ≡ e → Goes a c d xs → Goes a c e xs
goes_to a c d e xs q p = let P : Cursor → Type 0 = λ z. Goes a c z xs in subst P q p

-- the cursor alone is moved
pub goes_moved : (f : Cursor → Cursor) (c : Cursor) → Goes (λ d rest. rest (f d)) c (f c) []
goes_moved f c = record { leads = λ rest. record { all = refl; deep = refl; front = refl } }

pub goes_none : (c : Cursor) → Goes stay c c []
goes_none c = record { leads = λ rest. record { all = refl; deep = refl; front = refl } }

one_byte : (x : ℕ) → x < 0x80 → char_bytes Utf8 x ≡ x ∷ []
unfolding char_bytes
one_byte x h = grind arith

-- a character of one byte, whatever the cursor becomes
pub goes_stroke : (x : ℕ) (f : Cursor → Cursor) (c : Cursor) → x < 0x80
    → Goes (λ d rest. letter x ∷ rest (f d)) c (f c) (x ∷ [])
unfolding encode is_deep shallow
goes_stroke x f c h = record {
  leads = λ rest. record {
    all = ap (λ (t : List ℕ). t ++ encode Utf8 (rest (f c))) (one_byte x h);
    deep = refl;
    front = ap (λ (t : List ℕ). t ++ encode Utf8 (shallow (rest (f c)))) (one_byte x h);
  };
}

-- any character, by its bytes
pub goes_wide : (x : ℕ) (f : Cursor → Cursor) (c : Cursor)
    → Goes (λ d rest. letter x ∷ rest (f d)) c (f c) (encode_utf8 x)
unfolding encode char_bytes is_deep shallow encoded
goes_wide x f c = record { leads = λ rest. record { all = refl; deep = refl; front = refl } }

pub goes_char : (x : ℕ) (c : Cursor) → x < 0x80 → Goes (char x) c (lettered 1 c) (x ∷ [])
goes_char x c h = goes_stroke x (lettered 1) c h

-- a character where it is due
abbrev pub lettered_if : Bool → Cursor → Cursor
lettered_if true c = lettered 1 c
lettered_if false c = c

pub goes_due : (b : Bool) (x : ℕ) (c : Cursor) → x < 0x80
    → Goes (when b (char x)) c (lettered_if b c) (due_byte b x)
goes_due true x c h = goes_char x c h
goes_due false x c h = goes_none c

goes_gap_at : (k : ℕ) (white bare kept : Bool)
    → Goes gap (at k white bare kept) (at (k + length (due_byte (not white) 32)) true bare kept)
    (due_byte (not white) 32)
goes_gap_at k true bare kept =
    let e : k ≡ k + 0 = omega arith in
    goes_to gap _ _ _ _ (ap (λ z. at z true bare kept) e) (goes_as gap stay (at k true bare kept) (at k true bare kept) [] (λ rest. refl) (goes_none (at k true bare kept)))
goes_gap_at k false bare kept = goes_as gap blank (at k false bare kept) (at (k + 1) true bare kept) (32 ∷ []) (λ rest. refl) (goes_stroke 32 (λ d. at (d.column + 1) true d.bare d.kept) (at k false bare kept) (omega arith))

-- a space where it is due
pub goes_gap : (c : Cursor) → Goes gap c
    (at (c.column + length (due_byte (not c.white) 32)) true c.bare c.kept)
    (due_byte (not c.white) 32)
goes_gap c = goes_gap_at c.column c.white c.bare c.kept

-- the cursor after characters
unfoldable pub behind : List ℕ → Cursor → Cursor
behind [] c = c
behind (x ∷ xs) c = behind xs (lettered 1 c)

pub goes_letters : (xs : List ℕ) (c : Cursor) → IsAscii xs → Goes (letters xs) c (behind xs c) xs
unfolding letters behind
goes_letters [] c h = goes_none c
goes_letters (x ∷ xs) c h = goes_then (char x) (letters xs) c (lettered 1 c) (behind xs (lettered 1 c)) (x ∷ []) xs (goes_char x c (h 0)) (goes_letters xs (lettered 1 c) (IsAscii-drop (x ∷ xs) 1 h))

-- after characters and then `after_text`, of which there may be none
pub behind_text : (xs : List ℕ) (c : Cursor)
    → at (behind xs c).column false false (behind xs c).kept ≡ at
    (c.column + length xs) false false c.kept
unfolding behind
behind_text [] c = let e : c.column ≡ c.column + 0 = omega arith in ap (λ z. at z false false c.kept) e
behind_text (x ∷ xs) c = let e : c.column + 1 + length xs ≡ c.column + length (x ∷ xs) = omega arith in behind_text xs (lettered 1 c) ∙ ap (λ z. at z false false c.kept) e

pub goes_text : (xs : List ℕ) (c : Cursor) → IsAscii xs
    → Goes (letters xs ▹ after_text) c (at (c.column + length xs) false false c.kept) (xs ++ [])
goes_text xs c h = goes_to (letters xs ▹ after_text) _ _ _ _ (behind_text xs c) (goes_then (letters xs) after_text c (behind xs c) _ xs [] (goes_letters xs c h) (goes_moved (λ d. at d.column false false d.kept) (behind xs c)))

-- one at least
pub behind_some : (x : ℕ) (xs : List ℕ) (c : Cursor)
    → behind (x ∷ xs) c ≡ at (c.column + length (x ∷ xs)) false false c.kept
unfolding behind
behind_some x [] c = refl
behind_some x (y ∷ ys) c = let e : c.column + 1 + length (y ∷ ys) ≡ c.column + length (x ∷ y ∷ ys) = omega arith in behind_some y ys (lettered 1 c) ∙ ap (λ z. at z false false c.kept) e

pub goes_blanks : (n : ℕ) (c : Cursor) → Goes (blanks n) c (stepped n c) (replicate n 32)
goes_blanks n c = record { leads = λ rest. blanks_lead n c rest }

abbrev pub home : Cursor → Cursor
home c = at 0 true true c.kept

pub goes_new_line : (k : LineBreak) (c : Cursor) → Goes (new_line k) c (home c) (break_bytes k)
goes_new_line Lf c = goes_stroke 10 home c (omega arith)
goes_new_line Cr c = goes_stroke 13 home c (omega arith)
goes_new_line CrLf c = goes_then (char 13) (λ d rest. letter 10 ∷ rest (home d)) c (lettered 1 c) (home c) (13 ∷ []) (10 ∷ []) (goes_char 13 c (omega arith)) (goes_stroke 10 home (lettered 1 c) (omega arith))

stepped_to : (i n k : ℕ) (white kept : Bool) → i ≡ n - k → k ≤ n → (i ≡ 0 → white ≡ true)
    → stepped i (at k white true kept) ≡ at n true true kept
stepped_to zero n k white kept e h w =
    let s : k ≡ n = omega (arith, e, h) in
    stepped_none (at k white true kept) ∙ ap (λ z. at z white true kept) s ∙ ap (λ z. at n z true kept) (w refl)
stepped_to (suc i) n k white kept e h w = let s : k + suc i ≡ n = omega (arith, e, h) in stepped_is i (at k white true kept) ∙ ap (λ z. at z true true kept) s

-- a line that is broken, and one that isn't
pub goes_broken : (k : LineBreak) (n : ℕ) (c : Cursor) → must_break n c ≡ true
    → Goes (line k n) c (at n true true c.kept) (break_bytes k ++ replicate n 32)
unfolding line
goes_broken k n c m =
    goes_as (line k n) (new_line k ▹ indent_to n) c _ _ (λ rest. cond_true (must_break n c) (new_line k c (λ d. indent_to n d rest)) (indent_to n c rest) m)
    (goes_then (new_line k) (indent_to n) c (home c) _ (break_bytes k) (replicate n 32) (goes_new_line k c)
    (goes_to (indent_to n) (home c) _ _ _ (stepped_to n n 0 true c.kept (omega arith) (omega arith) (λ z. refl))
    (goes_as (indent_to n) (blanks n) (home c) (stepped n (home c)) (replicate n 32) (λ rest. let e : n - 0 ≡ n = omega arith in ap (λ z. blanks z (home c) rest) e) (goes_blanks n (home c)))))

joined : (n k : ℕ) (white bare kept : Bool) → must_break n (at k white bare kept) ≡ false
    → stepped (n - k) (at k white bare kept) ≡ at n true true kept
joined n k white false kept m = absurd (cc)
joined n k true true kept m =
    let p = or_parts (nat_lt n k) (k == n && false) m in
    stepped_to (n - k) n k true kept refl (ltb-false n k p.0) (λ z. refl)
joined n k false true kept m =
    let p = or_parts (nat_lt n k) (k == n && true) m in
    let less = ltb-false n k p.0 in
    stepped_to (n - k) n k false kept refl less (λ z. absurd (false≢true (sym p.1 ∙ ap (λ (b : Bool). b && true) (eq-eqb k n (omega (arith, less, z))))))

pub goes_joined : (k : LineBreak) (n : ℕ) (c : Cursor) → must_break n c ≡ false
    → Goes (line k n) c (at n true true c.kept) (replicate (n - c.column) 32)
unfolding line
goes_joined k n c m =
    goes_as (line k n) (blanks (n - c.column)) c _ _ (λ rest. cond_false (must_break n c) (new_line k c (λ d. indent_to n d rest)) (indent_to n c rest) m)
    (goes_to (blanks (n - c.column)) c _ _ _ (joined n c.column c.white c.bare c.kept m) (goes_blanks (n - c.column) c))

-- whether a mark is none
unfoldable pub is_none : ℕ → Bool
is_none zero = true
is_none (suc m) = false

pub none_is : (m : ℕ) → (m == 0) ≡ is_none m
unfolding is_none
none_is zero = refl
none_is (suc m) = grind (arith, nat_tests)

word_one : (x n : ℕ) (kept : Bool) → x < 0x80
    → Goes (word (x ∷ [])) (at n true true kept) (at (n + 1) false false kept) (x ∷ [])
unfolding letters
word_one x n kept h = goes_as (word (x ∷ [])) (char x) (at n true true kept) (at (n + 1) false false kept) (x ∷ []) (λ rest. refl) (goes_char x (at n true true kept) h)

-- a mark after an indentation
pub goes_mark : (m n : ℕ) (block kept : Bool) → m < 0x80
    → Goes (line_mark m block) (at n true true kept) (at (n + length (mark_bytes m)) (is_none m) (is_none m || block) kept) (mark_bytes m)
unfolding is_none
goes_mark zero n block kept h = let e : n ≡ n + 0 = omega arith in goes_to stay _ _ _ _ (ap (λ z. at z true true kept) e) (goes_none (at n true true kept))
goes_mark (suc m) n true kept h = goes_as (indicator (suc m)) _ (at n true true kept) _ _ (λ rest. refl) (goes_stroke (suc m) (λ d. at (d.column + 1) false d.bare d.kept) (at n true true kept) h)
goes_mark (suc m) n false kept h = word_one (suc m) n kept h

-- what a layout goes through was put
pub puts_goes : (a b : Output) (y : Layout) (xs : List ℕ) → a.status ≡ Going → a.encoding ≡ Utf8
    → b.status ≡ a.status → b.encoding ≡ a.encoding
    → b.limit ≡ a.limit → b.bytes ≡ a.bytes ++ xs → length a.bytes + length xs ≤ a.limit → Goes y a.cursor b.cursor xs → Puts a b y
puts_goes a b y xs g u t e l o r p = puts_sure a b y xs (λ _. b.cursor) g t e l (λ rest. rw u (p.leads rest)) o r refl
