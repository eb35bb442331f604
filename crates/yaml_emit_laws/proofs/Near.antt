-- Layouts that stay in their line, by how many bytes they write.
use Rattle.std.proofs.Common.{◌≡◌, ℕ, ◌+◌, ◌*◌, ◌<◌, ◌≤◌, Bool, true, false, not, ◌&&◌, ◌==◌, nat_lt, List, [], ◌∷◌, ◌++◌, length, refl, sym, ap, subst, ◌∙◌, inl, inr, arith, append-nil, append_assoc, encode_utf8, encode_utf8_all, length-append}
use Rattle.yaml_emit_laws.proofs.ScalarWords.{cases_Bool, true≢false, and_parts, not-true, and_from, encodes-append, all_scalars, Cursor, Page, letter, is_break, Layout, Rest, ◌▹◌, stay, when, char, letters, blank, gap, word, opener, after_text, line, needs_escape, escape_text, escaped, quoted_char, quoted_body, quote_char, flow_char, flow_body, in_front, MOST, checked, is_one_line, bytes, encode_1, encode_2, encode_3, encode_4, cond_true, cond_false, AreCalm, escape_by_letter, escape_by_2, escape_by_4, escape_by_8, escape_calm, front_one, char_escaped, moved_by, spaced_by, deep_bytes, front_encodes, StaysNear}
use lib.Utf8.{scalar}
use Rattle.yaml_emit_laws.proofs.Keys.{line_append, calm_line, raw_inside}

abbrev pub size : List ℕ → ℕ
size xs = length (encode_utf8_all xs)

-- ---- composed

pub near_on : (a b : Layout) (c : Cursor) (n m : ℕ) (r : StaysNear a c n) → StaysNear b r.behind m
    → StaysNear (a ▹ b) c (n + m)
near_on a b c n m r s =
    let k = r.few in
    let l = s.few in
    let e : size (r.shown ++ s.shown) ≡ size r.shown + size s.shown = ap (λ (bs : List ℕ). length bs) (encodes-append r.shown s.shown) ∙ length-append (encode_utf8_all r.shown) (encode_utf8_all s.shown) in
    record {
      shown = r.shown ++ s.shown;
      behind = s.behind;
      written = λ rest.
          r.written (λ d. b d rest) ∙ ap (λ (bs : List ℕ). encode_utf8_all r.shown ++ bs) (s.written rest)
          ∙ sym (append_assoc (encode_utf8_all r.shown) (encode_utf8_all s.shown) (bytes (rest s.behind)))
          ∙ ap (λ (bs : List ℕ). bs ++ bytes (rest s.behind)) (sym (encodes-append r.shown s.shown));
      inside = line_append r.shown s.shown r.inside s.inside;
      few = omega (arith, k, l, e);
    }

pub near_most : (a : Layout) (c : Cursor) (n m : ℕ) → n ≤ m → StaysNear a c n → StaysNear a c m
near_most a c n m l r = record { shown = r.shown; behind = r.behind; written = r.written; inside = r.inside; few = let k = r.few in omega (arith, k, l) }

pub near_to : (a : Layout) (c d : Cursor) → ((rest : Rest) → a c rest ≡ rest d) → (n : ℕ)
    → StaysNear a c n
near_to a c d e n = record { shown = []; behind = d; written = λ rest. ap (λ t. bytes t) (e rest); inside = refl; few = omega arith }

pub near_shown : (a : Layout) (c d : Cursor) (xs : List ℕ) (n : ℕ)
    → ((rest : Rest) → a c rest ≡ in_front xs (rest d)) → is_one_line xs ≡ true → size xs ≤ n
    → StaysNear a c n
near_shown a c d xs n e l f = record { shown = xs; behind = d; written = λ rest. ap (λ t. bytes t) (e rest) ∙ front_encodes xs (rest d); inside = l; few = f }

pub near_when : (b : Bool) (a : Layout) (c : Cursor) (n : ℕ) → (b ≡ true → StaysNear a c n)
    → StaysNear (when b a) c n
near_when true a c n f = f refl
near_when false a c n f = near_to stay c c (λ rest. refl) n

one_size : (x : ℕ) → size (x ∷ []) ≡ length (encode_utf8 x)
one_size x = ap (λ (bs : List ℕ). length bs) (append-nil (encode_utf8 x))

low_size : (x : ℕ) → x < 128 → size (x ∷ []) ≡ 1
low_size x l = one_size x ∙ ap (λ (bs : List ℕ). length bs) (encode_1 x l)

calm_size : (xs : List ℕ) → AreCalm xs → size xs ≡ length xs
calm_size [] a = refl
calm_size (x ∷ xs) (a, b) = grind (arith, encode_1, encode_utf8_all, calm_size xs b)

-- a character
pub near_char : (x : ℕ) (c : Cursor) → is_break x ≡ false
    → StaysNear (char x) c (length (encode_utf8 x))
near_char x c e = let same = one_size x in near_shown (char x) c (moved_by c) (x ∷ []) (length (encode_utf8 x)) (λ rest. sym (front_one x (rest (moved_by c)))) (and_from (not (is_break x)) true (ap not e) refl) (omega (arith, same))

pub near_sign : (x : ℕ) (c : Cursor) → is_break x ≡ false → x < 128 → StaysNear (char x) c 1
near_sign x c e l = subst (λ n. StaysNear (char x) c n) (ap (λ (bs : List ℕ). length bs) (encode_1 x l)) (near_char x c e)

pub near_gap : (c : Cursor) → StaysNear gap c 1
near_gap c =
    let one = low_size 32 (omega arith) in
    elim (cases_Bool c.white) [
      | inl e ↦ near_to gap c c (λ rest. cond_true c.white (rest c) (blank c rest) e) 1
      | inr e ↦ near_shown gap c (spaced_by c) (32 ∷ []) 1 (λ rest. cond_false c.white (rest c) (blank c rest) e ∙ sym (front_one 32 (rest (spaced_by c)))) refl (omega (arith, one))
    ]

record Shown (a : Layout) (c : Cursor) (xs : List ℕ) : Type 0 where
  behind : Cursor
  written : (rest : Rest) → a c rest ≡ in_front xs (rest behind)

letters_shown : (xs : List ℕ) (c : Cursor) → Shown (letters xs) c xs
unfolding letters in_front
letters_shown [] c = record { behind = c; written = λ rest. refl }
letters_shown (x ∷ xs) c =
    let r = letters_shown xs (moved_by c) in
    record { behind = r.behind; written = λ rest. ap (λ t. letter x ∷ t) (r.written rest) }

pub near_letters : (xs : List ℕ) (c : Cursor) → AreCalm xs → StaysNear (letters xs) c (length xs)
near_letters xs c a = let r = letters_shown xs c in let same = calm_size xs a in near_shown (letters xs) c r.behind xs (length xs) r.written (calm_line xs a) (omega (arith, same))

-- a word with the space before it
pub near_word : (xs : List ℕ) (c : Cursor) → AreCalm xs → StaysNear (word xs) c (1 + length xs)
near_word xs c a = let g = near_gap c in near_on gap (letters xs) c 1 (length xs) g (near_letters xs g.behind a)

pub near_checked : (n : ℕ) (c : Cursor) → StaysNear (checked n) c 0
near_checked n c = record { shown = []; behind = c; written = λ rest. deep_bytes (nat_lt MOST n) (rest c); inside = refl; few = omega arith }

pub near_after : (c : Cursor) → StaysNear after_text c 0
near_after c = near_to after_text c (record { column = c.column; white = false; bare = false; kept = c.kept }) (λ rest. refl) 0

pub near_opener : (x : ℕ) (c : Cursor) → is_break x ≡ false → x < 128 → StaysNear (opener x) c 2
near_opener x c e l =
    let g = near_gap c in
    let d : Cursor = record { column = g.behind.column + 1; white = true; bare = false; kept = g.behind.kept } in
    let b : Layout = λ k rest. letter x ∷ rest (record { column = k.column + 1; white = true; bare = false; kept = k.kept }) in
    let one = low_size x l in
    near_on gap b c 1 1 g (near_shown b g.behind d (x ∷ []) 1 (λ rest. sym (front_one x (rest d))) (and_from (not (is_break x)) true (ap not e) refl) (omega (arith, one)))

-- ---- between single quotes, and plain

some_bytes : (c : ℕ) → 1 ≤ length (encode_utf8 c)
some_bytes c = grind (arith, encode_1, encode_2, encode_3, encode_4)

flow_is : (page : Page) (quote : Bool) (before x : ℕ) (xs : List ℕ) → is_break x ≡ false
    → is_break before ≡ false → page.cuts ≡ false
    → flow_char page quote before x xs ≡ (stay ▹ quote_char quote x)
unfolding flow_char
flow_is page quote before x xs e f g = grind (arith, cond_false)

near_quoted : (quote : Bool) (x : ℕ) (c : Cursor) → is_break x ≡ false
    → StaysNear (stay ▹ quote_char quote x) c (2 * length (encode_utf8 x))
near_quoted quote x c e =
    let some = some_bytes x in
    let n = length (encode_utf8 x) in
    let q = near_when (quote && x == 39) (char 39) c 1 (λ t. near_sign 39 c refl (omega arith)) in
    near_most (stay ▹ quote_char quote x) c (1 + n) (2 * n) (omega (arith, some)) (near_on (when (quote && x == 39) (char 39)) (char x) c 1 n q (near_char x q.behind e))

more_size : (x : ℕ) (xs : List ℕ) → size (x ∷ xs) ≡ length (encode_utf8 x) + size xs
more_size x xs = length-append (encode_utf8 x) (encode_utf8_all xs)

pub near_flow : (page : Page) (quote : Bool) (before : ℕ) (xs : List ℕ) (c : Cursor)
    → page.cuts ≡ false → is_break before ≡ false → is_one_line xs ≡ true
    → StaysNear (flow_body page quote before xs) c (2 * size xs)
unfolding flow_body
near_flow page quote before [] c g f l = near_when (is_break before) (line page.line_break page.indentation) c (2 * 0) (λ t. absurd (true≢false (sym t ∙ f)))
near_flow page quote before (x ∷ xs) c g f l =
    let here = not-true (is_break x) (and_parts (not (is_break x)) (is_one_line xs) l).0 in
    let n = 2 * length (encode_utf8 x) in
    let one = subst (λ (a : Layout). StaysNear a c n) (sym (flow_is page quote before x xs here f g)) (near_quoted quote x c here) in
    let more = near_flow page quote x xs one.behind g here (and_parts (not (is_break x)) (is_one_line xs) l).1 in
    let e = more_size x xs in
    near_most (flow_char page quote before x xs ▹ flow_body page quote x xs) c (n + 2 * size xs) (2 * size (x ∷ xs)) (omega (arith, e)) (near_on (flow_char page quote before x xs) (flow_body page quote x xs) c n (2 * size xs) one more)

-- ---- between double quotes

two_bytes : (c : ℕ) → 128 ≤ c → 2 ≤ length (encode_utf8 c)
two_bytes c u = grind (arith, encode_2, encode_3, encode_4)

escape_length : (c : ℕ) → length (escape_text c) ≤ 4 * length (encode_utf8 c)
escape_length c = grind (arith, encode_utf8, some_bytes, escape_by_letter, escape_by_2, two_bytes, escape_by_4, encode_4, escape_by_8)

near_escaped : (unicode : Bool) (x : ℕ) (c : Cursor) → scalar x ≡ true
    → StaysNear (escaped unicode x) c (4 * length (encode_utf8 x))
near_escaped unicode x c s =
    let n = 4 * length (encode_utf8 x) in
    elim (cases_Bool (needs_escape unicode x)) [
      | inl e ↦ subst (λ (a : Layout). StaysNear a c n) (sym (cond_true (needs_escape unicode x) (letters (escape_text x)) (char x) e))
          (near_most (letters (escape_text x)) c (length (escape_text x)) n (escape_length x) (near_letters (escape_text x) c (escape_calm x s)))
      | inr e ↦ subst (λ (a : Layout). StaysNear a c n) (sym (cond_false (needs_escape unicode x) (letters (escape_text x)) (char x) e))
          (near_most (char x) c (length (encode_utf8 x)) n (omega arith) (near_char x c (not-true (is_break x) (raw_inside unicode x e))))
    ]

pub near_body : (page : Page) (before : ℕ) (xs : List ℕ) (c : Cursor) → page.cuts ≡ false
    → all_scalars xs ≡ true → StaysNear (quoted_body page before xs) c (4 * size xs)
unfolding quoted_body
near_body page before [] c e g = near_to stay c c (λ rest. refl) (4 * 0)
near_body page before (x ∷ xs) c e g =
    let n = 4 * length (encode_utf8 x) in
    let one = subst (λ (a : Layout). StaysNear a c n) (sym (char_escaped page before x xs e)) (near_escaped page.unicode x c (and_parts (scalar x) (all_scalars xs) g).0) in
    let more = near_body page x xs one.behind e (and_parts (scalar x) (all_scalars xs) g).1 in
    let l = more_size x xs in
    near_most (quoted_char page before x xs ▹ quoted_body page x xs) c (n + 4 * size xs) (4 * size (x ∷ xs)) (omega (arith, l)) (near_on (quoted_char page before x xs) (quoted_body page x xs) c n (4 * size xs) one more)
