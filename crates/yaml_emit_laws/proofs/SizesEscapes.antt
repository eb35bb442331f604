-- How long an escape is.
use Rattle.std.proofs.Common.{◌≡◌, ℕ, ◌+◌, ◌*◌, ◌<◌, ◌≤◌, Bool, true, false, ◌&&◌, nat_lt, if◌then◌else◌, List, [], ◌∷◌, ◌++◌, length, refl, arith, le_refl, mul-le-mul_left}
use Rattle.yaml_emit_laws.proofs.Shared.{nat_tests, cases_Bool, ltb-true, lt-ltb, and_from, Encoding, char_bytes, escape_letter, escape_text, hex_4, hex_8, hex_2, unit, text_bytes, most_of_escape, EscapesAreShort}
use Rattle.yaml_emit_layout.specs.Hex.{hex_digit}
use Rattle.yaml_emit_laws.proofs.SizesCounting.{all_ascii, ascii_bytes}

-- No character takes more than four units of its encoding.
pub raw_most : (x : Encoding) (c : ℕ) → length (char_bytes x c) ≤ unit x * 4
unfolding char_bytes
raw_most x c = grind arith

-- ---- letters and digits

small_if : (b : Bool) (x y : ℕ) → nat_lt x 128 ≡ true → nat_lt y 128 ≡ true
    → nat_lt (if b then x else y) 128 ≡ true
small_if b x y e f = grind (arith, nat_tests)

letter_small : (c : ℕ) → nat_lt (escape_letter c) 128 ≡ true
unfolding escape_letter
letter_small c = grind (arith, small_if)

all_append : (xs ys : List ℕ) → all_ascii xs ≡ true → all_ascii ys ≡ true
    → all_ascii (xs ++ ys) ≡ true
all_append [] ys e f = f
all_append (x ∷ xs) ys e f = let s = parts (nat_lt x 128) (all_ascii xs) e in and_from (nat_lt x 128) (all_ascii (xs ++ ys)) s.0 (all_append xs ys s.1 f)
  where
    parts : (a b : Bool) → (a && b) ≡ true → (a ≡ true) × (b ≡ true)
    parts true b e = (refl, e)
    parts false b e = cc

digit_small : (d : ℕ) → d < 16 → nat_lt (hex_digit d) 128 ≡ true
unfolding hex_digit
digit_small d w = small_if (nat_lt d 10) (48 + d) (55 + d) (lt-ltb (48 + d) 128 (omega arith)) (lt-ltb (55 + d) 128 (omega arith))

-- Two hexadecimal digits are ASCII.
pub two_small : (n : ℕ) → n < 256 → all_ascii (hex_2 n) ≡ true
two_small n w = grind (arith, digit_small)

four_small : (n : ℕ) → n < 65536 → all_ascii (hex_4 n) ≡ true
four_small n w = grind (arith, all_append, two_small)

eight_small : (n : ℕ) → n < 0x1_0000_0000 → all_ascii (hex_8 n) ≡ true
eight_small n w = grind (arith, all_append, four_small)

-- ---- escapes

least : (c : ℕ) → 4 ≤ most_of_escape c
least c = grind (arith, le_refl)

four_most : (x : Encoding) (n c : ℕ) → n ≤ unit x * 4 → n ≤ unit x * most_of_escape c
four_most x n c w = let k : unit x * 4 ≤ unit x * most_of_escape c = mul-le-mul_left (unit x) (least c) in omega arith

escape_most : (x : Encoding) (c : ℕ) → c < 0x1_0000_0000
    → text_bytes x (escape_text c) ≤ unit x * most_of_escape c
unfolding escape_text
escape_most x c w = grind (arith, nat_tests, cases_Bool, four_most, ascii_bytes, letter_small, two_small, ltb-true, four_small, eight_small)

pub short : EscapesAreShort
short s n c w e = grind (arith, escape_most, four_most, raw_most)
