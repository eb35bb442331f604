-- Decoding, a character at a time: what a character that is at a place shows.
use Rattle.std.proofs.Common.{◌≡◌, ℕ, ◌+◌, ◌-◌, ◌*◌, ◌<◌, ◌≤◌, Bool, true, false, not, ◌&&◌, ◌==◌, nat_lt, cond, List, [], ◌∷◌, ◌++◌, take, drop, length, Result, Ok, Err, refl, arith, add-one, add-zero, drop-cons, rules}
use Rattle.std.proofs.lemmas.Bool.Decides.{nat_tests}
use Rattle.std.specs.Char.{encode_utf8}
use Rattle.std.specs.Char.Escape.{encode_utf16}
use Rattle.yaml_scan_model.specs.declared.name.yaml_encoding_t.{yaml_encoding_t}
use Rattle.yaml_scan_model.specs.declared.name.yaml_encoding_t.TheVariants.{YAML_UTF16LE_ENCODING, YAML_UTF16BE_ENCODING}
use Rattle.yaml_scan_types.specs.Marks.{byte}
use Rattle.yaml_scan_types.specs.Classes.{width_of}
use Rattle.yaml_scan_decode.specs.declared.offence.Offence.{Offence}
use Rattle.yaml_scan_decode.specs.declared.offence.Character.{Character}
use Rattle.yaml_scan_decode.specs.declared.utf16.ByteOrder.{ByteOrder}
use Rattle.yaml_scan_decode.specs.declared.utf16.ByteOrder.TheVariants.{LowFirst, HighFirst}
use Rattle.yaml_scan_decode.specs.Characters.{is_allowed, allowed_at, least_code, valued_at, is_trailing, leading_bits, utf8_code, sequence_of, utf8_of, utf8_at, unit_at, utf16_of, utf16_at, is_low_surrogate, is_high_surrogate, character_at}
use Rattle.yaml_scan_decode.specs.Spelling.{unit_bytes, units_bytes, spelling}

-- a character has four bytes at most
pub width_small : (b : ℕ) → width_of b ≤ 4
unfolding width_of
width_small b = grind (arith, nat_tests)

-- a test whose success is an offence failed where there is a character
passed : (t : Bool) (o : Offence) (r : Result Character Offence) (ch : Character)
    → cond t (Err o) r ≡ Ok ch → (t ≡ false) × (r ≡ Ok ch)
passed t o r ch h = grind arith

chosen : (t : Bool) (x ch : Character) (o : Offence) → cond t (Ok x) (Err o) ≡ Ok ch
    → (t ≡ true) × (ch ≡ x)
chosen t x ch o h = grind arith

allowed_gives : (p width code : ℕ) (ch : Character) → allowed_at p width code ≡ Ok ch
    → (is_allowed code ≡ true) × (ch ≡ record { code = code; width = width })
unfolding allowed_at
allowed_gives p width code ch h = chosen (is_allowed code) _ ch _ h

valued_gives : (p width code : ℕ) (ch : Character) → valued_at p width code ≡ Ok ch
    → (nat_lt code (least_code width) ≡ false) × (is_allowed code ≡ true)
    × (ch ≡ record { code = code; width = width })
unfolding valued_at
valued_gives p width code ch h = search (rules, allowed_gives, passed)

-- what the first bytes spell
bytes_1 : (b : ℕ) → width_of b ≡ 1 → encode_utf8 b ≡ b ∷ []
unfolding width_of encode_utf8
bytes_1 b h = grind (arith, nat_tests)

two_bytes : (x y : ℕ) → 2 ≤ x → x < 32 → y < 64
    → encode_utf8 (x * 64 + y) ≡ (192 + x) ∷ (128 + y) ∷ []
unfolding encode_utf8
two_bytes x y low high small = search rules

three_bytes : (x y z : ℕ) → 2048 ≤ (x * 64 + y) * 64 + z → x < 16 → y < 64 → z < 64
    → encode_utf8 ((x * 64 + y) * 64 + z) ≡ (224 + x) ∷ (128 + y) ∷ (128 + z) ∷ []
unfolding encode_utf8
three_bytes x y z low high small last = search rules

four_bytes : (x y z w : ℕ) → 65536 ≤ ((x * 64 + y) * 64 + z) * 64 + w → x < 8 → y < 64 → z < 64
    → w < 64
    → encode_utf8 (((x * 64 + y) * 64 + z) * 64 + w) ≡ (240 + x) ∷ (128 + y) ∷ (128 + z) ∷ (128 + w)
    ∷ []
unfolding encode_utf8
four_bytes x y z w low high small less last = search rules

-- drop one byte
pub drop_one : (bytes : List ℕ) (p : ℕ) → p < length bytes
    → drop p bytes ≡ byte bytes p ∷ drop (p + 1) bytes
drop_one bytes p h = rw (add-one, drop-cons bytes p 0)

drop_two : (bytes : List ℕ) (p : ℕ) → p + 1 < length bytes
    → drop p bytes ≡ byte bytes p ∷ byte bytes (p + 1) ∷ drop (p + 2) bytes
drop_two bytes p h = search (rules, drop_one)

-- those four bytes
abbrev four : ℕ → ℕ → ℕ → ℕ → List ℕ
four b c d e = b ∷ c ∷ d ∷ e ∷ []

-- the character is spelled by the first of those bytes
pub record Leads (left b c d e : ℕ) (ch : Character) : Type 0 where
  pub some : 0 < ch.width
  pub few : ch.width ≤ 4
  pub inside : ch.width ≤ left
  pub allowed : is_allowed ch.code ≡ true
  pub spelled : encode_utf8 ch.code ≡ take ch.width (four b c d e)

tail_range : (c : ℕ) → is_trailing c ≡ true → (128 ≤ c) × (c < 192)
tail_range c h = (grind (arith, nat_tests), grind (arith, nat_tests))

code_1 : (b c d e : ℕ) → width_of b ≡ 1 → encode_utf8 (utf8_code 1 b c d e) ≡ b ∷ []
unfolding utf8_code leading_bits
code_1 b c d e h = bytes_1 b h

code_2 : (b c d e : ℕ) → width_of b ≡ 2 → is_trailing c ≡ true
    → nat_lt (utf8_code 2 b c d e) (least_code 2) ≡ false
    → encode_utf8 (utf8_code 2 b c d e) ≡ b ∷ c ∷ []
unfolding utf8_code leading_bits width_of least_code
code_2 b c d e h tc long = search (rules, tail_range, two_bytes)

code_3 : (b c d e : ℕ) → width_of b ≡ 3 → is_trailing c ≡ true → is_trailing d ≡ true
    → nat_lt (utf8_code 3 b c d e) (least_code 3) ≡ false
    → encode_utf8 (utf8_code 3 b c d e) ≡ b ∷ c ∷ d ∷ []
unfolding utf8_code leading_bits width_of least_code
code_3 b c d e h tc td long = search (rules, tail_range, three_bytes)

code_4 : (b c d e : ℕ) → width_of b ≡ 4 → is_trailing c ≡ true → is_trailing d ≡ true
    → is_trailing e ≡ true → nat_lt (utf8_code 4 b c d e) (least_code 4) ≡ false
    → encode_utf8 (utf8_code 4 b c d e) ≡ b ∷ c ∷ d ∷ e ∷ []
unfolding utf8_code leading_bits width_of least_code
code_4 b c d e h tc td te long = search (rules, four_bytes, tail_range)

trails : (c : ℕ) → (true && not (is_trailing c)) ≡ false → is_trailing c ≡ true
trails c h = grind (arith, nat_tests)

sequence_gives : (width p b c d e : ℕ) (ch : Character) → width_of b ≡ width → 0 < width → width ≤ 4
    → sequence_of width p b c d e ≡ Ok ch
    → (is_allowed ch.code ≡ true) × (ch.width ≡ width)
    × (encode_utf8 ch.code ≡ take width (four b c d e))
unfolding sequence_of
sequence_gives width p b c d e ch w some few h = grind (arith, passed, valued_gives, nat_lt, four, code_1, code_2, trails, code_3, code_4)

utf8_gives : (left p b c d e : ℕ) (ch : Character) → utf8_of left p b c d e ≡ Ok ch
    → Leads left b c d e ch
unfolding utf8_of
utf8_gives left p b c d e ch h =
    let (leading, h1) = passed (width_of b == 0) _ _ ch h in
    let (whole, h2) = passed (nat_lt left (width_of b)) _ _ ch h1 in
    let some : 0 < width_of b = grind (arith, nat_tests) in
    let (allowed, is, spelled) = sequence_gives (width_of b) p b c d e ch refl some (width_small b) h2 in
    record { some = rw is some; few = rw is (width_small b); inside = grind (arith, nat_tests); allowed = allowed; spelled = rw is spelled }

-- a character is at a place, with bytes of its own
pub record Stands (bytes : List ℕ) (p : ℕ) (ch : Character) (own : List ℕ) : Type 0 where
  pub some : 0 < ch.width
  pub inside : p + ch.width ≤ length bytes
  pub allowed : is_allowed ch.code ≡ true
  pub spelled : drop p bytes ≡ own ++ drop (p + ch.width) bytes

front : (bytes : List ℕ) (p w : ℕ) → w ≤ 4 → p + w ≤ length bytes
    → drop p bytes ≡ take w (four (byte bytes p) (byte bytes (p + 1)) (byte bytes (p + 2))
    (byte bytes (p + 3))) ++ drop (p + w) bytes
front bytes p w few inside = grind (arith, add-zero, drop_one, drop_two)

-- A character that UTF-8 has at a place is there by its bytes.
pub utf8_stands : (bytes : List ℕ) (p : ℕ) (ch : Character) → p < length bytes
    → utf8_at bytes p ≡ Ok ch → Stands bytes p ch (encode_utf8 ch.code)
utf8_stands bytes p ch in_bytes h =
    let l = utf8_gives _ _ _ _ _ _ ch h in
    let inside : p + ch.width ≤ length bytes = omega (arith, l.inside) in
    record { some = l.some; inside = inside; allowed = l.allowed; spelled = rw l.spelled (front bytes p ch.width l.few inside) }

-- every byte is one
abbrev pub AreBytes : List ℕ → Type 0
AreBytes bytes = (k : ℕ) → byte bytes k < 256

unit_spelled : (order : ByteOrder) (bytes : List ℕ) (p : ℕ) → AreBytes bytes
    → unit_bytes order (unit_at order bytes p) ≡ byte bytes p ∷ byte bytes (p + 1) ∷ []
unfolding unit_at
unit_spelled order bytes p are = grind arith

unit_small : (order : ByteOrder) (bytes : List ℕ) (p : ℕ) → AreBytes bytes
    → unit_at order bytes p < 65536
unfolding unit_at
unit_small order bytes p are = grind arith

-- a unit of its own, or a pair of them
data Units (left u v : ℕ) (ch : Character) : Type 0 where
  one : 2 ≤ left → is_allowed ch.code ≡ true → ch ≡ record { code = u; width = 2 }
      → Units left u v ch
  pair : 4 ≤ left → is_allowed ch.code ≡ true → ch.width ≡ 4 → encode_utf16 ch.code ≡ u ∷ v ∷ []
      → Units left u v ch

pair_units : (u v : ℕ) → is_high_surrogate u ≡ true → is_low_surrogate v ≡ true
    → encode_utf16 (0x1_0000 + (u - 0xD800) * 0x400 + (v - 0xDC00)) ≡ u ∷ v ∷ []
pair_units u v high low = search rules

one_unit : (u : ℕ) → u < 65536 → encode_utf16 u ≡ u ∷ []
one_unit u h = grind (arith, nat_tests)

utf16_gives : (left p u v : ℕ) (ch : Character) → utf16_of left p u v ≡ Ok ch → Units left u v ch
unfolding utf16_of
utf16_gives left p u v ch h = grind (arith, passed, nat_lt, Units, allowed_gives, pair_units)

pub utf16_stands : (order : ByteOrder) (bytes : List ℕ) (p : ℕ) (ch : Character) → AreBytes bytes
    → p < length bytes → utf16_at order bytes p ≡ Ok ch
    → Stands bytes p ch (units_bytes order (encode_utf16 ch.code))
utf16_stands order bytes p ch are in_bytes h = by (utf16_gives _ _ _ _ ch h)
  where
    by : Units (length bytes - p) (unit_at order bytes p) (unit_at order bytes (p + 2)) ch
        → Stands bytes p ch (units_bytes order (encode_utf16 ch.code))
    by (one left allowed is) =
        let a = drop_two bytes p (omega arith) in
        let here = unit_spelled order bytes p are in
        let code : encode_utf16 ch.code ≡ unit_at order bytes p ∷ [] = rw is (one_unit _ (unit_small order bytes p are)) in
        let width : ch.width ≡ 2 = rw is refl in
        record { some = omega arith; inside = omega arith; allowed = allowed; spelled = rw (code, here, width) (cc) }
    by (pair left allowed width code) =
        let a = drop_two bytes p (omega arith) in
        let b = drop_two bytes (p + 2) (omega arith) in
        let e : p + 2 + 2 ≡ p + 4 = omega arith in
        let here = unit_spelled order bytes p are in
        let there = unit_spelled order bytes (p + 2) are in
        record { some = omega arith; inside = omega arith; allowed = allowed; spelled = rw (code, here, there, width) (cc) }

-- a character that is in the bytes is spelled by them
pub character_stands : (e : yaml_encoding_t) (bytes : List ℕ) (p : ℕ) (ch : Character)
    → AreBytes bytes → p < length bytes → character_at e bytes p ≡ Ok ch
    → Stands bytes p ch (spelling e ch.code)
character_stands YAML_UTF16LE_ENCODING bytes p ch are h e = utf16_stands LowFirst bytes p ch are h e
character_stands YAML_UTF16BE_ENCODING bytes p ch are h e = utf16_stands HighFirst bytes p ch are h e
character_stands _ bytes p ch are h e = utf8_stands bytes p ch h e

units_some : (left u v : ℕ) (ch : Character) → Units left u v ch → 0 < ch.width
units_some left u v ch h = grind arith

-- a character takes a byte at least
pub character_some : (e : yaml_encoding_t) (bytes : List ℕ) (p : ℕ) (ch : Character)
    → character_at e bytes p ≡ Ok ch → 0 < ch.width
character_some YAML_UTF16LE_ENCODING bytes p ch h = units_some _ _ _ ch (utf16_gives _ _ _ _ ch h)
character_some YAML_UTF16BE_ENCODING bytes p ch h = units_some _ _ _ ch (utf16_gives _ _ _ _ ch h)
character_some _ bytes p ch h = (utf8_gives _ _ _ _ _ _ ch h).some
