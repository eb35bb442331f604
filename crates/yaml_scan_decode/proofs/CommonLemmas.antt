-- The characters that are judged by their first byte: those of U+00C0 to U+07FF, and of U+1000 to U+CFFF.
use Rattle.std.proofs.Common.{◌≡◌, ℕ, ◌+◌, ◌-◌, ◌*◌, ◌≤◌, true, not, List, length, Ok, ◌∙◌, arith}
use Rattle.std.proofs.lemmas.Bool.Decides.{nat_tests}
use Rattle.yaml_scan_types.specs.Marks.{byte}
use Rattle.yaml_scan_types.specs.Classes.{width_of}
use Rattle.yaml_scan_decode.specs.Characters.{is_trailing, is_allowed, allowed_at, valued_at, least_code, sequence_of, utf8_code, leading_bits, utf8_of}
use Rattle.yaml_scan_decode.specs.Steps.{is_plain, HasCharacter}
use Rattle.yaml_scan_runs.specs.Runs.{is_unplain}

-- no shorter form, no surrogate, and allowed
common_code : (p width code : ℕ) → least_code width ≤ code → 0xA0 ≤ code → code ≤ 0xD7FF
    → valued_at p width code ≡ Ok record { code = code; width = width }
unfolding valued_at allowed_at is_allowed
common_code p width code least low high = grind (arith, nat_tests)

two_of : (left p b c d e : ℕ) → 0xC3 ≤ b → b ≤ 0xDF → 2 ≤ left → is_trailing c ≡ true
    → utf8_of left p b c d e ≡ valued_at p 2 ((b - 0xC0) * 64 + (c - 0x80))
unfolding utf8_of width_of sequence_of utf8_code leading_bits
two_of left p b c d e low high room second = grind (arith, nat_tests)

three_of : (left p b c d e : ℕ) → 0xE1 ≤ b → b ≤ 0xEC → 3 ≤ left → is_trailing c ≡ true
    → is_trailing d ≡ true
    → utf8_of left p b c d e ≡ valued_at p 3 (((b - 0xE0) * 64 + (c - 0x80)) * 64 + (d - 0x80))
unfolding utf8_of width_of sequence_of utf8_code leading_bits
three_of left p b c d e low high room second third = grind (arith, nat_tests)

trailing_range : (c : ℕ) → is_trailing c ≡ true → (0x80 ≤ c) × (c ≤ 0xBF)
trailing_range c h = (grind (arith, nat_tests), grind (arith, nat_tests))

pub common_two : (bytes : List ℕ) (p : ℕ) → 0xC3 ≤ byte bytes p → byte bytes p ≤ 0xDF
    → 2 ≤ length bytes - p
    → is_trailing (byte bytes (p + 1)) ≡ true → HasCharacter bytes p 2
unfolding least_code
common_two bytes p low high room second =
    let b = byte bytes p in
    let c = byte bytes (p + 1) in
    let (from, to) = trailing_range c second in
    let code = (b - 0xC0) * 64 + (c - 0x80) in (
      code,
      two_of (length bytes - p) p b c (byte bytes (p + 2)) (byte bytes (p + 3)) low high room second
          ∙ common_code p 2 code (omega arith) (omega arith) (omega arith),
    )

pub common_three : (bytes : List ℕ) (p : ℕ) → 0xE1 ≤ byte bytes p → byte bytes p ≤ 0xEC
    → 3 ≤ length bytes - p
    → is_trailing (byte bytes (p + 1)) ≡ true → is_trailing (byte bytes (p + 2)) ≡ true
    → HasCharacter bytes p 3
unfolding least_code
common_three bytes p low high room second third =
    let b = byte bytes p in
    let c = byte bytes (p + 1) in
    let d = byte bytes (p + 2) in
    let (from, to) = trailing_range c second in
    let (first, last) = trailing_range d third in
    let code = ((b - 0xE0) * 64 + (c - 0x80)) * 64 + (d - 0x80) in (
      code,
      three_of (length bytes - p) p b c d (byte bytes (p + 3)) low high room second third
          ∙ common_code p 3 code (omega arith) (omega arith) (omega arith),
    )

-- what stops a run of plain characters
pub unplain_is : (b : ℕ) → is_unplain b ≡ not (is_plain b)
unfolding is_plain is_allowed
unplain_is b = grind (arith, nat_tests)
