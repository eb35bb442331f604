-- Hexadecimal digits.
use Rattle.std.specs.Prelude.{ℕ, ◌+◌, ◌/◌, ◌%◌, nat_lt, if◌then◌else◌, List, [], ◌∷◌}
use Rattle.yaml_scan_types.specs.Ascii as ascii

-- 0-9 A-F
unfoldable pub hex_digit : ℕ → ℕ
hex_digit d = if nat_lt d 10 then ascii.digit_zero + d else ascii.capital_digit + d

abbrev pub hex_2 : ℕ → List ℕ
hex_2 n = hex_digit (n / 16) ∷ hex_digit (n % 16) ∷ []
