-- Values that are read as themselves without quotes.
use Rattle.std.specs.Prelude.{ℕ, Bool, false, ◌&&◌, ◌||◌, ◌==◌, nat_le, List, [], ◌∷◌}
use Rattle.std.specs.List.{list_all}
use Rattle.yaml_scan_history.specs.scan_types.Ascii as ascii

-- 0-9 A-Z a-z
unfoldable pub is_letter_or_digit : ℕ → Bool
is_letter_or_digit b =
    (nat_le ascii.digit_zero b && nat_le b ascii.digit_nine)
    || ((nat_le ascii.capital_a b && nat_le b ascii.capital_z)
    || (nat_le ascii.small_a b && nat_le b ascii.small_z))

-- 0-9 A-Z a-z + - .
unfoldable pub is_value_byte : ℕ → Bool
is_value_byte b = is_letter_or_digit b || (b == ascii.plus || (b == ascii.hyphen || b == ascii.dot))

-- the first byte, 0 at the end
abbrev pub first : List ℕ → ℕ
first [] = 0
first (b ∷ bs) = b

-- a letter or a digit comes first, or `-` before one
abbrev pub begins_value : List ℕ → Bool
begins_value [] = false
begins_value (b ∷ bs) = is_letter_or_digit b || (b == ascii.hyphen && is_letter_or_digit (first bs))

-- letters, digits, `+ - .` alone, and it begins so
unfoldable pub is_plain_value : List ℕ → Bool
is_plain_value value = begins_value value && list_all is_value_byte value
