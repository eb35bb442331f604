-- The classes of bytes: what is at a place of a text.
use Rattle.std.specs.Prelude.{ℕ, zero, suc, ◌+◌, ◌-◌, Bool, true, false, not, ◌&&◌, ◌||◌, ◌==◌, nat_lt, nat_le, if◌then◌else◌, List, length}
use Rattle.yaml_scan_types.specs.Ascii as ascii
use Rattle.yaml_scan_types.specs.Marks.{byte, break_width, is_blank as is_blank_byte}

-- 0-9
unfoldable pub is_digit_byte : ℕ → Bool
is_digit_byte b = nat_le ascii.digit_zero b && nat_le b ascii.digit_nine

-- 0-9 A-F a-f
unfoldable pub is_hex_byte : ℕ → Bool
is_hex_byte b = is_digit_byte b
    || ((nat_le ascii.capital_a b && nat_le b ascii.capital_f)
    || (nat_le ascii.small_a b && nat_le b ascii.small_f))

-- 0-9 A-Z a-z _ -
unfoldable pub is_alpha_byte : ℕ → Bool
is_alpha_byte b = is_digit_byte b
    || ((nat_le ascii.capital_a b && nat_le b ascii.capital_z)
    || ((nat_le ascii.small_a b && nat_le b ascii.small_z)
    || (b == ascii.underscore || b == ascii.hyphen)))

-- the value of a hexadecimal digit
unfoldable pub hex_value_of : ℕ → ℕ
hex_value_of b =
    if nat_le ascii.small_a b then b - ascii.small_digit
    else if nat_le ascii.capital_a b then b - ascii.capital_digit
    else b - ascii.digit_zero

-- how many bytes the UTF-8 character has that begins with b, or 0
unfoldable pub width_of : ℕ → ℕ
width_of b =
    if nat_lt b 0x80 then 1
    else if nat_lt b 0xC0 then 0
    else if nat_lt b 0xE0 then 2
    else if nat_lt b 0xF0 then 3
    else if nat_lt b 0xF8 then 4
    else 0

-- EF is followed by neither U+FEFF's nor U+FFFE's nor U+FFFF's last two bytes
unfoldable pub is_special : ℕ → ℕ → Bool
is_special c d = (c == 0xBB && d == 0xBF) || (c == 0xBF && (d == 0xBE || d == 0xBF))

-- b begins a printable character, where c and d are after it
unfoldable pub is_printable_by : ℕ → ℕ → ℕ → Bool
is_printable_by b c d =
    if b == ascii.line_feed || (nat_le ascii.space b && nat_le b ascii.tilde) then true
    else if b == 0xC2 then nat_le 0xA0 c && nat_le c 0xBF
    else if b == 0xED then nat_lt c 0xA0
    else if b == 0xEF then not (is_special c d)
    else nat_le 0xC3 b && nat_le b 0xF4

-- the place is past the end, or a byte 0 is there
abbrev pub is_z : List ℕ → ℕ → Bool
is_z text p = byte text p == 0

abbrev pub is_alpha : List ℕ → ℕ → Bool
is_alpha text p = is_alpha_byte (byte text p)

abbrev pub is_digit : List ℕ → ℕ → Bool
is_digit text p = is_digit_byte (byte text p)

abbrev pub is_hex : List ℕ → ℕ → Bool
is_hex text p = is_hex_byte (byte text p)

-- 00 to 7F
abbrev pub is_ascii : List ℕ → ℕ → Bool
is_ascii text p = nat_lt p (length text) && nat_lt (byte text p) 128

-- U+FEFF, EF BB BF
abbrev pub is_bom : List ℕ → ℕ → Bool
is_bom text p = byte text p == 0xEF && (byte text (p + 1) == 0xBB && byte text (p + 2) == 0xBF)

abbrev pub is_space : List ℕ → ℕ → Bool
is_space text p = byte text p == ascii.space

abbrev pub is_tab : List ℕ → ℕ → Bool
is_tab text p = byte text p == ascii.tab

abbrev pub is_blank : List ℕ → ℕ → Bool
is_blank text p = is_blank_byte (byte text p)

-- CR, LF, NEL, LS or PS
abbrev pub is_break : List ℕ → ℕ → Bool
is_break text p = nat_lt 0 (break_width text p)

abbrev pub is_crlf : List ℕ → ℕ → Bool
is_crlf text p = byte text p == ascii.carriage_return && byte text (p + 1) == ascii.line_feed

-- one of the first n numbers passes a test
unfoldable pub any_below : ℕ → (ℕ → Bool) → Bool
any_below zero p = false
any_below (suc n) p = any_below n p || p n

-- somewhere a line break begins
abbrev pub has_break : List ℕ → Bool
has_break text = any_below (length text) (is_break text)

abbrev pub is_breakz : List ℕ → ℕ → Bool
is_breakz text p = is_break text p || is_z text p

abbrev pub is_blankz : List ℕ → ℕ → Bool
is_blankz text p = is_blank text p || is_breakz text p

abbrev pub is_printable : List ℕ → ℕ → Bool
is_printable text p = is_printable_by (byte text p) (byte text (p + 1)) (byte text (p + 2))

-- the bytes of the character there, or 0 past the end
abbrev pub width : List ℕ → ℕ → ℕ
width text p = if nat_lt p (length text) then width_of (byte text p) else 0
