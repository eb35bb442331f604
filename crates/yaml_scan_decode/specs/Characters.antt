-- What is at a place of the bytes: a character, or an offence.
use Rattle.std.specs.Prelude.{ℕ, ℤ, pos, negsuc, ◌+◌, ◌-◌, ◌*◌, Bool, not, ◌&&◌, ◌||◌, ◌==◌, nat_lt, nat_le, if◌then◌else◌, List, length, Result, Ok, Err}
use Rattle.yaml_scan_types.specs.Ascii as ascii
use Rattle.yaml_scan_types.specs.Points as points
use Rattle.yaml_scan_model.specs.declared.name.yaml_encoding_t.{yaml_encoding_t}
use Rattle.yaml_scan_model.specs.declared.name.yaml_encoding_t.TheVariants.{YAML_ANY_ENCODING, YAML_UTF8_ENCODING, YAML_UTF16LE_ENCODING, YAML_UTF16BE_ENCODING}
use Rattle.yaml_scan_types.specs.Marks.{byte}
use Rattle.yaml_scan_types.specs.Classes.{width_of}
use Rattle.yaml_scan_decode.specs.declared.offence.ReaderProblem.{ReaderProblem}
use Rattle.yaml_scan_decode.specs.declared.offence.ReaderProblem.TheVariants as problems
use Rattle.yaml_scan_decode.specs.declared.offence.Offence.{Offence}
use Rattle.yaml_scan_decode.specs.declared.offence.Character.{Character}
use Rattle.yaml_scan_decode.specs.declared.utf16.ByteOrder.{ByteOrder}
use Rattle.yaml_scan_decode.specs.declared.utf16.ByteOrder.TheVariants.{LowFirst, HighFirst}

-- first and last belong to it
abbrev pub between : ℕ → ℕ → ℕ → Bool
between first last c = nat_le first c && nat_le c last

-- a stream may hold the character (YAML 1.1, 5.1)
unfoldable pub is_allowed : ℕ → Bool
is_allowed c =
    (c == ascii.tab || (c == ascii.line_feed || c == ascii.carriage_return))
    || (between ascii.space ascii.tilde c || (c == points.next_line
    || (between points.no_break_space 0xD7FF c
    || (between 0xE000 0xFFFD c || between 0x1_0000 0x10_FFFF c))))

abbrev pub is_low_surrogate : ℕ → Bool
is_low_surrogate c = between 0xDC00 0xDFFF c

abbrev pub is_high_surrogate : ℕ → Bool
is_high_surrogate c = between 0xD800 0xDBFF c

-- the problem is at that place; the number is the byte, unit or character that is wrong, or -1
abbrev pub offends : ReaderProblem → ℕ → ℤ → Result Character Offence
offends problem place number = Err record { problem = problem; offset = place; value = number }

-- no byte, unit or character is named
abbrev pub no_value : ℤ
no_value = negsuc 0

-- the character of that code, which that many bytes there spell, if a stream may hold it
unfoldable pub allowed_at : ℕ → ℕ → ℕ → Result Character Offence
allowed_at p width code =
    if is_allowed code then Ok record { code = code; width = width }
    else offends problems.ControlCharacter p (pos code)

-- the least code that needs that many bytes of UTF-8
unfoldable pub least_code : ℕ → ℕ
least_code width = if width == 1 then 0 else if width == 2 then 0x80 else if width == 3 then 0x800
    else 0x1_0000

-- the code of those bytes there: a shorter form, a surrogate and a number above 10FFFF spell no character
unfoldable pub valued_at : ℕ → ℕ → ℕ → Result Character Offence
valued_at p width code =
    if nat_lt code (least_code width) then offends problems.InvalidLength p no_value
    else if between 0xD800 0xDFFF code || nat_lt 0x10_FFFF code
    then offends problems.InvalidCharacter p (pos code)
    else allowed_at p width code

-- 10xxxxxx
abbrev pub is_trailing : ℕ → Bool
is_trailing b = between 0x80 0xBF b

-- what the first byte of a character of that many bytes adds to its code
unfoldable pub leading_bits : ℕ → ℕ → ℕ
leading_bits width b = if width == 1 then b else if width == 2 then b - 0xC0 else if width == 3
    then b - 0xE0 else b - 0xF0

-- the code of as many of these bytes
unfoldable pub utf8_code : ℕ → ℕ → ℕ → ℕ → ℕ → ℕ
utf8_code width b c d e =
    let lead = leading_bits width b in
    if width == 1 then lead
    else if width == 2 then lead * 64 + (c - 0x80)
    else if width == 3 then (lead * 64 + (c - 0x80)) * 64 + (d - 0x80)
    else ((lead * 64 + (c - 0x80)) * 64 + (d - 0x80)) * 64 + (e - 0x80)

-- what that many of these bytes at p spell: each after the first must be a trailing one
unfoldable pub sequence_of : ℕ → ℕ → ℕ → ℕ → ℕ → ℕ → Result Character Offence
sequence_of width p b c d e =
    if nat_lt 1 width && not (is_trailing c) then offends problems.InvalidTrailingOctet (p + 1)
    (pos c)
    else if nat_lt 2 width && not (is_trailing d) then offends problems.InvalidTrailingOctet (p + 2)
    (pos d)
    else if nat_lt 3 width && not (is_trailing e) then offends problems.InvalidTrailingOctet (p + 3)
    (pos e)
    else valued_at p width (utf8_code width b c d e)

-- what b begins at p, where c, d and e are after it, and that many bytes are left with b
unfoldable pub utf8_of : ℕ → ℕ → ℕ → ℕ → ℕ → ℕ → Result Character Offence
utf8_of left p b c d e =
    if width_of b == 0 then offends problems.InvalidLeadingOctet p (pos b)
    else if nat_lt left (width_of b) then offends problems.IncompleteSequence p no_value
    else sequence_of (width_of b) p b c d e

abbrev pub utf8_at : List ℕ → ℕ → Result Character Offence
utf8_at bytes p = utf8_of (length bytes - p) p (byte bytes p) (byte bytes (p + 1))
    (byte bytes (p + 2)) (byte bytes (p + 3))

-- the encoding in 16-bit units whose bytes have this order
abbrev pub encoding_by : ByteOrder → yaml_encoding_t
encoding_by LowFirst = YAML_UTF16LE_ENCODING
encoding_by HighFirst = YAML_UTF16BE_ENCODING

-- the 16-bit unit there
unfoldable pub unit_at : ByteOrder → List ℕ → ℕ → ℕ
unit_at LowFirst bytes p = byte bytes p + byte bytes (p + 1) * 256
unit_at HighFirst bytes p = byte bytes p * 256 + byte bytes (p + 1)

-- what the unit u begins at p, where v is after it, and that many bytes are left with u
unfoldable pub utf16_of : ℕ → ℕ → ℕ → ℕ → Result Character Offence
utf16_of left p u v =
    if nat_lt left 2 then offends problems.IncompleteCharacter p no_value
    else if is_low_surrogate u then offends problems.UnexpectedLowSurrogate p (pos u)
    else if not (is_high_surrogate u) then allowed_at p 2 u
    else if nat_lt left 4 then offends problems.IncompletePair p no_value
    else if not (is_low_surrogate v) then offends problems.ExpectedLowSurrogate (p + 2) (pos v)
    else allowed_at p 4 (0x1_0000 + (u - 0xD800) * 0x400 + (v - 0xDC00))

abbrev pub utf16_at : ByteOrder → List ℕ → ℕ → Result Character Offence
utf16_at order bytes p = utf16_of (length bytes - p) p (unit_at order bytes p)
    (unit_at order bytes (p + 2))

-- the character there, or the first line of the table of offences that holds there
abbrev pub character_at : yaml_encoding_t → List ℕ → ℕ → Result Character Offence
character_at YAML_ANY_ENCODING bytes p = utf8_at bytes p
character_at YAML_UTF8_ENCODING bytes p = utf8_at bytes p
character_at YAML_UTF16LE_ENCODING bytes p = utf16_at LowFirst bytes p
character_at YAML_UTF16BE_ENCODING bytes p = utf16_at HighFirst bytes p
