-- Places in a text, and their marks.
use Rattle.std.specs.Prelude.{ℕ, zero, suc, ◌+◌, ◌-◌, Bool, true, false, not, ◌&&◌, ◌||◌, ◌==◌, nat_lt, nat_le, if◌then◌else◌, List, slice_index}
use Rattle.yaml_scan_types.specs.Ascii as ascii
use Rattle.yaml_scan_types.specs.declared.record.yaml_mark_t.{yaml_mark_t}

-- a place in a text
pub record Place : Type 0 where
  pub text : List ℕ
  pub at : ℕ

-- the byte there, or 0 past the end
abbrev pub byte : List ℕ → ℕ → ℕ
byte text p = slice_index text p

-- how many bytes the break has that begins with these, or 0
unfoldable pub break_of : ℕ → ℕ → ℕ → ℕ
break_of b c d =
    if b == ascii.carriage_return then (if c == ascii.line_feed then 2 else 1)
    else if b == ascii.line_feed then 1
    else if b == 0xC2 && c == 0x85 then 2
    else if (b == 0xE2 && c == 0x80) && (d == 0xA8 || d == 0xA9) then 3
    else 0

-- b is the last byte of a break, where x and y are before it and c after it
unfoldable pub ends_of : ℕ → ℕ → ℕ → ℕ → Bool
ends_of x y b c =
    if b == ascii.line_feed then true
    else if b == ascii.carriage_return then not (c == ascii.line_feed)
    else if b == 0x85 then y == 0xC2
    else if b == 0xA8 || b == 0xA9 then y == 0x80 && x == 0xE2
    else false

-- b goes on with a break that began before it
unfoldable pub splits_of : ℕ → ℕ → ℕ → ℕ → Bool
splits_of x y b c =
    if b == ascii.line_feed then y == ascii.carriage_return
    else if b == 0x85 then y == 0xC2
    else if b == 0x80 then y == 0xE2 && (c == 0xA8 || c == 0xA9)
    else if b == 0xA8 || b == 0xA9 then y == 0x80 && x == 0xE2
    else false

-- how many bytes the break there has, or 0
abbrev pub break_width : List ℕ → ℕ → ℕ
break_width text p = break_of (byte text p) (byte text (p + 1)) (byte text (p + 2))

-- the byte there is the last of a break
abbrev pub ends_break : List ℕ → ℕ → Bool
ends_break text p = ends_of (byte text (p - 2)) (byte text (p - 1)) (byte text p)
    (byte text (p + 1))

-- the byte there goes on with a break that began before it
abbrev pub splits_break : List ℕ → ℕ → Bool
splits_break text p = splits_of (byte text (p - 2)) (byte text (p - 1)) (byte text p)
    (byte text (p + 1))

-- the byte begins a character
abbrev pub starts : ℕ → Bool
starts b = nat_lt b 128 || nat_le 192 b

-- how many breaks end before the place
unfoldable pub line_at : List ℕ → ℕ → ℕ
line_at text zero = 0
line_at text (suc p) = line_at text p + (if ends_break text p then 1 else 0)

-- how many characters began since the last break
unfoldable pub column_at : List ℕ → ℕ → ℕ
column_at text zero = 0
column_at text (suc p) = if ends_break text p then 0
    else column_at text p + (if starts (byte text p) then 1 else 0)

abbrev pub mark_at : List ℕ → ℕ → yaml_mark_t
mark_at text p = record { index = p; line = line_at text p; column = column_at text p }

abbrev pub is_blank : ℕ → Bool
is_blank b = b == ascii.space || b == ascii.tab

-- a blank, a break or the end is there
abbrev pub is_blank_or_end : List ℕ → ℕ → Bool
is_blank_or_end text p = (is_blank (byte text p) || byte text p == 0)
    || nat_lt 0 (break_width text p)
