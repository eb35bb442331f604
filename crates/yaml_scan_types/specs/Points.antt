-- The code points beyond ASCII that have a meaning of their own, by name, and their bytes.
use Rattle.std.specs.Prelude.{ℕ, List, [], ◌∷◌}

abbrev pub next_line : ℕ
next_line = 0x85

abbrev pub no_break_space : ℕ
no_break_space = 0xA0

abbrev pub line_separator : ℕ
line_separator = 0x2028

abbrev pub paragraph_separator : ℕ
paragraph_separator = 0x2029

abbrev pub byte_order_mark : ℕ
byte_order_mark = 0xFEFF

-- ---- in UTF-8

abbrev pub next_line_utf8 : List ℕ
next_line_utf8 = 0xC2 ∷ 0x85 ∷ []

abbrev pub no_break_space_utf8 : List ℕ
no_break_space_utf8 = 0xC2 ∷ 0xA0 ∷ []

abbrev pub line_separator_utf8 : List ℕ
line_separator_utf8 = 0xE2 ∷ 0x80 ∷ 0xA8 ∷ []

abbrev pub paragraph_separator_utf8 : List ℕ
paragraph_separator_utf8 = 0xE2 ∷ 0x80 ∷ 0xA9 ∷ []

abbrev pub byte_order_mark_utf8 : List ℕ
byte_order_mark_utf8 = 0xEF ∷ 0xBB ∷ 0xBF ∷ []

-- ---- in UTF-16, the low byte first, and the high byte first

abbrev pub byte_order_mark_low_first : List ℕ
byte_order_mark_low_first = 0xFF ∷ 0xFE ∷ []

abbrev pub byte_order_mark_high_first : List ℕ
byte_order_mark_high_first = 0xFE ∷ 0xFF ∷ []
