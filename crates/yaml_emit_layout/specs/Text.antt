-- A text to be written, and its bytes.
use Rattle.std.specs.Prelude.{ℕ, ◌+◌, ◌/◌, ◌%◌, ◌-◌, Bool, true, false, ◌==◌, ◌||◌, nat_lt, if◌then◌else◌, List, [], ◌∷◌, ◌++◌}
use Rattle.yaml_scan_types.specs.Ascii as ascii
use Rattle.yaml_scan_types.specs.Points as points
use Rattle.yaml_emit_layout.specs.declared.settings.Encoding.{Encoding}
use Rattle.yaml_emit_layout.specs.declared.settings.Encoding.TheVariants.{Utf8, Utf16Le, Utf16Be}

-- What a layout is made of.
pub data Item : Type 0 where
  -- a character
  letter : ℕ → Item
  -- here an indentation passes 2,147,483,647 columns; no byte is written for it
  deep : Item

-- a character's bytes in UTF-8
abbrev pub utf8_bytes : ℕ → List ℕ
utf8_bytes c =
    if nat_lt c 0x80 then c ∷ []
    else if nat_lt c 0x800 then (0xC0 + c / 0x40) ∷ (0x80 + c % 0x40) ∷ []
    else if nat_lt c 0x1_0000 then (0xE0 + c / 0x1000) ∷ (0x80 + c / 0x40 % 0x40)
    ∷ (0x80 + c % 0x40) ∷ []
    else (0xF0 + c / 0x4_0000) ∷ (0x80 + c / 0x1000 % 0x40) ∷ (0x80 + c / 0x40 % 0x40)
    ∷ (0x80 + c % 0x40) ∷ []

-- a unit's two bytes
abbrev pub unit_bytes : Encoding → ℕ → List ℕ
unit_bytes Utf8 u = []
unit_bytes Utf16Le u = (u % 0x100) ∷ (u / 0x100) ∷ []
unit_bytes Utf16Be u = (u / 0x100) ∷ (u % 0x100) ∷ []

-- one unit, or a pair of surrogates
abbrev pub utf16_bytes : Encoding → ℕ → List ℕ
utf16_bytes x c =
    if nat_lt c 0x1_0000 then unit_bytes x c
    else unit_bytes x (0xD800 + (c - 0x1_0000) / 0x400) ++ unit_bytes x
    (0xDC00 + (c - 0x1_0000) % 0x400)

-- a character's bytes
unfoldable pub char_bytes : Encoding → ℕ → List ℕ
char_bytes Utf8 c = utf8_bytes c
char_bytes Utf16Le c = utf16_bytes Utf16Le c
char_bytes Utf16Be c = utf16_bytes Utf16Be c

-- a text's bytes
unfoldable pub encode : Encoding → List Item → List ℕ
encode x [] = []
encode x (letter c ∷ t) = char_bytes x c ++ encode x t
encode x (deep ∷ t) = encode x t

-- an indentation passes 2,147,483,647 columns somewhere
unfoldable pub is_deep : List Item → Bool
is_deep [] = false
is_deep (letter c ∷ t) = is_deep t
is_deep (deep ∷ t) = true

-- all before the first such place
unfoldable pub shallow : List Item → List Item
shallow [] = []
shallow (letter c ∷ t) = letter c ∷ shallow t
shallow (deep ∷ t) = []

-- the characters alone
unfoldable pub shown : List Item → List ℕ
shown [] = []
shown (letter c ∷ t) = c ∷ shown t
shown (deep ∷ t) = shown t

-- LF, CR, NEL, LS and PS end a line
abbrev pub is_break : ℕ → Bool
is_break c =
    c == ascii.line_feed || c == ascii.carriage_return || c == points.next_line
    || c == points.line_separator || c == points.paragraph_separator
