-- Layouts whose characters are read back.
use Rattle.std.specs.Prelude.{ℕ, ◌+◌, ◌≡◌, Bool, true, false, not, ◌&&◌, if◌then◌else◌, List, [], ◌∷◌, length, Result, Ok, encode_utf8_all}
use Rattle.yaml_scan_history.specs.scan_types.Ascii as ascii
use Rattle.yaml_scan_history.specs.scan_types.Marks.{byte}
use Rattle.yaml_scan_history.specs.scan_model.Wrong.{Wrong}
use Rattle.yaml_emit_layout.specs.declared.Cursor.{Cursor}
use Rattle.yaml_emit_layout.specs.Text.{is_break}
use Rattle.yaml_emit_layout.specs.Layout.{Layout, Rest, ◌▹◌, char}
use Rattle.yaml_emit_layout.specs.declared.page.Page.{Page}
use Rattle.yaml_emit_layout.specs.Quoted.{quoted_body}
use Rattle.yaml_emit_layout.specs.Scalars.{flow_body}
use Rattle.yaml_emit_layout.specs.Spelling.{in_front}
use Rattle.yaml_emit_laws.specs.Stands.{HasAt}

-- From a cursor on, a layout writes these characters, a double quote first, whatever follows; and
-- wherever their bytes are, the reading gives the value, and ends after them. After them the
-- line isn't bare, none starts, and `kept` is as it was.
pub record ValueIsReadBack (reading : List ℕ → ℕ → Result (List ℕ × ℕ) Wrong) (a : Layout)
    (c : Cursor) (value : List ℕ) : Type 0 where
  pub letters : List ℕ
  pub inside : List ℕ
  pub begins : letters ≡ ascii.quote ∷ inside
  pub behind : Cursor
  pub written : (rest : Rest) → a c rest ≡ in_front letters (rest behind)
  pub read : (text : List ℕ) (p : ℕ) → HasAt text p (encode_utf8_all letters)
      → reading text p ≡ Ok (value, p + length (encode_utf8_all letters))
  pub bare : behind.bare ≡ false
  pub column : behind.column ≡ 0 → ⊥
  pub kept : behind.kept ≡ c.kept

-- the same, where the byte after fits
pub record ValueIsReadBackBefore (Fits : ℕ → Type 0)
    (reading : List ℕ → ℕ → Result (List ℕ × ℕ) Wrong) (a : Layout) (c : Cursor)
    (value : List ℕ) : Type 0 where
  pub letters : List ℕ
  pub behind : Cursor
  pub written : (rest : Rest) → a c rest ≡ in_front letters (rest behind)
  pub read : (text : List ℕ) (p : ℕ) → HasAt text p (encode_utf8_all letters)
      → Fits (byte text (p + length (encode_utf8_all letters)))
      → reading text p ≡ Ok (value, p + length (encode_utf8_all letters))

-- a double quoted scalar from quote to quote, without the space before it
abbrev pub between_quotes : Page → List ℕ → Layout
between_quotes page value =
    char ascii.quote ▹ (quoted_body page ascii.space value ▹ char ascii.quote)

-- the bytes of the space that is due before a scalar
abbrev pub gap_width : Cursor → ℕ
gap_width c = if c.white then 0 else 1

-- a single quoted scalar from quote to quote
abbrev pub between_single : Page → List ℕ → Layout
between_single page value =
    char ascii.apostrophe ▹ (flow_body page true ascii.space value ▹ char ascii.apostrophe)

-- no character ends a line
abbrev pub is_one_line : List ℕ → Bool
is_one_line [] = true
is_one_line (c ∷ cs) = not (is_break c) && is_one_line cs

-- From a cursor on, a layout writes characters that end no line, each in a column of its own.
pub record StaysInLine (a : Layout) (c : Cursor) : Type 0 where
  pub letters : List ℕ
  pub behind : Cursor
  pub written : (rest : Rest) → a c rest ≡ in_front letters (rest behind)
  pub inside : is_one_line letters ≡ true
  pub column : behind.column ≡ c.column + length letters
