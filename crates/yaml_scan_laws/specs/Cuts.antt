-- Where a text is cut in two.
use Rattle.std.specs.Prelude.{◌≡◌, ◌⊎◌, ℕ, Bool, true, false, ◌==◌, ◌||◌, List, [], ◌∷◌, ◌++◌, ◌<◌, ◌≤◌, length}
use Rattle.yaml_scan_history.specs.scan_types.Ascii as ascii
use Rattle.yaml_scan_history.specs.scan_types.Marks.{byte, column_at, is_blank}
use Rattle.yaml_scan_history.specs.scan_types.Classes.{is_bom}
use Rattle.yaml_scan_history.specs.scan_model.Breaks.{is_document_indicator}
use Rattle.yaml_scan_history.specs.Indicators.{is_document_end}
use Rattle.yaml_scan_history.specs.Between.{gap_at}

-- the text's last byte
abbrev pub EndsIn : List ℕ → ℕ → Type 0
EndsIn text b = (before : List ℕ) × (text ≡ before ++ b ∷ [])

-- the text is empty, or its last byte is LF or CR
abbrev pub EndsLine : List ℕ → Type 0
EndsLine text = (text ≡ []) ⊎ (EndsIn text ascii.line_feed ⊎ EndsIn text ascii.carriage_return)

-- A text may be cut there: what is before ends a line and has no byte 0, which no text of a stream has, and the rest begins
-- with `---` or `...` before a blank, a break or the end.
pub record IsCut (front rest : List ℕ) : Type 0 where
  pub line : EndsLine front
  pub some : (p : ℕ) → p < length front → 0 < byte front p
  pub mark : is_document_indicator rest 0 ≡ true

-- a blank, LF or CR
abbrev pub is_white : ℕ → Bool
is_white b = is_blank b || (b == ascii.line_feed || b == ascii.carriage_return)

-- a line `...`, and blanks and breaks after it, the last of which is LF
pub record IsEndLine (line : List ℕ) : Type 0 where
  pub mark : is_document_end line 0 ≡ true
  pub white : (p : ℕ) → 3 ≤ p → p < length line → is_white (byte line p) ≡ true
  pub feed : EndsIn line ascii.line_feed

-- A text may be cut after such a line too, before whatever doesn't begin with U+FEFF.
pub record IsEndCut (front rest : List ℕ) : Type 0 where
  pub before : List ℕ
  pub line : List ℕ
  pub parts : front ≡ before ++ line
  pub lines : EndsLine before
  pub some : (p : ℕ) → p < length before → 0 < byte before p
  pub ends : IsEndLine line
  pub mark : is_bom rest 0 ≡ false

-- the place of a text's first lexeme, after blanks, comments and breaks
abbrev pub first_place : List ℕ → ℕ
first_place text = (gap_at false true text 0).place

-- there is a `%` at column 0
pub record LeadsToDirective (text : List ℕ) : Type 0 where
  pub percent : byte text (first_place text) ≡ ascii.percent
  pub column : column_at text (first_place text) ≡ 0
