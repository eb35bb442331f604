-- Single quoted scalars of several lines are read back.
use Rattle.std.specs.Prelude.{ℕ, ◌+◌, ◌<◌, ◌≡◌, true, false, List, ◌∷◌, length, Ok, IsUtf8, encode_utf8_all}
use Rattle.std.specs.Str.{chars}
use Rattle.yaml_emit_layout.specs.scan_types.Ascii as ascii
use Rattle.yaml_emit_layout.specs.scan_types.Marks.{byte}
use Rattle.yaml_scan_history.specs.Written.{HasAt}
use Rattle.yaml_scan_history.specs.Quoted.{single_quoted_at}
use Rattle.yaml_emit_layout.specs.declared.Cursor.{Cursor}
use Rattle.yaml_emit_layout.specs.declared.Page.{Page}
use Rattle.yaml_emit_layout.specs.Layout.{Layout, Rest}
use Rattle.yaml_emit_layout.specs.Spelling.{in_front}
use Rattle.yaml_emit_layout.specs.Style.{allowed}
use Rattle.yaml_emit_laws.specs.ReadBack.{between_single, is_one_line}

-- From a cursor on, a layout writes these characters, a single quote first, whatever follows; and wherever their bytes are, with
-- no single quote after them, the value is read, up to their end. After them the line isn't bare and ends in no space.
pub record SingleIsBack (a : Layout) (c : Cursor) (value : List ℕ) : Type 0 where
  pub letters : List ℕ
  pub inside : List ℕ
  pub begins : letters ≡ ascii.apostrophe ∷ inside
  pub behind : Cursor
  pub written : (rest : Rest) → a c rest ≡ in_front letters (rest behind)
  pub read : (text : List ℕ) (p : ℕ) → HasAt text p (encode_utf8_all letters)
      → (byte text (p + length (encode_utf8_all letters)) ≡ ascii.apostrophe → ⊥)
      → single_quoted_at text p ≡ Ok (value, p + length (encode_utf8_all letters))
  pub bare : behind.bare ≡ false
  pub white : behind.white ≡ false
  pub column : behind.column ≡ 0 → ⊥
  pub kept : behind.kept ≡ c.kept

-- What is written for a value between single quotes, where they are allowed, is read as the value, with runs of breaks and folds:
-- at every column, with every break, on every page that indents new lines where there may be any.
abbrev pub SingleLinesAreReadBack : Type 0
SingleLinesAreReadBack = (page : Page) (c : Cursor) (value : List ℕ) → IsUtf8 value
    → (page.cuts ≡ true → 0 < page.indentation)
    → (is_one_line (chars value) ≡ false → 0 < page.indentation)
    → (allowed page.unicode (chars value)).single ≡ true
    → SingleIsBack (between_single page (chars value)) c value
