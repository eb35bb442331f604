-- Plain scalars that are written, with folds, are read back.
use Rattle.std.specs.Prelude.{ℕ, ◌+◌, ◌<◌, ◌≤◌, ◌≡◌, Bool, true, false, if◌then◌else◌, List, ◌++◌, length, Some, Ok, IsUtf8, encode_utf8_all}
use Rattle.std.specs.Str.{chars}
use Rattle.yaml_emit_layout.specs.scan_types.Ascii as ascii
use Rattle.yaml_scan_history.specs.Written.{HasAt, are_gap, has_break, begins_lexeme}
use Rattle.yaml_scan_history.specs.Plain.{PlainText, plain_at}
use Rattle.yaml_scan_history.specs.declared.kind.Kind.TheVariants as kinds
use Rattle.yaml_scan_history.specs.Words.{kind_at}
use Rattle.yaml_scan_laws.specs.PlainLaws.{ends_plain}
use Rattle.yaml_emit_layout.specs.declared.Cursor.{Cursor}
use Rattle.yaml_emit_layout.specs.declared.Page.{Page}
use Rattle.yaml_emit_layout.specs.Layout.{Layout, Rest, ◌▹◌, after_text}
use Rattle.yaml_emit_layout.specs.Scalars.{flow_body}
use Rattle.yaml_emit_layout.specs.Spelling.{in_front}
use Rattle.yaml_emit_layout.specs.Style.{allowed}

-- a plain scalar of these bytes, with the white after it
abbrev pub plain_of : List ℕ → List ℕ → List ℕ → ℕ → PlainText
plain_of value bytes gap p = record {
  value = value;
  end = p + length bytes;
  place = p + length bytes + length gap;
  broke = has_break gap;
}

-- What is where the bytes and the gap do is one plain scalar with that value.
pub record IsReadPlain (flow : Bool) (level : ℕ) (value bytes gap text : List ℕ) (p : ℕ)
    : Type 0 where
  pub begins : begins_lexeme text p ≡ true
  pub kind : kind_at flow text p ≡ Some kinds.Plain
  pub read : plain_at flow level text p ≡ Ok (plain_of value bytes gap p)

-- From a cursor on, a layout writes these characters, whatever follows; and wherever their bytes are before a gap after which
-- a plain scalar ends, they are one plain scalar with the value. After them the line isn't bare and ends in no space.
pub record PlainIsBack (flow : Bool) (level : ℕ) (a : Layout) (c : Cursor) (value : List ℕ)
    : Type 0 where
  pub letters : List ℕ
  pub behind : Cursor
  pub written : (rest : Rest) → a c rest ≡ in_front letters (rest behind)
  pub read : (text : List ℕ) (p : ℕ) (gap : List ℕ) → HasAt text p (encode_utf8_all letters ++ gap)
      → are_gap gap ≡ true
      → ends_plain flow level text (p + length (encode_utf8_all letters) + length gap) ≡ true
      → IsReadPlain flow level value (encode_utf8_all letters) gap text p
  pub bare : behind.bare ≡ false
  pub white : behind.white ≡ false
  pub column : behind.column ≡ 0 → ⊥
  pub kept : behind.kept ≡ c.kept

-- plain style is allowed, in brackets or outside
abbrev pub may_be_plain : Bool → Bool → List ℕ → Bool
may_be_plain unicode flow value = if flow then (allowed unicode value).flow_plain
    else (allowed unicode value).plain

-- What is written for a value that may be plain is read as the value: on every page that indents new lines, and not left of the
-- level, at every column, with every break.
abbrev pub PlainIsReadBack : Type 0
PlainIsReadBack = (page : Page) (flow : Bool) (level : ℕ) (c : Cursor) (value : List ℕ)
    → IsUtf8 value → 0 < length value → may_be_plain page.unicode flow (chars value) ≡ true
    → 0 < page.indentation → level ≤ page.indentation
    → PlainIsBack flow level (flow_body page false ascii.space (chars value) ▹ after_text) c value
