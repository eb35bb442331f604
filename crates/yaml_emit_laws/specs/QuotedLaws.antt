-- What is written between quotes is read back.
use Rattle.std.specs.Prelude.{ℕ, ◌+◌, ◌<◌, ◌≡◌, true, false, List, length, Ok, IsUtf8}
use Rattle.std.specs.Str.{chars}
use Rattle.yaml_scan_history.specs.scan_types.Ascii as ascii
use Rattle.yaml_scan_history.specs.scan_types.Marks.{byte}
use Rattle.yaml_scan_history.specs.Quoted.{double_quoted_at, single_quoted_at}
use Rattle.yaml_emit_layout.specs.declared.Cursor.{Cursor}
use Rattle.yaml_emit_layout.specs.declared.Encoding.TheVariants.{Utf8}
use Rattle.yaml_emit_layout.specs.Text.{encode}
use Rattle.yaml_emit_layout.specs.Layout.{nothing_more}
use Rattle.yaml_emit_layout.specs.declared.page.Page.{Page}
use Rattle.yaml_emit_layout.specs.Quoted.{quoted_text}
use Rattle.yaml_emit_layout.specs.Style.{allowed}
use Rattle.yaml_emit_laws.specs.Stands.{HasAt}
use Rattle.yaml_emit_laws.specs.Spelling.{QuotedPart, IsSpelling, meaning, quoted}
use Rattle.yaml_emit_laws.specs.ReadBack.{ValueIsReadBack, ValueIsReadBackBefore, between_quotes, between_single, gap_width, is_one_line, StaysInLine}

-- ---- spellings

-- Where a spelling is between double quotes, that is one scalar and has the value that it means, whatever is before and
-- after.
abbrev pub SpellingReads : Type 0
SpellingReads = (parts : List QuotedPart) (text : List ℕ) (p : ℕ) → IsSpelling ascii.quote parts
    → HasAt text p (quoted ascii.quote parts)
    → double_quoted_at text p ≡ Ok (meaning parts, p + length (quoted ascii.quote parts))

-- So it is between single quotes, where no single quote is after.
abbrev pub SingleSpellingReads : Type 0
SingleSpellingReads =
    (parts : List QuotedPart) (text : List ℕ) (p : ℕ) → IsSpelling ascii.apostrophe parts
    → HasAt text p (quoted ascii.apostrophe parts)
    → (byte text (p + length (quoted ascii.apostrophe parts)) ≡ ascii.apostrophe → ⊥)
    → single_quoted_at text p ≡ Ok (meaning parts, p + length (quoted ascii.apostrophe parts))

-- ---- what an emitter writes

-- What is written for a value between double quotes is read as the value: on every page, at every column, with every break; with
-- lines that may be broken, where new lines are indented.
abbrev pub QuotedIsReadBack : Type 0
QuotedIsReadBack = (page : Page) (c : Cursor) (value : List ℕ) → IsUtf8 value
    → (page.cuts ≡ true → 0 < page.indentation)
    → ValueIsReadBack double_quoted_at (between_quotes page (chars value)) c value

-- Wherever a text has a double quoted scalar's bytes in UTF-8, the value is read after the space
-- before it.
abbrev pub QuotedTextIsReadBack : Type 0
QuotedTextIsReadBack = (page : Page) (c : Cursor) (value text : List ℕ) (p : ℕ) → IsUtf8 value
    → (page.cuts ≡ true → 0 < page.indentation)
    → HasAt text p (encode Utf8 (quoted_text page (chars value) c nothing_more))
    → double_quoted_at text (p + gap_width c)
    ≡ Ok (value, p + length (encode Utf8 (quoted_text page (chars value) c nothing_more)))

-- As a simple key, which may not be broken, it stays in its line, whatever the value.
abbrev pub KeysStayInLine : Type 0
KeysStayInLine = (page : Page) (c : Cursor) (value : List ℕ) → IsUtf8 value → page.cuts ≡ false
    → StaysInLine (between_quotes page (chars value)) c

-- What is written for a value of one line between single quotes, where they are allowed, is read as the value, unless a single
-- quote is after; with lines that may be broken, where new lines are indented.
abbrev pub SingleIsReadBack : Type 0
SingleIsReadBack = (page : Page) (c : Cursor) (value : List ℕ) → IsUtf8 value
    → (page.cuts ≡ true → 0 < page.indentation)
    → (allowed page.unicode (chars value)).single ≡ true → is_one_line (chars value) ≡ true
    → ValueIsReadBackBefore (λ b. b ≡ ascii.apostrophe → ⊥) single_quoted_at
    (between_single page (chars value)) c
    value
