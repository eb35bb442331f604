-- What a scanner says of its tokens: the texts of the one taken last, whether the next one is known, and the marks of places.
use Rattle.std.specs.Prelude.{ℕ, pos, ◌+◌, ◌-◌, ◌≡◌, ◌≢◌, ◌≤◌, ◌<◌, ◌⊎◌, Bool, ◌==◌, ◌||◌, true, false, if◌then◌else◌, List, [], length, slice_range, Option, Some, None}
use Rattle.yaml_scan_model.specs.declared.fault.yaml_origin_t.TheVariants as origins
use Rattle.yaml_scan_model.specs.scan_types.Faults.{Fault as Told, memory_fault}
use Rattle.yaml_scan_model.specs.scan_types.Marks.{byte, mark_at}
use Rattle.yaml_scan_runs.specs.Runs.{is_stop}
use Rattle.yaml_scan_model.specs.Problems.{scanner_fault}
use Rattle.yaml_scan_history.specs.Remaining.{SpelledText}
use Rattle.yaml_scan_model.specs.Texts.{Texts}
use Rattle.yaml_scan_model.specs.declared.kind.Kind.{Kind}
use Rattle.yaml_scan_model.specs.declared.kind.Kind.TheVariants as kinds
use Rattle.yaml_scan_core.specs.declared.fault.Fault.{Fault}
use Rattle.yaml_scan_core.specs.declared.lexeme.Lexeme.{Lexeme}
use Rattle.yaml_scan_core.specs.declared.lexeme.Span.{Span}
use Rattle.yaml_scan_core.specs.declared.place.Locator.{Locator}
use Rattle.yaml_scan_core.specs.declared.scanner.Scanner.{Scanner}
use Rattle.yaml_scan_core.specs.Rows.{is_set}
use Rattle.yaml_scan_core.specs.Shown.{Store, base, note_at, number_of, quotes}
use Rattle.yaml_scan_core.specs.Asked.{front_lexeme, last_lexeme, store_in}
use Rattle.yaml_scan_core.specs.Scanning.{fault_in, stream_of}

-- ---- texts

-- what a span is
abbrev pub span_in : Store → Span → List ℕ
span_in o sp = slice_range (base o sp) sp.from sp.to

-- it is a part of what it is taken of
pub record SpanFits (o : Store) (sp : Span) : Type 0 where
  pub order : sp.from ≤ sp.to
  pub inside : sp.to ≤ length (base o sp)

-- both texts of a lexeme's note
abbrev pub first_in : Store → Lexeme → List ℕ
first_in o x = span_in o (note_at o x.end).first

abbrev pub second_in : Store → Lexeme → List ℕ
second_in o x = span_in o (note_at o x.end).second

-- a lexeme's value: that of its note, or what is between its quotes
abbrev pub value_in : Store → Lexeme → List ℕ
value_in o x = if is_set 8 x then second_in o x
    else slice_range o.text (x.start + (quotes x.style).0) (x.end - (quotes x.style).1)

-- a token of that kind has a value
abbrev pub has_value : Kind → Bool
has_value kinds.Alias = true
has_value kinds.Anchor = true
has_value kinds.Scalar = true
has_value _ = false

-- it has a handle, and a suffix or prefix
abbrev pub has_parts : Kind → Bool
has_parts kinds.Tag = true
has_parts kinds.BadTag = true
has_parts kinds.TagDirective = true
has_parts kinds.BadPrefix = true
has_parts _ = false

-- it has the numbers of a version
abbrev pub has_numbers : Kind → Bool
has_numbers kinds.VersionDirective = true
has_numbers _ = false

-- the texts of a lexeme of that kind
abbrev pub texts_as : Kind → Store → SpelledText → Lexeme → Texts
texts_as k o t x = record {
  value = if has_value k then value_in o x else [];
  handle = if has_parts k then first_in o x else [];
  suffix = if has_parts k then second_in o x else [];
  major = if has_numbers k then pos (number_of 0 (first_in o x)) else pos 0;
  minor = if has_numbers k then pos (number_of 0 (second_in o x)) else pos 0;
  encoding = t.encoding;
}

-- those of the token that was taken last
abbrev pub texts_of : Scanner → Texts
texts_of s = texts_as (last_lexeme s).kind (store_in s) (stream_of s) (last_lexeme s)

-- ---- what is next

-- the next token is known, whatever follows: it is settled, or a BLOCK-END
pub record KnowsNext (s : Scanner) : Type 0 where
  pub known : (s.row.next < s.row.settled)
      ⊎ ((s.row.next < length s.row.lexemes.items) × (0 < (front_lexeme s).ends))
  pub token : (front_lexeme s).front ≢ kinds.Failed

-- what is reported of a fault that is kept; where none is, memory ran out
abbrev pub fault_told : List ℕ → Option Fault → Told
fault_told text (Some f) = scanner_fault (fault_in text f)
fault_told text None = memory_fault origins.Scanner

-- ---- marks

-- a break of several bytes may go on after such a byte
abbrev pub may_split : ℕ → Bool
may_split b = b == 0x80 || (b == 0xC2 || b == 0xE2)

-- no byte between the places stops a run of text
abbrev pub IsRun : List ℕ → ℕ → ℕ → Type 0
IsRun text p q = (k : ℕ) → p ≤ k → k < q → is_stop [] (byte text k) ≡ false

-- a locator has the mark of a place in that text
pub record Locates (text : List ℕ) (l : Locator) : Type 0 where
  pub inside : l.mark.index ≤ length text
  pub mark : l.mark ≡ mark_at text l.mark.index
