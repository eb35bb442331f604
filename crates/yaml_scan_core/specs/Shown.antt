-- The entries that the lexemes of a row show.
use Rattle.std.specs.Prelude.{ℕ, pos, ◌+◌, ◌-◌, ◌*◌, ◌^◌, ◌≡◌, ◌≤◌, ◌<◌, ◌⊎◌, Bool, true, false, nat_lt, if◌then◌else◌, List, [], ◌∷◌, length, slice_index_or, slice_range}
use Rattle.std.specs.Str.{is_utf8}
use Rattle.yaml_scan_model.specs.declared.record.yaml_mark_t.{yaml_mark_t}
use Rattle.yaml_scan_model.specs.declared.name.yaml_scalar_style_t.{yaml_scalar_style_t}
use Rattle.yaml_scan_model.specs.declared.name.yaml_scalar_style_t.TheVariants as styles
use Rattle.yaml_scan_model.specs.scan_types.Marks.{line_at, mark_at}
use Rattle.yaml_scan_model.specs.scan_types.Tokens as tokens
use Rattle.yaml_scan_model.specs.scan_types.Tokens.{TokenBody}
use Rattle.yaml_scan_history.specs.declared.lexeme.Entry.{Entry}
use Rattle.yaml_scan_history.specs.declared.lexeme.Opens.{Opens}
use Rattle.yaml_scan_history.specs.declared.lexeme.Opens.TheVariants as opening
use Rattle.yaml_scan_history.specs.Next.{first_lexeme}
use Rattle.yaml_scan_history.specs.Remaining.{SpelledText, body_in}
use Rattle.yaml_scan_model.specs.declared.kind.Kind.{Kind}
use Rattle.yaml_scan_model.specs.declared.kind.Kind.TheVariants as kinds
use Rattle.yaml_scan_core.specs.declared.lexeme.Lexeme.{Lexeme}
use Rattle.yaml_scan_core.specs.declared.lexeme.Note.{Note}
use Rattle.yaml_scan_core.specs.declared.lexeme.Span.{Span}
use Rattle.yaml_scan_core.specs.Rows.{RowView, first_kind, behind_start, is_set, row_lexeme}

-- ---- texts

-- where texts lie: the text, notes and the arena
pub record Store : Type 0 where
  pub text : List ℕ
  pub notes : List Note
  pub arena : List ℕ

abbrev pub store_of : List ℕ → RowView → Store
store_of text r = record { text = text; notes = r.notes; arena = r.arena }

-- what a span is a part of
abbrev pub base : Store → Span → List ℕ
base s sp = if sp.joined then s.arena else s.text

-- a span holds these bytes
pub record SpanHolds (s : Store) (sp : Span) (bytes : List ℕ) : Type 0 where
  pub order : sp.from ≤ sp.to
  pub inside : sp.to ≤ length (base s sp)
  pub are : slice_range (base s sp) sp.from sp.to ≡ bytes

abbrev pub no_span : Span
no_span = record { from = 0; to = 0; joined = false }

abbrev pub note_at : Store → ℕ → Note
note_at s n = slice_index_or s.notes n record { end = 0; first = no_span; second = no_span }

-- a lexeme has a note, which holds these texts
pub record NoteHolds (s : Store) (x : Lexeme) (a b : List ℕ) : Type 0 where
  pub noted : is_set 8 x ≡ true
  pub known : x.end < length s.notes
  pub first : SpanHolds s (note_at s x.end).first a
  pub second : SpanHolds s (note_at s x.end).second b

-- how many bytes are before and after the value of a scalar without note, and of an anchor or alias
abbrev pub quotes : yaml_scalar_style_t → ℕ × ℕ
quotes styles.YAML_PLAIN_SCALAR_STYLE = (0, 0)
quotes styles.YAML_ANY_SCALAR_STYLE = (1, 0)
quotes _ = (1, 1)

-- a lexeme without note has that value, which is in the text between its marks
pub record ValueStands (s : Store) (x : Lexeme) (value : List ℕ) : Type 0 where
  pub plain : is_set 8 x ≡ false
  pub order : x.start + (quotes x.style).0 ≤ x.end - (quotes x.style).1
  pub inside : x.end ≤ length s.text
  pub are : slice_range s.text (x.start + (quotes x.style).0) (x.end - (quotes x.style).1) ≡ value

abbrev pub HoldsValue : Store → Lexeme → List ℕ → Type 0
HoldsValue s x value = ((first : List ℕ) × NoteHolds s x first value) ⊎ ValueStands s x value

-- the number that digits spell
unfoldable pub number_of : ℕ → List ℕ → ℕ
number_of n [] = n
number_of n (d ∷ ds) = number_of (n * 10 + (d - 48)) ds

-- both numbers of a version are such as an i32 holds
pub record AreSmall (m n : List ℕ) : Type 0 where
  pub major : number_of 0 m < 2 ^ 31
  pub minor : number_of 0 n < 2 ^ 31

-- ---- what a lexeme's own token carries

-- it has no note, and is no key
pub record IsBare (x : Lexeme) : Type 0 where
  pub plain : is_set 8 x ≡ false

abbrev pub Carries : Store → SpelledText → Lexeme → Kind → TokenBody → Type 0
Carries s t x kinds.StreamStart b = IsBare x × (b ≡ tokens.stream_start t.encoding)
Carries s t x kinds.StreamEnd b = IsBare x × (b ≡ tokens.stream_end)
Carries s t x kinds.VersionDirective b = (m n : List ℕ) × NoteHolds s x m n
    × (b ≡ tokens.version_directive (pos (number_of 0 m)) (pos (number_of 0 n))) × AreSmall m n
Carries s t x kinds.TagDirective b = (h p : List ℕ) × NoteHolds s x h p
    × (b ≡ tokens.tag_directive h p) × (is_utf8 p ≡ true)
Carries s t x kinds.BadPrefix b = (h p : List ℕ) × NoteHolds s x h p
    × (b ≡ tokens.tag_directive h p) × (is_utf8 p ≡ false)
Carries s t x kinds.DocumentStart b = IsBare x × (b ≡ tokens.document_start)
Carries s t x kinds.DocumentEnd b = IsBare x × (b ≡ tokens.document_end)
Carries s t x kinds.FlowSequenceStart b = IsBare x × (b ≡ tokens.flow_sequence_start)
Carries s t x kinds.FlowSequenceEnd b = IsBare x × (b ≡ tokens.flow_sequence_end)
Carries s t x kinds.FlowMappingStart b = IsBare x × (b ≡ tokens.flow_mapping_start)
Carries s t x kinds.FlowMappingEnd b = IsBare x × (b ≡ tokens.flow_mapping_end)
Carries s t x kinds.BlockEntry b = IsBare x × (b ≡ tokens.block_entry)
Carries s t x kinds.FlowEntry b = IsBare x × (b ≡ tokens.flow_entry)
Carries s t x kinds.Key b = IsBare x × (b ≡ tokens.key) × (is_set 4 x ≡ false)
Carries s t x kinds.Value b = IsBare x × (b ≡ tokens.value)
Carries s t x kinds.Alias b = (v : List ℕ) × HoldsValue s x v × (b ≡ tokens.alias v)
Carries s t x kinds.Anchor b = (v : List ℕ) × HoldsValue s x v × (b ≡ tokens.anchor v)
Carries s t x kinds.Tag b = (h v : List ℕ) × NoteHolds s x h v
    × (b ≡ tokens.tag h v) × (is_utf8 v ≡ true)
Carries s t x kinds.BadTag b = (h v : List ℕ) × NoteHolds s x h v
    × (b ≡ tokens.tag h v) × (is_utf8 v ≡ false)
Carries s t x kinds.Scalar b = (v : List ℕ) × HoldsValue s x v × (b ≡ tokens.scalar v x.style)
Carries s t x kinds.Failed b = ⊥
Carries s t x kinds.Nothing b = ⊥
Carries s t x kinds.BlockSequenceStart b = ⊥
Carries s t x kinds.BlockMappingStart b = ⊥
Carries s t x kinds.BlockEnd b = ⊥

-- ---- entries

-- the mark of a place; after the text's end, that of the stream's end on a line of its own
abbrev pub place_mark : List ℕ → ℕ → yaml_mark_t
place_mark text p = if nat_lt (length text) p
    then record { index = length text; line = line_at text (length text) + 1; column = 0 }
    else mark_at text p

-- where a lexeme ends
abbrev pub end_at : Store → Lexeme → ℕ
end_at s x = if is_set 8 x then (note_at s x.end).end else x.end

-- the level that opens before it
abbrev pub opens_in : Lexeme → Opens
opens_in x = if is_set 1 x then opening.Sequence
    else if is_set 2 x then opening.Mapping
    else opening.Nothing

-- a lexeme shows an entry, whatever of its tokens is taken
pub record ShowsEntry (s : Store) (t : SpelledText) (x : Lexeme) (e : Entry) : Type 0 where
  pub start : place_mark s.text x.start ≡ e.lexeme.start
  pub end : place_mark s.text (end_at s x) ≡ e.lexeme.end
  pub opens : opens_in x ≡ e.opens
  pub key : is_set 4 x ≡ e.key
  pub body : Carries s t x x.kind (body_in t e.lexeme)

-- nothing of it is taken
pub record ShowsWhole (s : Store) (t : SpelledText) (x : Lexeme) (e : Entry) : Type 0 where
  pub shows : ShowsEntry s t x e
  pub ends : x.ends ≡ e.ends
  pub front : x.front ≡ first_kind x

-- after the BLOCK-ENDs that are taken, more is taken where it is settled
abbrev pub IsFront : Bool → Lexeme → Type 0
IsFront settled x = (x.front ≡ first_kind x)
    ⊎ ((settled ≡ true) × (x.ends ≡ 0) × ((x.front ≡ behind_start x) ⊎ (x.front ≡ x.kind)))

-- some of its tokens are taken
pub record ShowsFront (settled : Bool) (s : Store) (t : SpelledText) (x : Lexeme) (e : Entry)
    : Type 0 where
  pub shows : ShowsEntry s t x e
  pub ends : x.ends ≤ e.ends
  pub front : IsFront settled x

abbrev pub no_entry : Entry
no_entry = record { lexeme = first_lexeme; ends = 0; opens = opening.Nothing; key = false }

abbrev pub entry_at : List Entry → ℕ → Entry
entry_at es n = slice_index_or es n no_entry

-- The row shows these entries, of which some are dropped and some more taken.
pub record ShowsRow (t : SpelledText) (r : RowView) (es : List Entry) : Type 0 where
  pub count : length es ≡ r.dropped + length r.lexemes
  pub taken : r.next ≤ r.settled
  pub few : r.settled ≤ length r.lexemes
  pub front : r.next < length r.lexemes → ShowsFront (nat_lt r.next r.settled)
      (store_of t.text r) t (row_lexeme r r.next) (entry_at es (r.dropped + r.next))
  pub others : (i : ℕ) → r.next < i → i < length r.lexemes
      → ShowsWhole (store_of t.text r) t (row_lexeme r i) (entry_at es (r.dropped + i))

-- What is taken of these entries stays: the lexeme that waits first is the same where it is settled, and else keeps its BLOCK-ENDs;
-- where none waited, nothing is taken of the next one.
pub record KeepsTaken (old new : RowView) (es : List Entry) : Type 0 where
  pub next : new.next ≡ old.next
  pub dropped : new.dropped ≡ old.dropped
  pub settled : new.settled ≡ old.settled
  pub same : old.next < old.settled → row_lexeme new old.next ≡ row_lexeme old old.next
  pub ends : old.next < length old.lexemes
      → (row_lexeme new old.next).ends ≡ (row_lexeme old old.next).ends
  pub first : length old.lexemes ≤ old.next → old.next < length new.lexemes
      → (row_lexeme new old.next).ends ≡ (entry_at es (old.dropped + old.next)).ends
