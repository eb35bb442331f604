-- What the fields of a scanner say of the lexemes that were read.
use Rattle.std.specs.Prelude.{ℕ, ◌+◌, ◌-◌, ◌^◌, ◌≡◌, ◌≤◌, ◌<◌, ◌⊎◌, Bool, true, false, not, ◌==◌, ◌&&◌, ◌||◌, nat_lt, List, ◌∷◌, length, take, Option, Some, None, Result, Ok, Err}
use Rattle.yaml_scan_model.specs.declared.name.yaml_encoding_t.{yaml_encoding_t}
use Rattle.yaml_scan_model.specs.declared.problem.ScanFault.{ScanFault}
use Rattle.yaml_scan_model.specs.declared.problem.Problem.{Problem}
use Rattle.yaml_scan_model.specs.declared.problem.Problem.TheVariants as problems
use Rattle.yaml_scan_model.specs.declared.problem.Context.TheVariants as contexts
use Rattle.yaml_scan_model.specs.scan_types.Ascii as ascii
use Rattle.yaml_scan_model.specs.scan_types.Marks.{byte, column_at, mark_at, splits_break, starts}
use Rattle.yaml_scan_history.specs.Between.{Gap, gap_at, with_break}
use Rattle.yaml_scan_history.specs.declared.kind.Kind.{Kind as ReadKind}
use Rattle.yaml_scan_history.specs.declared.kind.Kind.TheVariants as reads
use Rattle.yaml_scan_history.specs.declared.lexeme.Lexeme.{Lexeme as Read}
use Rattle.yaml_scan_history.specs.declared.lexeme.Entry.{Entry}
use Rattle.yaml_scan_history.specs.History.{candidate, flow_depth, ended, finished_tokens, first_open, fresh, key_allowed, left_by, open_levels, reached}
use Rattle.yaml_scan_history.specs.Kinds.{is_end}
use Rattle.yaml_scan_history.specs.Laws.{Upto}
use Rattle.yaml_scan_history.specs.Next.{Next, Fails, allowed_behind, gap_behind, history, missed, next}
use Rattle.yaml_scan_history.specs.Stepwise.{tested}
use Rattle.yaml_scan_history.specs.Remaining.{SpelledText}
use Rattle.yaml_scan_history.specs.Words.{kind_at}
use Rattle.yaml_scan_text.specs.Lines.{IsSpelled}
use Rattle.yaml_scan_core.specs.declared.fault.Fault.{Fault}
use Rattle.yaml_scan_core.specs.declared.fault.Refused.{Refused}
use Rattle.yaml_scan_core.specs.declared.scanner.Scanner.{Scanner}
use Rattle.yaml_scan_core.specs.declared.keys.SimpleKey.{SimpleKey}
use Rattle.yaml_scan_model.specs.declared.kind.Kind.{Kind}
use Rattle.yaml_scan_model.specs.declared.kind.Kind.TheVariants as kinds
use Rattle.yaml_scan_core.specs.declared.lexeme.Lexeme.{Lexeme}
use Rattle.yaml_scan_core.specs.Lines.{IsLineStart}
use Rattle.yaml_scan_core.specs.Candidates.{AreKeys, AreStale, AreWithin, KeyStack, fresh_key, inner, key_at, key_view, stack_of, view_of}
use Rattle.yaml_scan_core.specs.Margins.{AreLevels}
use Rattle.yaml_scan_core.specs.Rows.{HasRoom, RowView, first_kind, row_lexeme, loses_none, row_of}
use Rattle.yaml_scan_core.specs.Shown.{KeepsTaken, ShowsRow, entry_at, place_mark}

-- ---- places

-- A lexeme may be there, in a line that starts there, of which that many bytes continue characters.
pub record IsPlace (text : List ℕ) (at line wide : ℕ) : Type 0 where
  pub inside : at ≤ length text
  pub whole : splits_break text at ≡ false
  pub begins : IsLineStart text at line
  pub column : column_at text at + wide + line ≡ at

-- ---- gaps

-- all but the place and whether a key may begin there is the same
abbrev pub StaysAt : Scanner → Scanner → Type 0
StaysAt old new = new ≡ record old {
  at = new.at;
  line = new.line;
  wide = new.wide;
  key_allowed = new.key_allowed;
}

-- the gap that is there
abbrev pub gap_there : Scanner → Gap
gap_there s = gap_at (nat_lt 0 (inner (stack_of s.keys))) s.key_allowed s.text.now s.at

-- a part of the gap was passed, with a break in it or without
pub record Passes (old new : Scanner) : Type 0 where
  pub broke : Bool
  pub gap : gap_there old ≡ with_break broke (gap_there new)
  pub allowed : new.key_allowed
      ≡ (old.key_allowed || (broke && not (nat_lt 0 (inner (stack_of old.keys)))))
  pub place : IsPlace new.text.now new.at new.line new.wide
  pub further : old.at ≤ new.at

-- what is there is passed, or is a lexeme
pub record PassesOne (old new : Scanner) (on : Bool) : Type 0 where
  pub same : StaysAt old new
  pub passes : Passes old new
  pub more : on ≡ true → old.at < new.at
  pub stop : on ≡ false → gap_there new ≡ record { place = new.at; broke = false }

-- the byte may begin a break
abbrev pub MayBreak : ℕ → Type 0
MayBreak b = (b ≡ ascii.line_feed) ⊎ ((b ≡ ascii.carriage_return) ⊎ ((b ≡ 0xC2) ⊎ (b ≡ 0xE2)))

-- ---- faults

abbrev pub fault_in : List ℕ → Fault → ScanFault
fault_in text f = record {
  problem = f.problem;
  context = f.context;
  context_mark = place_mark text f.start;
  problem_mark = place_mark text f.at;
}

abbrev pub no_colon : ℕ → ℕ → Fault
no_colon start at = record {
  problem = problems.NoColon;
  context = contexts.SimpleKey;
  start = start;
  at = at;
}

-- no lexeme starts there
abbrev pub no_start_at : ℕ → Fault
no_start_at at = record {
  problem = problems.NoTokenStart;
  context = contexts.NextToken;
  start = at;
  at = at;
}

-- the lexeme at the place as a candidate, where one may begin
abbrev pub candidate_in : Scanner → SimpleKey
candidate_in s = record {
  possible = s.key_allowed;
  number = s.row.dropped + length s.row.lexemes.items;
  index = s.at;
  column = s.at - s.line - s.wide;
}

-- the `:` of a candidate that starts in that column must come
abbrev pub required_in_column : ℕ → Scanner → Bool
required_in_column column s = not (nat_lt 0 (inner (stack_of s.keys)))
    && s.levels.margin == column + 1

-- a test passes, or refuses what starts there, at that place
abbrev pub Tests : Option ℕ → ℕ → Option Fault → Result (Unit {0}) Refused → Type 0
Tests None at f (Ok u) = Unit {0}
Tests None at f (Err e) = ⊥
Tests (Some start) at f (Ok u) = ⊥
Tests (Some start) at f (Err e) = f ≡ Some (no_colon start at)

-- a problem of what is there
abbrev pub refusal_at : Problem → ℕ → Fault
refusal_at problem at = record {
  problem = problem;
  context = contexts.Nothing;
  start = at;
  at = at;
}

-- a test passes where it holds, or else refuses
abbrev pub TestsOf : Bool → Fault → Option Fault → Result (Unit {0}) Refused → Type 0
TestsOf true p f (Ok u) = Unit {0}
TestsOf true p f (Err e) = ⊥
TestsOf false p f (Ok u) = ⊥
TestsOf false p f (Err e) = f ≡ Some p

-- ---- the state

abbrev pub stream_of : Scanner → SpelledText
stream_of s = record { encoding = s.encoding; text = s.text.now }

-- how many lexemes were read
abbrev pub read_by : Scanner → ℕ
read_by s = s.row.dropped + length s.row.lexemes.items

-- how many lexemes have all their tokens taken
abbrev pub taken_by : Scanner → ℕ
taken_by s = s.row.dropped + s.row.next

-- the lexemes that were read
abbrev pub history_of : Scanner → List Read
history_of s = history s.text.now (read_by s)

-- no byte is 0
abbrev pub HasNoNul : List ℕ → Type 0
HasNoNul text = (p : ℕ) → p < length text → 0 < byte text p

-- characters begin after ASCII and breaks, and where lexemes do
pub record SpelledOut (text : List ℕ) : Type 0 where
  pub spelled : IsSpelled text
  pub clear : (n : ℕ) → starts (byte text (gap_behind text (history text n)).place) ≡ true

-- the same, which searches needn't look into
unfoldable pub Spells : List ℕ → Type 0
Spells text = SpelledOut text

-- a text as decoding gives it
pub record IsDecoded (text : List ℕ) : Type 0 where
  pub some : HasNoNul text
  pub spells : Spells text

-- the row, the keys and what was settled, after lexemes
pub record Holds (s : Scanner) (h : List Read) : Type 0 where
  pub long : length s.text.now < 2 ^ 63
  pub row : ShowsRow (stream_of s) (row_of s.row) (finished_tokens h)
  pub room : HasRoom s.row
  pub settled : s.row.dropped + s.row.settled ≤ first_open h h
  pub keys : AreKeys s.text.now (stack_of s.keys) h (reached h)
  pub few : length s.levels.outer.items < 2 ^ 32
  pub fault : s.fault ≡ None
  pub bytes : IsDecoded s.text.now

-- the state between two lexemes
pub record Shows (s : Scanner) (h : List Read) : Type 0 where
  pub holds : Holds s h
  pub over : s.ended ≡ ended h
  pub place : IsPlace s.text.now s.at s.line s.wide
  pub mark : ended h ≡ false → reached h ≡ mark_at s.text.now s.at
  pub allowed : ended h ≡ false → s.key_allowed ≡ key_allowed h
  pub margins : AreLevels s.levels (open_levels h)

-- the state after the gap
pub record IsBehind (s : Scanner) (h : List Read) : Type 0 where
  pub holds : Holds s h
  pub is : h ≡ history_of s
  pub some : 0 < length h
  pub more : ended h ≡ false
  pub going : s.ended ≡ false
  pub place : IsPlace s.text.now s.at s.line s.wide
  pub gap : s.at ≡ (gap_behind s.text.now h).place
  pub further : Upto (reached h) (mark_at s.text.now s.at)
  pub allowed : s.key_allowed ≡ allowed_behind h (gap_behind s.text.now h)

-- a lexeme of a kind is there, where no required candidate is stale
pub record StandsAt (k : ReadKind) (s : Scanner) (h : List Read) : Type 0 where
  pub behind : IsBehind s h
  pub early : missed (candidate 0 h) (mark_at s.text.now s.at) ≡ None
  pub margins : AreLevels s.levels (open_levels h)
  pub kind : kind_at (nat_lt 0 (flow_depth h)) s.text.now s.at ≡ Some k

-- the levels that it leaves open
abbrev pub left_behind : ReadKind → Scanner → List Read → List ℕ
left_behind k s h = left_by k (flow_depth h) (column_at s.text.now s.at) (open_levels h)

-- the same, where that many levels that it closes are closed
pub record StandsAs (k : ReadKind) (s : Scanner) (h : List Read) (n : ℕ) : Type 0 where
  pub behind : IsBehind s h
  pub early : missed (candidate 0 h) (mark_at s.text.now s.at) ≡ None
  pub margins : AreLevels s.levels (left_behind k s h)
  pub kind : kind_at (nat_lt 0 (flow_depth h)) s.text.now s.at ≡ Some k
  pub ends : n + length (left_behind k s h) ≡ length (open_levels h)

-- ---- kinds

-- as what a lexeme of a token's kind is read
abbrev pub read_as : Kind → ReadKind
read_as kinds.StreamEnd = reads.StreamEnd
read_as kinds.VersionDirective = reads.Directive
read_as kinds.TagDirective = reads.Directive
read_as kinds.BadPrefix = reads.Directive
read_as kinds.DocumentStart = reads.DocumentStart
read_as kinds.DocumentEnd = reads.DocumentEnd
read_as kinds.FlowSequenceStart = reads.FlowSequenceStart
read_as kinds.FlowMappingStart = reads.FlowMappingStart
read_as kinds.FlowSequenceEnd = reads.FlowSequenceEnd
read_as kinds.FlowMappingEnd = reads.FlowMappingEnd
read_as kinds.FlowEntry = reads.FlowEntry
read_as kinds.BlockEntry = reads.BlockEntry
read_as kinds.Key = reads.KeyMark
read_as kinds.Value = reads.ValueMark
read_as kinds.Alias = reads.Alias
read_as kinds.Anchor = reads.Anchor
read_as kinds.Tag = reads.Tag
read_as kinds.BadTag = reads.Tag
read_as _ = reads.StreamStart

abbrev pub IsOpener : Kind → Type 0
IsOpener k = (k ≡ kinds.FlowSequenceStart) ⊎ (k ≡ kinds.FlowMappingStart)

abbrev pub IsCloser : Kind → Type 0
IsCloser k = (k ≡ kinds.FlowSequenceEnd) ⊎ (k ≡ kinds.FlowMappingEnd)

abbrev pub IsMark : Kind → Type 0
IsMark k = (k ≡ kinds.DocumentStart) ⊎ (k ≡ kinds.DocumentEnd)

-- ---- the key of a `:`

-- the innermost level's key
abbrev pub own_key : Scanner → SimpleKey
own_key s = key_at (stack_of s.keys) (inner (stack_of s.keys))

-- the `:` at the place makes that a key
pub record FindsKey (k : SimpleKey) (s : Scanner) (h : List Read) : Type 0 where
  pub own : k ≡ own_key s
  pub fresh : fresh_key s.text.now k (mark_at s.text.now s.at)
      ≡ Some (key_view s.text.now k)

-- it makes none
abbrev pub FindsNone : Scanner → List Read → Type 0
FindsNone s h = fresh_key s.text.now (own_key s) (mark_at s.text.now s.at) ≡ None

-- what no call changes: how many lexemes are read at once, and how the stream's bytes were spelled
pub record Fixed : Type 0 where
  pub batch : ℕ
  pub encoding : yaml_encoding_t

abbrev pub fixed_of : Scanner → Fixed
fixed_of s = record { batch = s.batch; encoding = s.encoding }

-- what is taken of these entries stays
pub record Keeps (old new : Scanner) (es : List Entry) : Type 0 where
  pub fixed : fixed_of new ≡ fixed_of old
  pub row : KeepsTaken (row_of old.row) (row_of new.row) es

-- The state after a lexeme that was read, where it isn't tested yet whether a required candidate is stale.
pub record Takes (old new : Scanner) (h : List Read) : Type 0 where
  pub lexeme : Read
  pub shows : Shows new (lexeme ∷ h)
  pub next : next old.text.now h ≡ tested lexeme h
  pub text : new.text.now ≡ old.text.now
  pub further : Upto (reached h) lexeme.start
  -- a required candidate of the block level is the one that there was, or isn't stale
  pub outer : new.keys.required ≡ true
      → ((key_at (stack_of new.keys) 0 ≡ key_at (stack_of old.keys) 0)
      × (candidate 0 (lexeme ∷ h) ≡ candidate 0 h))
      ⊎ (missed (candidate 0 (lexeme ∷ h)) lexeme.reached ≡ None)
  pub passed : new.keys.passed ≤ old.keys.passed
  pub settled : new.row.dropped + new.row.settled ≡ old.row.dropped + old.row.settled
  -- after the stream's end none is
  pub idle : is_end lexeme.kind ≡ true → (missed (candidate 0 (lexeme ∷ h)) lexeme.reached ≡ None)
      × (missed (candidate 0 (lexeme ∷ h)) (mark_at old.text.now new.at) ≡ None)
  pub kept : Keeps old new (finished_tokens (lexeme ∷ h))

-- ---- where no lexeme is read

-- The keys give the earliest open candidate: they are the candidates of that many lexemes, or the block level's is open.
abbrev pub TellsFirst : List ℕ → KeyStack → ℕ → List Read → Type 0
TellsFirst text s n h = (AreKeys text s h (reached h) × (n ≡ length h))
    ⊎ ((fresh_key text (key_at s 0) (reached h) ≡ view_of (fresh (candidate 0 h) (reached h)))
    × ((fresh (candidate 0 h) (reached h) ≡ None → ⊥) × AreStale text s (reached h)))

-- The row shows what the lexemes that were read are, up to the earliest open candidate, and that one's start and BLOCK-ENDs.
pub record ShowsSettled (s : Scanner) (h : List Read) : Type 0 where
  pub all : List Entry
  pub row : ShowsRow (stream_of s) (row_of s.row) all
  pub more : length h ≤ length all
  pub front : take (first_open h h) all ≡ take (first_open h h) (finished_tokens h)
  pub lost : (entry_at all (first_open h h)).ends
      ≡ (entry_at (finished_tokens h) (first_open h h)).ends
  pub start : first_open h h < length h
      → (entry_at all (first_open h h)).lexeme
      ≡ (entry_at (finished_tokens h) (first_open h h)).lexeme
  pub room : HasRoom s.row
  pub settled : s.row.dropped + s.row.settled ≤ first_open h h
  pub keys : TellsFirst s.text.now (stack_of s.keys) (read_by s) h
  pub within : AreWithin (length s.text.now) (stack_of s.keys)
  pub long : length s.text.now < 2 ^ 63

-- the fault that is kept comes next, unless memory ran out
abbrev pub IsTold : List ℕ → Option Fault → Next → Type 0
IsTold text None x = Unit {0}
IsTold text (Some f) x = x ≡ Fails (fault_in text f)

-- No lexeme was read.
pub record Falls (old new : Scanner) (h : List Read) : Type 0 where
  pub settled : ShowsSettled new h
  pub text : new.text.now ≡ old.text.now
  pub told : IsTold old.text.now new.fault (next old.text.now h)
  pub kept : Keeps old new settled.all

abbrev pub Reads : Scanner → Scanner → List Read → Result (Unit {0}) Refused → Type 0
Reads old new h (Ok u) = Takes old new h
Reads old new h (Err e) = Falls old new h

-- where a lexeme of that kind is, so that no required candidate is stale, and its levels are closed; or none was read
abbrev pub Finds : Scanner → Scanner → List Read → Result ReadKind Refused → Type 0
Finds old new h (Ok k) = StandsAt k new h × (new.text.now ≡ old.text.now) × (new.row ≡ old.row)
    × (fixed_of new ≡ fixed_of old)
Finds old new h (Err e) = Falls old new h

-- one lexeme more
pub record Advances (old new : Scanner) : Type 0 where
  pub shows : Shows new (history_of new)
  pub text : new.text.now ≡ old.text.now
  pub kept : Keeps old new (finished_tokens (history_of new))
  pub one : read_by new ≡ read_by old + 1

-- what one step comes to
abbrev pub Steps : Scanner → Scanner → List Read → Result (Unit {0}) Refused → Type 0
Steps old new h (Ok u) = Advances old new
Steps old new h (Err e) = Falls old new h

-- ---- settling

-- The keys give the earliest open candidate of the first n lexemes, after which that place is reached, in a line that starts there.
pub record MaySettle (s : Scanner) (at line n : ℕ) : Type 0 where
  pub long : length s.text.now < 2 ^ 63
  pub mark : reached (history s.text.now n) ≡ mark_at s.text.now at
  pub begins : IsLineStart s.text.now at line
  pub keys : TellsFirst s.text.now (stack_of s.keys) (read_by s) (history s.text.now n)
  pub within : AreWithin (length s.text.now) (stack_of s.keys)
  pub dropped : s.row.dropped + s.row.settled
      ≤ first_open (history s.text.now n) (history s.text.now n)

-- what is before it is settled, and the keys that are stale are passed
pub record HasSettled (old new : Scanner) (n : ℕ) : Type 0 where
  pub first : old.row.dropped + new.row.settled
      ≡ first_open (history old.text.now n) (history old.text.now n)
  pub few : new.keys.passed ≤ length new.keys.levels.items
  pub stale : AreStale old.text.now (stack_of new.keys) (reached (history old.text.now n))

-- ---- what rests

-- what is before the earliest open candidate is settled, and more may be read
pub record IsGoing (s : Scanner) : Type 0 where
  pub shows : Shows s (history_of s)
  pub some : 0 < read_by s
  pub going : s.ended ≡ false
  pub first : s.row.dropped + s.row.settled ≡ first_open (history_of s) (history_of s)

-- all is read and settled, up to the stream's end
pub record IsOver (s : Scanner) : Type 0 where
  pub over : s.ended ≡ true
  pub end : ended (history_of s) ≡ true
  pub row : ShowsRow (stream_of s) (row_of s.row) (finished_tokens (history_of s))
  pub all : s.row.settled ≡ length s.row.lexemes.items
  pub fault : s.fault ≡ None

-- a row but its last lexeme
abbrev pub but_last : RowView → RowView
but_last r = record r { lexemes = take (length r.lexemes - 1) r.lexemes; settled = r.settled - 1 }

-- A lexeme means the fault, and the BLOCK-ENDs of the entry that is lost, of which some are taken or none.
pub record IsLost (text : List ℕ) (none : Bool) (x : Lexeme) (e : Entry) : Type 0 where
  pub kind : x.kind ≡ kinds.Failed
  pub plain : x.flags ≡ 0
  pub front : x.front ≡ first_kind x
  pub ends : x.ends ≤ e.ends
  pub whole : none ≡ true → x.ends ≡ e.ends
  pub start : 0 < x.ends → place_mark text x.start ≡ e.lexeme.start

-- After h the tokens end by the fault that comes, or by out of memory: the lexemes from the earliest open candidate on are lost.
pub record HasFailed (s : Scanner) (h : List Read) : Type 0 where
  pub over : s.ended ≡ true
  pub row : ShowsRow (stream_of s) (but_last (row_of s.row))
      (take (first_open h h) (finished_tokens h))
  pub some : 0 < s.row.settled
  pub all : s.row.settled ≡ length s.row.lexemes.items
  pub lost : IsLost s.text.now (nat_lt (s.row.next + 1) s.row.settled)
      (row_lexeme (row_of s.row) (s.row.settled - 1))
      (entry_at (finished_tokens h) (first_open h h))
  pub none : loses_none (row_lexeme (row_of s.row) (s.row.settled - 1))
      ≡ not (nat_lt (first_open h h) (length h))
  pub told : IsTold s.text.now s.fault (next s.text.now h)

-- so much is read that the next tokens are known, or more may be read
abbrev pub Rests : Scanner → Type 0
Rests s = IsGoing s ⊎ (IsOver s ⊎ ((n : ℕ) × HasFailed s (history s.text.now n)))
