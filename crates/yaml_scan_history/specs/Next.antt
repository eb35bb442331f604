-- The lexeme that comes after a history: which one is after the gap, and then what can be wrong, in the order of
-- places. The first fault comes in the lexeme's place.
use Rattle.std.specs.Prelude.{ℕ, zero, suc, Bool, false, not, ◌&&◌, ◌||◌, ◌==◌, if◌then◌else◌, List, [], ◌∷◌, Option, Some, None, Result, Ok, Err}
use Rattle.yaml_scan_model.specs.declared.record.yaml_mark_t.{yaml_mark_t}
use Rattle.yaml_scan_model.specs.declared.problem.ScanFault.{ScanFault}
use Rattle.yaml_scan_model.specs.declared.problem.Problem.{Problem}
use Rattle.yaml_scan_model.specs.declared.problem.Problem.TheVariants as problems
use Rattle.yaml_scan_model.specs.declared.problem.Context.TheVariants as contexts
use Rattle.yaml_scan_model.specs.scan_types.Tokens.{zero_mark}
use Rattle.yaml_scan_model.specs.scan_types.Marks.{mark_at}
use Rattle.yaml_scan_model.specs.Wrong.{Wrong, scan_fault}
use Rattle.yaml_scan_history.specs.declared.kind.Kind.{Kind}
use Rattle.yaml_scan_history.specs.declared.kind.Kind.TheVariants as kinds
use Rattle.yaml_scan_history.specs.declared.lexeme.Lexeme.{Lexeme}
use Rattle.yaml_scan_history.specs.Kinds.{may_be_key, cancels, is_value, is_start, is_end}
use Rattle.yaml_scan_history.specs.History.{reached, flow_depth, in_flow, Candidate, candidate, fresh, open_at, has, is_fresh, margin_at, indent, left_by, open_levels, key_allowed, placed}
use Rattle.yaml_scan_history.specs.Words.{WordText, lexeme_at, kind_at}
use Rattle.yaml_scan_history.specs.Between.{Gap, gap_at}

-- a lexeme that was read, or the fault that comes in its place, or nothing after the end
pub data Next : Type 0 where
  Read : Lexeme → Next
  Fails : ScanFault → Next
  Ends : Next

-- the start of the stream
abbrev pub first_lexeme : Lexeme
first_lexeme = record {
  kind = kinds.StreamStart;
  start = zero_mark;
  end = zero_mark;
  reached = zero_mark;
  depth = 0;
  level = 0;
  saved = false;
  required = false;
  broke = false;
}

-- ---- which lexeme is after the gap

-- what is between the last lexeme and the next one
abbrev pub gap_behind : List ℕ → List Lexeme → Gap
gap_behind text h = gap_at (in_flow h) (key_allowed h) text (reached h).index

-- the place after the gap
abbrev pub place_behind : List ℕ → List Lexeme → yaml_mark_t
place_behind text h = mark_at text (gap_behind text h).place

-- the kind of lexeme that starts there, if one can
abbrev pub kind_behind : List ℕ → List Lexeme → Option Kind
kind_behind text h = kind_at (in_flow h) text (gap_behind text h).place

-- a key may begin after the gap: in block context a break allows one
abbrev pub allowed_behind : List Lexeme → Gap → Bool
allowed_behind h gap = key_allowed h || (gap.broke && not (in_flow h))

-- the margin of the innermost level that a lexeme is in
abbrev pub level_in : Kind → ℕ → List Lexeme → ℕ
level_in k column h = indent (left_by k (flow_depth h) column (open_levels h))

-- The lexeme of a kind that starts there, its end aside. It is saved where it may become a key, and required to become
-- one where it also is at the indent, in block context.
abbrev pub begun : Kind → yaml_mark_t → Bool → List Lexeme → Lexeme
begun k start allowed h = record {
  kind = k;
  start = start;
  end = start;
  reached = start;
  depth = flow_depth h;
  level = level_in k start.column h;
  saved = allowed && may_be_key k;
  required = (allowed && may_be_key k)
      && (flow_depth h == 0 && level_in k start.column h == margin_at start.column);
  broke = false;
}

-- the lexeme with the end that its text has; the stream's end stays where it starts
abbrev pub finished : List ℕ → Lexeme → WordText → Lexeme
finished text l w = if is_end l.kind then l
    else record l { end = mark_at text w.end; reached = mark_at text w.reached; broke = w.broke }

-- the lexeme of that kind after the gap, its end aside
abbrev pub begun_behind : Kind → List ℕ → List Lexeme → Lexeme
begun_behind k text h = begun k (placed k (place_behind text h))
    (allowed_behind h (gap_behind text h)) h

-- what its text is, or what is wrong with it
abbrev pub word_behind : Kind → List ℕ → List Lexeme → Result WordText Wrong
word_behind k text h = lexeme_at k (in_flow h) (begun_behind k text h).level text
    (gap_behind text h).place

-- the end, where the text isn't wrong
abbrev pub with_end : List ℕ → Lexeme → Result WordText Wrong → Lexeme
with_end text l (Ok w) = finished text l w
with_end text l (Err w) = l

-- the lexeme of that kind that is after the gap
abbrev pub lexeme_behind : Kind → List ℕ → List Lexeme → Lexeme
lexeme_behind k text h = with_end text (begun_behind k text h) (word_behind k text h)

-- ---- what can be wrong

-- the start of a required candidate that is stale at a place; they are at depth 0
abbrev pub missed : Option Candidate → yaml_mark_t → Option yaml_mark_t
missed None place = None
missed (Some c) place = if c.lexeme.required && not (is_fresh c.lexeme.start place)
    then Some c.lexeme.start else None

-- the start of a required candidate that a lexeme of its depth cancels or replaces
abbrev pub lost_by : Lexeme → Option Candidate → Option yaml_mark_t
lost_by l None = None
lost_by l (Some c) = if c.lexeme.required && (l.saved || (cancels l.kind && not (is_value l.kind)))
    then Some c.lexeme.start else None

-- a `-`, a `?` and a `:` without candidate are only where a key may begin, in block context
abbrev pub misplaced : Kind → yaml_mark_t → Bool → List Lexeme → Bool
misplaced k m allowed h = (not (in_flow h) && not allowed)
    && (is_start k && not (is_value k && has (fresh (candidate (flow_depth h) h) m)))

-- the fault of a required candidate whose `:` hasn't come at a place
abbrev pub colon_missing : yaml_mark_t → yaml_mark_t → ScanFault
colon_missing start place = record {
  problem = problems.NoColon;
  context = contexts.SimpleKey;
  context_mark = start;
  problem_mark = place;
}

abbrev pub no_start : yaml_mark_t → ScanFault
no_start m = record {
  problem = problems.NoTokenStart;
  context = contexts.NextToken;
  context_mark = m;
  problem_mark = m;
}

abbrev pub not_allowed_by : Kind → Problem
not_allowed_by kinds.BlockEntry = problems.SequenceEntryNotAllowed
not_allowed_by kinds.KeyMark = problems.KeyNotAllowed
not_allowed_by _ = problems.ValueNotAllowed

abbrev pub not_allowed_there : Kind → yaml_mark_t → ScanFault
not_allowed_there k m = record {
  problem = not_allowed_by k;
  context = contexts.Nothing;
  context_mark = m;
  problem_mark = m;
}

-- of a candidate that starts there, where one does
abbrev pub colon_missing_of : Option yaml_mark_t → yaml_mark_t → Option ScanFault
colon_missing_of None place = None
colon_missing_of (Some start) place = Some (colon_missing start place)

-- a required candidate that was open where the last lexeme ended, and is stale after the gap
abbrev pub stale_before : List ℕ → List Lexeme → Option ScanFault
stale_before text h = colon_missing_of (missed (open_at 0 h) (place_behind text h))
    (place_behind text h)

-- an indicator that isn't allowed after the gap
abbrev pub indicator_misplaced : Kind → List ℕ → List Lexeme → Option ScanFault
indicator_misplaced k text h =
    if misplaced k (place_behind text h) (allowed_behind h (gap_behind text h)) h
    then Some (not_allowed_there k (place_behind text h)) else None

-- a required candidate that the lexeme cancels or replaces
abbrev pub candidate_lost : Kind → List ℕ → List Lexeme → Option ScanFault
candidate_lost k text h = colon_missing_of
    (lost_by (begun_behind k text h) (fresh (candidate (flow_depth h) h) (place_behind text h)))
    (begun_behind k text h).start

abbrev pub wrong_in : List ℕ → yaml_mark_t → Result WordText Wrong → Option ScanFault
wrong_in text start (Ok w) = None
wrong_in text start (Err w) = Some (scan_fault text start w)

-- what is wrong with the lexeme's own text
abbrev pub text_wrong : Kind → List ℕ → List Lexeme → Option ScanFault
text_wrong k text h = wrong_in text (begun_behind k text h).start (word_behind k text h)

-- a required candidate that is stale where a lexeme ends
abbrev pub stale_after : Lexeme → List Lexeme → Option ScanFault
stale_after l h = colon_missing_of (missed (candidate 0 (l ∷ h)) l.reached) l.reached

-- what can be wrong with a lexeme of that kind after the gap, in the order of places
abbrev pub faults : Kind → List ℕ → List Lexeme → List (Option ScanFault)
faults k text h =
    stale_before text h
    ∷ indicator_misplaced k text h
    ∷ candidate_lost k text h
    ∷ text_wrong k text h
    ∷ stale_after (lexeme_behind k text h) h
    ∷ []

-- ---- what comes

-- the first fault of a list, or else what would come
abbrev pub first_fault_or : List (Option ScanFault) → Next → Next
first_fault_or [] x = x
first_fault_or (Some p ∷ ps) x = Fails p
first_fault_or (None ∷ ps) x = first_fault_or ps x

-- what comes where a lexeme of that kind is after the gap, or none can start there
abbrev pub coming : Option Kind → List ℕ → List Lexeme → Next
coming None text h = first_fault_or (stale_before text h ∷ [])
    (Fails (no_start (place_behind text h)))
coming (Some k) text h = first_fault_or (faults k text h) (Read (lexeme_behind k text h))

unfoldable pub next : List ℕ → List Lexeme → Next
next text [] = Read first_lexeme
next text (l ∷ h) = if is_end l.kind then Ends
    else coming (kind_behind text (l ∷ h)) text (l ∷ h)

abbrev pub extended : Next → List Lexeme → List Lexeme
extended (Read l) h = l ∷ h
extended (Fails p) h = h
extended Ends h = h

-- one lexeme more, where one comes
abbrev pub step : List ℕ → List Lexeme → List Lexeme
step text h = extended (next text h) h

-- the lexemes of n steps, or all where there are fewer
unfoldable pub history : List ℕ → ℕ → List Lexeme
history text zero = []
history text (suc n) = step text (history text n)
