-- Lexemes, and what earlier ones decide. A history has the newest lexeme first, so that to look back is to go
-- down the list.
use Rattle.std.specs.Prelude.{ℕ, zero, suc, ◌+◌, ◌-◌, Bool, true, false, not, ◌&&◌, ◌||◌, ◌==◌, nat_lt, nat_le, if◌then◌else◌, List, [], ◌∷◌, ◌++◌, length, filter, Option, Some, None}
use Rattle.yaml_scan_model.specs.declared.record.yaml_mark_t.{yaml_mark_t}
use Rattle.yaml_scan_model.specs.scan_types.Tokens.{zero_mark}
use Rattle.yaml_scan_history.specs.declared.kind.Kind.{Kind}
use Rattle.yaml_scan_history.specs.declared.kind.Kind.TheVariants as kinds
use Rattle.yaml_scan_history.specs.declared.lexeme.Lexeme.{Lexeme}
use Rattle.yaml_scan_history.specs.declared.lexeme.Entry.{Entry}
use Rattle.yaml_scan_history.specs.declared.lexeme.Opens.{Opens}
use Rattle.yaml_scan_history.specs.declared.lexeme.Opens.TheVariants as opening
use Rattle.yaml_scan_history.specs.Kinds.{depth_after, cancels, is_value, is_start, is_outside, is_end, allows_key}

-- the place that the newest lexeme reaches
abbrev pub reached : List Lexeme → yaml_mark_t
reached [] = zero_mark
reached (l ∷ h) = l.reached

-- how many brackets are open
abbrev pub flow_depth : List Lexeme → ℕ
flow_depth [] = 0
flow_depth (l ∷ h) = depth_after l.kind l.depth

-- some bracket is open
abbrev pub in_flow : List Lexeme → Bool
in_flow h = nat_lt 0 (flow_depth h)

abbrev pub ended : List Lexeme → Bool
ended [] = false
ended (l ∷ h) = is_end l.kind

-- a lexeme by its number: how many are before it
pub record Candidate : Type 0 where
  pub number : ℕ
  pub lexeme : Lexeme

-- The last lexeme of that depth that was saved, with no lexeme of that depth after it that cancels. A depth
-- begins after the opener that is outside it.
unfoldable pub candidate : ℕ → List Lexeme → Option Candidate
candidate d [] = None
candidate d (l ∷ h) =
    if l.depth == d then (if l.saved then Some record { number = length h; lexeme = l }
    else if cancels l.kind then None else candidate d h)
    else if nat_lt l.depth d then None
    else candidate d h

-- how many bytes after its start a key's `:` may be
abbrev pub key_bytes : ℕ
key_bytes = 1024

-- how many lexemes wait at most, and in how many slots
abbrev pub most_waiting : ℕ
most_waiting = key_bytes + 1

-- the place is on its line and within `key_bytes` of the start
abbrev pub is_fresh : yaml_mark_t → yaml_mark_t → Bool
is_fresh start place = nat_le place.line start.line && nat_le place.index (start.index + key_bytes)

-- the candidate, where it isn't stale at that place
abbrev pub fresh : Option Candidate → yaml_mark_t → Option Candidate
fresh None place = None
fresh (Some c) place = if is_fresh c.lexeme.start place then Some c else None

-- the candidate of a depth, where it is open: not stale at the place that was reached
abbrev pub open_at : ℕ → List Lexeme → Option Candidate
open_at d h = fresh (candidate d h) (reached h)

abbrev pub has_number : Option Candidate → ℕ → Bool
has_number None n = false
has_number (Some c) n = c.number == n

-- The earliest open one of n lexemes and one more, or how many they all are: `first` is that of the n.
abbrev pub first_or : ℕ → Bool → ℕ → ℕ
first_or first is_open n = if nat_lt first n then first else if is_open then n else suc n

-- The number of the earliest candidate among the lexemes h that is open after `all`, or how many h are.
unfoldable pub first_open : List Lexeme → List Lexeme → ℕ
first_open all [] = 0
first_open all (l ∷ h) = first_or (first_open all h) (has_number (open_at l.depth all) (length h))
    (length h)

-- the candidate that a lexeme finds open at its depth
abbrev pub found_by : Lexeme → List Lexeme → Option Candidate
found_by l h = fresh (candidate l.depth h) l.start

abbrev pub has : Option Candidate → Bool
has None = false
has (Some c) = true

-- A block level is known by its margin: the first column right of its own, at which what is in it
-- may begin.
abbrev pub margin_at : ℕ → ℕ
margin_at column = column + 1

-- the margin of the innermost level, of levels from the outermost on; 0 where none is open
unfoldable pub indent : List ℕ → ℕ
indent [] = 0
indent (c ∷ []) = c
indent (c ∷ d ∷ cs) = indent (d ∷ cs)

-- The greatest margin that a lexeme leaves open: it closes the levels right of its column; what is outside of
-- them closes all.
abbrev pub keeps : Kind → ℕ → ℕ
keeps k column = if is_outside k then 0 else margin_at column

-- the levels that a lexeme leaves open; inside brackets it leaves all
abbrev pub left_by : Kind → ℕ → ℕ → List ℕ → List ℕ
left_by k depth column levels = if nat_lt 0 depth then levels
    else filter (λ x. nat_le x (keeps k column)) levels

-- the margin of the level that may open at the column of a `-`, a `?`, a `:` or the key of a `:`
abbrev pub opens_at : Option Candidate → Kind → ℕ → ℕ
opens_at None k column = margin_at column
opens_at (Some c) k column = if is_value k then margin_at c.lexeme.start.column
    else margin_at column

-- that level after the others, where it may open and is right of the innermost one
abbrev pub opened : Bool → ℕ → List ℕ → List ℕ
opened may margin levels = if may && nat_lt (indent levels) margin then levels ++ margin ∷ []
    else levels

-- the margins of the levels that no later lexeme has closed
unfoldable pub open_levels : List Lexeme → List ℕ
open_levels [] = []
open_levels (l ∷ h) = opened (is_start l.kind && not (nat_lt 0 l.depth))
    (opens_at (found_by l h) l.kind l.start.column)
    (left_by l.kind l.depth l.start.column (open_levels h))

-- the level that opens with that margin, where it is right of the innermost one
abbrev pub start_of : ℕ → ℕ → List ℕ → Opens → Opens
start_of depth margin levels what = if not (nat_lt 0 depth) && nat_lt (indent levels) margin
    then what else opening.Nothing

-- the level that a `-`, a `?` or a `:` may open
abbrev pub level_of : Kind → Opens
level_of kinds.BlockEntry = opening.Sequence
level_of _ = opening.Mapping

abbrev pub opens_of : Option Candidate → Lexeme → List ℕ → Opens
opens_of found l levels =
    if not (is_start l.kind) then opening.Nothing
    else if is_value l.kind && has found then opening.Nothing
    else start_of l.depth (margin_at l.start.column) levels (level_of l.kind)

-- the levels that a lexeme is after
abbrev pub inside : Lexeme → List Lexeme → List ℕ
inside l h = left_by l.kind l.depth l.start.column (open_levels h)

abbrev pub entry_of : Lexeme → List Lexeme → Entry
entry_of l h = record {
  lexeme = l;
  ends = length (open_levels h) - length (inside l h);
  opens = opens_of
      (found_by l h) l (inside l h);
  key = false;
}

-- the mark that a `:` sets at its candidate: a key, which opens a mapping where it is right of the innermost level
abbrev pub as_key : List ℕ → Entry → Entry
as_key levels e = record {
  lexeme = e.lexeme;
  ends = e.ends;
  opens = start_of e.lexeme.depth
      (margin_at e.lexeme.start.column) levels opening.Mapping;
  key = true;
}

unfoldable pub mark_key : List ℕ → List Entry → ℕ → List Entry
mark_key levels [] n = []
mark_key levels (e ∷ es) zero = as_key levels e ∷ es
mark_key levels (e ∷ es) (suc n) = e ∷ mark_key levels es n

abbrev pub marked : Option Candidate → List ℕ → List Entry → List Entry
marked None levels es = es
marked (Some c) levels es = mark_key levels es c.number

-- A `:` makes a key of the candidate that is open at its place.
abbrev pub keyed : Lexeme → List Lexeme → List Entry → List Entry
keyed l h es = if is_value l.kind then marked (found_by l h) (inside l h) es else es

-- the lexemes from the first on, each with its marks
unfoldable pub finished_tokens : List Lexeme → List Entry
finished_tokens [] = []
finished_tokens (l ∷ h) = keyed l h (finished_tokens h) ++ entry_of l h ∷ []

-- Whether a key may begin after these lexemes, without a break between.
abbrev pub key_allowed : List Lexeme → Bool
key_allowed [] = false
key_allowed (l ∷ h) = allows_key l.kind (l.depth == 0) (has (found_by l h)) || l.broke

-- the stream's end is at the start of a line
abbrev pub placed : Kind → yaml_mark_t → yaml_mark_t
placed k m = if is_end k && nat_lt 0 m.column
    then record { index = m.index; line = m.line + 1; column = 0 } else m
