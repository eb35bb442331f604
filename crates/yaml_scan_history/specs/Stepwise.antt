-- What comes after a history, a test at a time, as the code looks for it: what proofs go by.
use Rattle.std.specs.Prelude.{ℕ, nat_lt, if◌then◌else◌, List, ◌∷◌, Option, Some, None, Result, Ok, Err}
use Rattle.yaml_scan_model.specs.declared.record.yaml_mark_t.{yaml_mark_t}
use Rattle.yaml_scan_model.specs.scan_types.Marks.{mark_at}
use Rattle.yaml_scan_model.specs.Wrong.{Wrong, scan_fault}
use Rattle.yaml_scan_history.specs.declared.kind.Kind.{Kind}
use Rattle.yaml_scan_history.specs.declared.lexeme.Lexeme.{Lexeme}
use Rattle.yaml_scan_history.specs.History.{reached, flow_depth, candidate, fresh, placed}
use Rattle.yaml_scan_history.specs.Next.{Next, Read, Fails, colon_missing, no_start, not_allowed_there, allowed_behind, begun, finished, misplaced, missed, lost_by}
use Rattle.yaml_scan_history.specs.Words.{WordText, lexeme_at, kind_at}
use Rattle.yaml_scan_history.specs.Between.{Gap}

abbrev pub no_colon : yaml_mark_t → yaml_mark_t → Next
no_colon start place = Fails (colon_missing start place)

abbrev pub no_token : yaml_mark_t → Next
no_token m = Fails (no_start m)

abbrev pub not_allowed : Kind → yaml_mark_t → Next
not_allowed k m = Fails (not_allowed_there k m)

-- the last test, where the lexeme is read: no required candidate is stale after it
abbrev pub tested : Lexeme → List Lexeme → Next
tested l h = elim (missed (candidate 0 (l ∷ h)) l.reached) as (λ _. Next)
    [ Some start ↦ no_colon start l.reached | None ↦ Read l ]

-- the lexeme's own fault
abbrev pub unless_wrong : Result WordText Wrong → List ℕ → Lexeme → List Lexeme → Next
unless_wrong (Err w) text l h = Fails (scan_fault text l.start w)
unless_wrong (Ok w) text l h = tested (finished text l w) h

abbrev pub unless_lost : Option yaml_mark_t → List ℕ → ℕ → Lexeme → List Lexeme → Next
unless_lost (Some start) text p l h = no_colon start l.start
unless_lost None text p l h = unless_wrong
    (lexeme_at l.kind (nat_lt 0 l.depth) l.level text p) text l
    h

-- the lexeme of that kind, which is after the gap
abbrev pub of_kind : Option Kind → List ℕ → Gap → List Lexeme → Next
of_kind None text gap h = no_token (mark_at text gap.place)
of_kind (Some k) text gap h =
    if misplaced k (mark_at text gap.place) (allowed_behind h gap) h
    then not_allowed k (mark_at text gap.place)
    else unless_lost (lost_by (begun k (placed k (mark_at text gap.place)) (allowed_behind h gap) h)
    (fresh (candidate (flow_depth h) h) (mark_at text gap.place))) text gap.place
    (begun k (placed k (mark_at text gap.place)) (allowed_behind h gap) h) h

abbrev pub unless_missed : Option yaml_mark_t → List ℕ → Gap → List Lexeme → Next
unless_missed (Some start) text gap h = no_colon start (mark_at text gap.place)
unless_missed None text gap h = of_kind
    (kind_at (nat_lt 0 (flow_depth h)) text gap.place) text gap h

-- what is after the gap
abbrev pub behind : List ℕ → Gap → List Lexeme → Next
behind text gap h = unless_missed (missed (fresh (candidate 0 h) (reached h))
    (mark_at text gap.place)) text gap h
