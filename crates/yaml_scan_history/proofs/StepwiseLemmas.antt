-- The lexeme that comes, or its first fault, is what one test after the other finds.
use Rattle.std.proofs.Common.{◌≡◌, ℕ, Bool, cond, List, [], ◌∷◌, Option, Some, None, Result, refl, arith}
use Rattle.yaml_scan_model.specs.declared.record.yaml_mark_t.{yaml_mark_t}
use Rattle.yaml_scan_model.specs.declared.problem.ScanFault.{ScanFault}
use Rattle.yaml_scan_model.specs.scan_types.Marks.{mark_at}
use Rattle.yaml_scan_model.specs.Wrong.{Wrong}
use Rattle.yaml_scan_history.specs.Between.{Gap}
use Rattle.yaml_scan_history.specs.declared.kind.Kind.{Kind}
use Rattle.yaml_scan_history.specs.declared.lexeme.Lexeme.{Lexeme}
use Rattle.yaml_scan_history.specs.History.{flow_depth, candidate, fresh, open_at}
use Rattle.yaml_scan_history.specs.Next.{Next, Read, Fails, gap_behind, place_behind, kind_behind, allowed_behind, begun_behind, word_behind, with_end, lexeme_behind, missed, lost_by, misplaced, no_start, not_allowed_there, colon_missing_of, wrong_in, stale_after, indicator_misplaced, candidate_lost, text_wrong, first_fault_or, coming}
use Rattle.yaml_scan_history.specs.Stepwise.{unless_wrong, unless_lost, of_kind, unless_missed, behind}
use Rattle.yaml_scan_history.specs.Words.{WordText}

unmissed : (o : Option yaml_mark_t) (text : List ℕ) (gap : Gap) (h : List Lexeme)
    (ps : List (Option ScanFault)) (x : Next)
    → first_fault_or ps x ≡ unless_missed None text gap h
    → first_fault_or (colon_missing_of o (mark_at text gap.place) ∷ ps) x
    ≡ unless_missed o text gap h
unmissed o text gap h ps x e = grind arith

in_place : (b : Bool) (p : ScanFault) (ps : List (Option ScanFault)) (x y : Next)
    → first_fault_or ps x ≡ y → first_fault_or (cond b (Some p) None ∷ ps) x ≡ cond b (Fails p) y
in_place b p ps x y e = grind arith

kept : (o : Option yaml_mark_t) (text : List ℕ) (p : ℕ) (l : Lexeme) (h : List Lexeme)
    (ps : List (Option ScanFault)) (x : Next)
    → first_fault_or ps x ≡ unless_lost None text p l h
    → first_fault_or (colon_missing_of o l.start ∷ ps) x ≡ unless_lost o text p l h
kept o text p l h ps x e = grind arith

read : (r : Result WordText Wrong) (text : List ℕ) (l : Lexeme) (h : List Lexeme)
    → first_fault_or (wrong_in text l.start r ∷ stale_after (with_end text l r) h ∷ [])
    (Read (with_end text l r)) ≡ unless_wrong r text l h
read r text l h = grind arith

-- the faults in a row, after the first
abbrev later : Kind → List ℕ → List Lexeme → List (Option ScanFault)
later k text h = indicator_misplaced k text h ∷ candidate_lost k text h ∷ text_wrong k text h ∷ stale_after (lexeme_behind k text h) h ∷ []

of_that_kind : (k : Kind) (text : List ℕ) (h : List Lexeme)
    → first_fault_or (later k text h) (Read (lexeme_behind k text h))
    ≡ of_kind (Some k) text (gap_behind text h) h
of_that_kind k text h =
    let l = begun_behind k text h in
    let place = place_behind text h in
    let gap = gap_behind text h in
    let r = word_behind k text h in
    let own = read r text l h in
    let whole = kept (lost_by l (fresh (candidate (flow_depth h) h) place)) text gap.place l h (wrong_in text l.start r ∷ stale_after (with_end text l r) h ∷ []) (Read (with_end text l r)) own in
    in_place (misplaced k place (allowed_behind h gap) h) (not_allowed_there k place) (candidate_lost k text h ∷ text_wrong k text h ∷ stale_after (lexeme_behind k text h) h ∷ []) (Read (lexeme_behind k text h))
    (unless_lost (lost_by l (fresh (candidate (flow_depth h) h) place)) text gap.place l h) whole

by_kind : (o : Option Kind) (text : List ℕ) (h : List Lexeme) → kind_behind text h ≡ o
    → coming o text h ≡ behind text (gap_behind text h) h
by_kind None text h e =
    unmissed (missed (open_at 0 h) (place_behind text h)) text (gap_behind text h) h [] (Fails (no_start (place_behind text h))) (rw e refl)
by_kind (Some k) text h e =
    unmissed (missed (open_at 0 h) (place_behind text h)) text (gap_behind text h) h (later k text h) (Read (lexeme_behind k text h)) (rw e (of_that_kind k text h))

-- What comes next by the text's sight is what comes next step by step.
pub stepwise : (text : List ℕ) (h : List Lexeme)
    → coming (kind_behind text h) text h ≡ behind text (gap_behind text h) h
stepwise text h = by_kind (kind_behind text h) text h refl
