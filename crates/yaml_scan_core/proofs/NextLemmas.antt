-- What comes next.
use Rattle.std.proofs.Common.{get_or, ◌≡◌, ℕ, zero, suc, ◌<◌, ◌≤◌, Bool, true, false, eqb, ◌&&◌, List, [], ◌∷◌, length, Option, Some, None, refl, sym, ap, subst, ◌∙◌, inl, inr, arith}
use Rattle.yaml_scan_core.proofs.Words.{cases_Bool, nat_tests, set, yaml_mark_t, mark_at, Lexeme, Entry, may_be_key, Candidate, candidate, fresh, reached, flow_depth, ended, mark_key, Read, Ends, next, history, first_lexeme, allowed_behind, missed, behind, Upto, stepwise, required_in}
use Rattle.yaml_scan_history.specs.History.{as_key}
use Rattle.yaml_scan_core.specs.Candidates.{late}
use Rattle.yaml_scan_core.proofs.LinesLemmas.{line_upto}
use Rattle.yaml_scan_core.proofs.ReadLemmas.{next_is, first_is, begun_at, gap_of, finished_same}
use Rattle.yaml_scan_core.proofs.StepLemmas.{candidate_top, each_history}

pub next_at : (text : List ℕ) (h : List Lexeme) → 0 < length h → ended h ≡ false
    → next text h ≡ behind text (gap_of text h) h
unfolding next
next_at text [] some more = absurd (omega arith)
next_at text (l ∷ h) some more = rw more (stepwise text (l ∷ h))

-- a later place is on a later line, or on the same
pub upto_later : (text : List ℕ) (p q : ℕ) → p ≤ q → Upto (mark_at text p) (mark_at text q)
upto_later text p q le =
    (le, line_upto text p q le)

pub late_same : (o : Option Candidate) (p : yaml_mark_t) → late (required_in o) p ≡ missed o p
late_same None p = refl
late_same (Some c) p = grind arith

-- a candidate is at its depth
pub candidate_depth : (d : ℕ) (h : List Lexeme) (c : Candidate) → candidate d h ≡ Some c
    → c.lexeme.depth ≡ d
unfolding candidate
candidate_depth d [] c is = cc
candidate_depth d (l ∷ h) c is = grind (arith, candidate_top d l h c is, candidate_depth d h c)

-- A lexeme that is required is outside all brackets, and may be a key.
required_parts : (a b c : Bool) (d : ℕ) → ((a && b) && (eqb d 0 && c)) ≡ true
    → (d ≡ 0) × ((a && b) ≡ true)
required_parts a b c d e = grind (arith, nat_tests)

pub required_is : (text : List ℕ) (h : List Lexeme) (l : Lexeme) → next text h ≡ Read l
    → l.required ≡ true → (l.depth ≡ 0) × (l.saved ≡ true)
required_is text [] l e must = let bad = ap (λ (x : Lexeme). x.required) (first_is text l e) in cc
required_is text (y ∷ h) l e must =
    let r = next_is text y h l e in
    let same = finished_same text (begun_at text (y ∷ h) l.kind) r.word in
    let at = ap (λ (x : Lexeme). x.required) r.is ∙ same.required in
    let depth_at = ap (λ (x : Lexeme). x.depth) r.is ∙ same.depth in
    let saved_at = ap (λ (x : Lexeme). x.saved) r.is ∙ same.saved in
    let (z, so) = required_parts (allowed_behind (y ∷ h) (gap_of text (y ∷ h))) (may_be_key l.kind) _ (flow_depth (y ∷ h)) (sym at ∙ must) in
    (depth_at ∙ z, saved_at ∙ so)

-- a required candidate is outside all brackets
pub shallow : (text : List ℕ) (n d : ℕ) (c : Candidate) → candidate d (history text n) ≡ Some c
    → c.lexeme.required ≡ true → d ≡ 0
unfolding candidate
shallow text n =
    each_history text (λ h. (d : ℕ) (c : Candidate) → candidate d h ≡ Some c → c.lexeme.required ≡ true → d ≡ 0) (λ d c is must. cc) (λ h l before e d c is must. elim (candidate_top d l h c is) [
      | inl (a, top, s) ↦ let (z, so) = required_is text h l e (sym (ap (λ (x : Lexeme). x.required) s) ∙ must) in sym a ∙ z
      | inr was ↦ before d c was must
    ]) n

first_unmissed : missed (candidate 0 (first_lexeme ∷ [])) first_lexeme.reached ≡ None
unfolding candidate
first_unmissed = refl

pub unmissed_next : (text : List ℕ) (h : List Lexeme) (l : Lexeme) → next text h ≡ Read l
    → missed (candidate 0 (l ∷ h)) l.reached ≡ None
unmissed_next text [] l e = subst (λ (x : Lexeme). missed (candidate 0 (x ∷ [])) x.reached ≡ None) (sym (first_is text l e)) first_unmissed
unmissed_next text (y ∷ h) l e = let r = next_is text y h l e in r.tested

-- no required candidate is stale where the last lexeme ended
pub unmissed : (text : List ℕ) (n : ℕ)
    → missed (candidate 0 (history text n)) (reached (history text n)) ≡ None
unfolding candidate
unmissed text n = each_history text (λ h. missed (candidate 0 h) (reached h) ≡ None) refl (λ h l before e. unmissed_next text h l e) n

-- a required candidate that isn't missed is fresh
pub required_fresh : (o : Option Candidate) (p : yaml_mark_t) → missed o p ≡ None
    → required_in (fresh o p) ≡ required_in o
required_fresh None p e = refl
required_fresh (Some c) p e = grind arith

pub missed_fresh : (o : Option Candidate) (q p : yaml_mark_t) → missed o q ≡ None
    → missed (fresh o q) p ≡ missed o p
missed_fresh o q p e = sym (late_same (fresh o q) p) ∙ ap (λ r. late r p) (required_fresh o q e) ∙ late_same o p

-- nothing comes after the end
pub next_ended : (text : List ℕ) (h : List Lexeme) → ended h ≡ true → next text h ≡ Ends
unfolding next
next_ended text [] e = cc
next_ended text (l ∷ h) e = rw e refl

pub not_ended : (text : List ℕ) (h : List Lexeme) (l : Lexeme) → next text h ≡ Read l
    → ended h ≡ false
not_ended text h l e = elim (cases_Bool (ended h)) [ inr more ↦ more | inl over ↦ let bad = next_ended text h over in cc ]

pub as_key_set : (ls : List ℕ) (es : List Entry) (i : ℕ) (e : Entry) → i < length es
    → e ≡ get_or es i e → mark_key ls es i ≡ set es i (as_key ls e)
unfolding mark_key
as_key_set ls [] i e lt is = absurd (omega arith)
as_key_set ls (x ∷ es) zero e lt is = rw (← is) refl
as_key_set ls (x ∷ es) (suc i) e lt is = ap (λ r. x ∷ r) (as_key_set ls es i e (omega arith) is)
