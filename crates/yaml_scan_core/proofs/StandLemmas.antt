-- Where candidates are, and what the scanner's tests say of them.
use Rattle.std.proofs.Common.{◌≡◌, ℕ, zero, suc, ◌≤◌, Bool, true, false, cond, ltb, ◌&&◌, ◌||◌, not, inl, inr, List, [], ◌∷◌, length, Option, Some, None, Ok, Err, refl, sym, ap, ◌∙◌, arith}
use Rattle.yaml_scan_core.proofs.Words.{and_parts, cases_Bool, cases_lt, nat_tests, yaml_mark_t, mark_at, Kind, Lexeme, Candidate, candidate, fresh, flow_depth, is_end, is_value, cancels, may_be_key, allowed_behind, missed, lost_by, Read, colon_missing, next, history, required_in, required_at, late, index_in, KeyStack, AreKeys, inner, fresh_is}
use Rattle.yaml_scan_history.specs.declared.kind.Kind.TheVariants as kinds
use Rattle.yaml_scan_laws.proofs.HistoryForward.{history_stands, stand_in, takes_bytes}
use Rattle.yaml_scan_core.specs.declared.fault.Fault.{Fault}
use Rattle.yaml_scan_core.specs.declared.fault.Refused.{Refused}
use Rattle.yaml_scan_core.specs.Candidates.{cancelled_at}
use Rattle.yaml_scan_core.specs.Shown.{place_mark}
use Rattle.yaml_scan_core.specs.Scanning.{Tests, fault_in, no_colon}
use Rattle.yaml_scan_core.proofs.ReadLemmas.{first_is, gap_of, saved_is, next_is}
use Rattle.yaml_scan_core.proofs.StepLemmas.{candidate_top, extends}
use Rattle.yaml_scan_core.proofs.NextLemmas.{late_same, shallow}
use Rattle.yaml_scan_core.proofs.PlacesLemmas.{mark_of_place}

-- ---- where a candidate is

-- the mark of a place of the text
pub record IsStart (text : List ℕ) (m : yaml_mark_t) : Type 0 where
  pub mark : m ≡ mark_at text m.index
  pub inside : m.index ≤ length text

pub candidate_saved : (d : ℕ) (h : List Lexeme) (c : Candidate) → candidate d h ≡ Some c
    → c.lexeme.saved ≡ true
unfolding candidate
candidate_saved d [] c e = cc
candidate_saved d (l ∷ h) c e = grind (arith, nat_tests, candidate_saved d h c)

key_flat : (k : Kind) → may_be_key k ≡ true → is_end k ≡ false
key_flat kinds.StreamEnd e = cc
key_flat _ e = refl

saved_flat : (text : List ℕ) (h : List Lexeme) (l : Lexeme) → next text h ≡ Read l
    → l.saved ≡ true → is_end l.kind ≡ false
saved_flat text [] l e saved = rw (first_is text l e) refl
saved_flat text (y ∷ h) l e saved =
    let both = sym (saved_is text y h l (next_is text y h l e)) ∙ saved in
    key_flat l.kind (and_parts (allowed_behind (y ∷ h) (gap_of text (y ∷ h))) (may_be_key l.kind) both).1

none_first : (text : List ℕ) (h : List Lexeme) (l : Lexeme) → next text h ≡ Read l
    → length h ≡ 0 → l.saved ≡ false
none_first text [] l e none = ap (λ (x : Lexeme). x.saved) (first_is text l e)
none_first text (y ∷ h) l e none = absurd (omega (arith, none))

saved_stands : (text : List ℕ) (n : ℕ) (l : Lexeme) → let h = history text n in
    next text h ≡ Read l → l.saved ≡ true → IsStart text l.start
saved_stands text n l e saved =
    let h = history text n in
    elim (cases_lt 0 (length h)) [
      | inr none ↦ let bad = sym (none_first text h l e (omega (arith, none))) ∙ saved in cc
      | inl some ↦
          let t = takes_bytes text l (stand_in text h l some (history_stands text n) e).1 (saved_flat text h l e saved) in
          record { mark = t.start; inside = omega (arith, t.some, t.order, t.inside) }
    ]

-- a candidate has the mark of its place
pub candidate_stands : (text : List ℕ) (n d : ℕ) (c : Candidate)
    → candidate d (history text n) ≡ Some c → IsStart text c.lexeme.start
unfolding candidate history
candidate_stands text zero d c e = cc
candidate_stands text (suc n) d c e =
    let h = history text n in
    elim (extends (next text h) h) [
      | inr stays ↦ candidate_stands text n d c (rw stays at e)
      | inl (l, reads) ↦
          let is : candidate d (l ∷ h) ≡ Some c = rw reads at e in
          elim (candidate_top d l h c is) [
            | inr was ↦ candidate_stands text n d c was
            | inl (a, top, s) ↦
                let saved : l.saved ≡ true = ap (λ (x : Lexeme). x.saved) (sym s) ∙ candidate_saved d (l ∷ h) c is in
                rw s (saved_stands text n l reads saved)
          ]
    ]

pub required_stands : (text : List ℕ) (n : ℕ) (start : yaml_mark_t) (o : Option Candidate)
    → o ≡ candidate 0 (history text n) → required_in o ≡ Some start → IsStart text start
required_stands text n start None is e = cc
required_stands text n start (Some c) is e =
    let it = candidate_stands text n 0 c (sym is) in
    let same : c.lexeme.start ≡ start = grind (arith, e) in
    rw (← same) it

-- the fault of a required candidate is reported
pub colon_told : (text : List ℕ) (n at : ℕ) (start : yaml_mark_t)
    → required_in (candidate 0 (history text n)) ≡ Some start
    → fault_in text (no_colon start.index at) ≡ colon_missing start (place_mark text at)
colon_told text n at start e =
    let s = required_stands text n start (candidate 0 (history text n)) refl e in
    let same : place_mark text start.index ≡ start = mark_of_place text start.index s.inside ∙ sym s.mark in
    ap (λ m. colon_missing m (place_mark text at)) same

-- ---- tests

pub passes_test : (o : Option yaml_mark_t) (at : ℕ) (f : Option Fault) (u : Unit {0})
    → Tests (index_in o) at f (Ok u) → o ≡ None
passes_test None at f u t = refl
passes_test (Some s) at f u t = absurd t

pub fails_test : (o : Option yaml_mark_t) (at : ℕ) (f : Option Fault) (e : Refused)
    → Tests (index_in o) at f (Err e)
    → (start : yaml_mark_t) × (o ≡ Some start) × (f ≡ Some (no_colon start.index at))
fails_test None at f e t = absurd t
fails_test (Some s) at f e t = (s, refl, t)

-- what is late by the keys is missed
pub late_missed : (text : List ℕ) (s : KeyStack) (h : List Lexeme) (p q : yaml_mark_t)
    → AreKeys text s h p → late (required_at text s) q ≡ missed (candidate 0 h) q
late_missed text s h p q a = ap (λ o. late o q) (sym a.due) ∙ late_same (candidate 0 h) q

pub missed_required : (o : Option Candidate) (q start : yaml_mark_t) → missed o q ≡ Some start
    → required_in o ≡ Some start
missed_required None q start e = cc
missed_required (Some c) q start e = grind (arith, e)

-- ---- what a lexeme cancels or replaces

-- what a lexeme that cancels or replaces loses
abbrev pub lost_in : Bool → List Lexeme → Option yaml_mark_t
lost_in b h = cond b (cond (ltb 0 (flow_depth h)) None (required_in (candidate 0 h))) None

abbrev pub takes_place : Lexeme → Bool
takes_place l = l.saved || (cancels l.kind && not (is_value l.kind))

lost_none : (l : Lexeme) (o : Option Candidate) → takes_place l ≡ false → lost_by l o ≡ None
lost_none l None e = refl
lost_none l (Some c) e = grind (arith, e)

lost_required : (l : Lexeme) (o : Option Candidate) (m : yaml_mark_t) → takes_place l ≡ true
    → missed o m ≡ None → lost_by l (fresh o m) ≡ required_in o
lost_required l None m e early = refl
lost_required l (Some c) m e early = grind (arith, e, early)

lost_idle : (l : Lexeme) (o : Option Candidate)
    → ((c : Candidate) → o ≡ Some c → c.lexeme.required ≡ false) → lost_by l o ≡ None
lost_idle l None idle = refl
lost_idle l (Some c) idle = rw (idle c refl) refl

pub lost_is : (text : List ℕ) (n : ℕ) (h : List Lexeme) (l : Lexeme) (m : yaml_mark_t) (b : Bool)
    → h ≡ history text n → missed (candidate 0 h) m ≡ None → takes_place l ≡ b
    → lost_by l (fresh (candidate (flow_depth h) h) m) ≡ lost_in b h
lost_is text n h l m false is early e = lost_none l (fresh (candidate (flow_depth h) h) m) e
lost_is text n h l m true is early e =
    elim (cases_lt 0 (flow_depth h)) [
      | inr low ↦
          let flat : flow_depth h ≡ 0 = omega (arith, low) in
          let none : ltb 0 (flow_depth h) ≡ false = grind (arith, nat_tests) in
          rw none (ap (λ d. lost_by l (fresh (candidate d h) m)) flat ∙ lost_required l (candidate 0 h) m e early)
      | inl deep ↦
          let some : ltb 0 (flow_depth h) ≡ true = grind (arith, nat_tests) in
          rw some (lost_idle l (fresh (candidate (flow_depth h) h) m) (λ c there. elim (cases_Bool c.lexeme.required) [
            | inr idle ↦ idle
            | inl must ↦
                let at : candidate (flow_depth h) (history text n) ≡ Some c = ap (λ x. candidate (flow_depth h) x) (sym is) ∙ fresh_is (candidate (flow_depth h) h) m c there in
                absurd (omega (arith, deep, shallow text n (flow_depth h) c at must))
          ]))
    ]

pub inner_depth : (text : List ℕ) (s : KeyStack) (h : List Lexeme) (p : yaml_mark_t)
    → AreKeys text s h p → inner s ≡ flow_depth h
inner_depth text s h p a = omega (arith, a.long)

-- the code's test of that
pub cancelled_is : (text : List ℕ) (s : KeyStack) (h : List Lexeme) (p : yaml_mark_t)
    → AreKeys text s h p → cancelled_at text s ≡ lost_in true h
cancelled_is text s h p a = rw (inner_depth text s h p a, ← a.due) refl
