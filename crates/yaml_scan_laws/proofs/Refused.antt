-- A front with a fault: the whole has the same lexemes and tokens.
use Rattle.std.proofs.Common.{◌≡◌, ◌≢◌, ℕ, zero, suc, ◌<◌, false, List, [], ◌∷◌, ◌++◌, map, length, Some, refl, sym, ap, subst, ◌∙◌, inl, inr, ◌⊎◌, arith}
use Rattle.yaml_scan_laws.proofs.Shared.{nat_tests, cases_Bool, append-nil, yaml_encoding_t, ScanFault, Fault, scanner_fault, Lexeme, is_end, Next, Read, Fails, Ends, kind_behind, next, extended, step, history, flat_map, same_Some, SpelledText, spell, all, fault_in, Stands, history_stands, last_is_all, IsCut, moved_token, scan_of, RefusedFrontsAreScanned, fault_next}
use Rattle.yaml_scan_laws.proofs.Fronts.{next_open, next_over, history_more, front_next}
use Rattle.yaml_scan_laws.proofs.Rests.{AllCarry}
use Rattle.yaml_scan_laws.proofs.CutsJoining.{told, offline_told, parted}
use Rattle.yaml_scan_laws.proofs.Opening.{coming_goes, front_carried, lexemes_zero, tokens_zero, no_bases, no_entries, all_is}
use Rattle.yaml_scan_laws.proofs.Windows.{made}
use Rattle.yaml_scan_laws.proofs.Failing.{some_none, fails_not, reads_not, fails_same, fails_there, fails_back}
use Rattle.yaml_scan_history.proofs.HistoryLemmas.{not_read}

-- ---- all of the front's lexemes are all of the whole's

pub ends_not : {f : ScanFault} → Ends ≡ Fails f → ⊥
ends_not e = cc

pub ends_reads : {l : Lexeme} → Ends ≡ Read l → ⊥
ends_reads e = cc

-- no step ends
end_never : (a : List ℕ) (f : ScanFault) → next a (all a) ≡ Fails f → (j : ℕ)
    → next a (history a j) ≡ Ends → ⊥
end_never a f fails j e = grind (arith, nat_tests, ends_not, last_is_all, ends_reads)

step_open : (a : List ℕ) (f : ScanFault) → next a (all a) ≡ Fails f → (j : ℕ) (l : Lexeme)
    → next a (history a j) ≡ Read l → is_end l.kind ≡ false
step_open a f fails j l e =
    elim (cases_Bool (is_end l.kind)) [
      | inr more ↦ more
      | inl end ↦
          let grown : history a (suc j) ≡ l ∷ history a j = history_more a j ∙ ap (λ x. extended x (history a j)) e in
          absurd (end_never a f fails (suc j) (ap (next a) grown ∙ next_over a l (history a j) end))
    ]

fails_open : (a b : List ℕ) → IsCut a b → (H : List Lexeme) → Stands a H → (f : ScanFault)
    → next a H ≡ Fails f → (l : Lexeme) → next (a ++ b) H ≢ Read l
unfolding next
fails_open a b cut [] stands f e l r = fails_not (sym e ∙ r)
fails_open a b cut (x ∷ h) stands f e l r =
    elim (cases_Bool (is_end x.kind)) [
      | inl end ↦ ends_not (sym (next_over a x h end) ∙ e)
      | inr more ↦ reads_not a b cut x h stands f e more l r
    ]

record SameSteps (x : yaml_encoding_t) (a b : List ℕ) (j : ℕ) : Type 0 where
  pub same : history (a ++ b) j ≡ history a j
  pub carry : AllCarry x a (a ++ b) 0 0 (history a j)

same_steps : (x : yaml_encoding_t) (a b : List ℕ) → IsCut a b → (f : ScanFault)
    → next a (all a) ≡ Fails f → (j : ℕ) → SameSteps x a b j
unfolding history
same_steps x a b cut f fails zero = record { same = refl; carry = tt }
same_steps x a b cut f fails (suc j) = by (same_steps x a b cut f fails j) (next a (history a j)) refl
  where
    by : SameSteps x a b j → (y : Next) → next a (history a j) ≡ y → SameSteps x a b (suc j)
    by before (Read l) e =
        let more = step_open a f fails j l e in
        let there = front_next a b cut (history a j) (history_stands a j) l e more in
        record {
          same = ap (λ h. step (a ++ b) h) before.same ∙ ap (λ y. extended y (history a j)) (there ∙ sym e);
          carry = subst (λ y. AllCarry x a (a ++ b) 0 0 (extended y (history a j))) (sym e) (front_carried x a b cut (history a j) (history_stands a j) l e more, before.carry);
        }
    by before (Fails g) e =
        record {
          same = ap (λ h. step (a ++ b) h) before.same
              ∙ not_read (next (a ++ b) (history a j)) (history a j) (fails_open a b cut (history a j) (history_stands a j) g e)
              ∙ ap (λ y. extended y (history a j)) (sym e);
          carry = subst (λ y. AllCarry x a (a ++ b) 0 0 (extended y (history a j))) (sym e) before.carry;
        }
    by before Ends e = absurd (end_never a f fails j e)

-- what comes after them in the whole is a fault
pub failing : (t : List ℕ) (x : Lexeme) (h : List Lexeme) → is_end x.kind ≡ false
    → ((l : Lexeme) → next t (x ∷ h) ≢ Read l) → (g : ScanFault) × (next t (x ∷ h) ≡ Fails g)
failing t x h more never = by (next t (x ∷ h)) refl
  where
    by : (y : Next) → next t (x ∷ h) ≡ y → (g : ScanFault) × (next t (x ∷ h) ≡ Fails g)
    by (Read l) e = absurd (never l e)
    by (Fails g) e = (g, e)
    by Ends e = absurd (coming_goes (kind_behind t (x ∷ h)) t (x ∷ h) (sym (next_open t x h more) ∙ e))

-- a front with a fault, and the whole's
pub record Failing (x : yaml_encoding_t) (a b : List ℕ) (f : ScanFault) : Type 0 where
  pub all_same : all (a ++ b) ≡ all a
  pub carry : AllCarry x a (a ++ b) 0 0 (all a)
  pub fault : ScanFault
  pub fails : next (a ++ b) (all a) ≡ Fails fault
  pub same : (f.problem_mark.index < length a) ⊎ (fault.problem_mark.index < length a) → fault ≡ f

first_fails : (t : List ℕ) (f : ScanFault) → next t [] ≢ Fails f
unfolding next
first_fails t f e = fails_not (sym e)

pub front_fails : (x : yaml_encoding_t) (a b : List ℕ) → IsCut a b → (f : ScanFault)
    → next a (all a) ≡ Fails f → Failing x a b f
front_fails x a b cut f fails =
    let n = suc (suc (length a)) in
    let steps = same_steps x a b cut f fails n in
    let is = all_is a in
    let stands : Stands a (all a) = subst (Stands a) (sym is) (history_stands a n) in
    let never = fails_open a b cut (all a) stands f fails in
    let same : all (a ++ b) ≡ all a = last_is_all (a ++ b) n (λ l e. never l (ap (next (a ++ b)) (is ∙ sym steps.same) ∙ e)) ∙ steps.same ∙ sym is in
    by (all a) refl stands same (subst (AllCarry x a (a ++ b) 0 0) (sym is) steps.carry)
  where
    by : (H : List Lexeme) → all a ≡ H → Stands a H → all (a ++ b) ≡ all a
        → AllCarry x a (a ++ b) 0 0 (all a) → Failing x a b f
    by [] e stands same carry = absurd (first_fails a f (ap (next a) (sym e) ∙ fails))
    by (y ∷ h) e stands same carry =
        let here : next a (y ∷ h) ≡ Fails f = ap (next a) (sym e) ∙ fails in
        elim (cases_Bool (is_end y.kind)) [
          | inl end ↦ absurd (ends_not (sym (next_over a y h end) ∙ here))
          | inr more ↦
              let (g, is) = failing (a ++ b) y h more (reads_not a b cut y h stands f here more) in
              record {
                all_same = same;
                carry = carry;
                fault = g;
                fails = ap (next (a ++ b)) e ∙ is;
                same = λ low. elim low [
                  | inl mine ↦ fails_same (sym is ∙ fails_there a b cut y h stands f here more mine)
                  | inr others ↦ fails_back a b cut y h stands f here more g is others
                ];
              }
        ]

-- ---- the law

fault_some : (y : Next) (f : Fault) → fault_in y ≡ Some f
    → (g : ScanFault) × (y ≡ Fails g) × (scanner_fault g ≡ f)
fault_some y f e = grind (arith, nat_tests, some_none, same_Some)

pub refused_fronts_are_scanned : RefusedFrontsAreScanned
refused_fronts_are_scanned x a b cut f none =
    let s : SpelledText = record { encoding = x; text = a } in
    let v : SpelledText = record { encoding = x; text = a ++ b } in
    let (p, fails, is) = fault_some (next a (all a)) f (sym (fault_next s) ∙ none) in
    let r = front_fails x a b cut p fails in
    let parts = parted x a (a ++ b) 0 0 0 (all a) [] [] no_bases r.carry (Fails p) (λ l e. fails_not e) in
    let h = all a in
    let mine : (scan_of x a).tokens ≡ parts.behind =
    offline_told s ∙ ap (λ y. told s y h) fails ∙ ap (told s (Fails p)) (sym (append-nil h)) ∙ parts.mine ∙ ap (λ es. flat_map (spell s) es ++ parts.behind) no_entries in
    let others : (scan_of x (a ++ b)).tokens ≡ parts.behind =
    offline_told v ∙ ap (λ z. told v (next (a ++ b) z) z) r.all_same ∙ ap (λ y. told v y h) r.fails
    ∙ ap (told v (Fails p)) (sym (append-nil h) ∙ ap (λ z. z ++ []) (sym (lexemes_zero h))) ∙ parts.others
    ∙ ap (λ es. flat_map (spell v) es ++ map (moved_token 0 0) parts.behind) no_entries ∙ tokens_zero parts.behind in
    let fault : (scan_of x (a ++ b)).fault ≡ Some (scanner_fault r.fault) =
    fault_next v ∙ ap (λ z. fault_in (next (a ++ b) z)) r.all_same ∙ ap fault_in r.fails in (
      scanner_fault r.fault,
      made (scan_of x (a ++ b)) (scan_of x a).tokens (Some (scanner_fault r.fault)) (others ∙ sym mine) fault,
      λ low. ap scanner_fault (r.same (elim low [
        | inl mine ↦ inl (subst (λ (z : Fault). z.problem_mark.index < length a) (sym is) mine)
        | inr others ↦ inr others
      ])) ∙ is,
    )
