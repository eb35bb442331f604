-- Where runs end, and the deepest indentation of the next lines.
use Rattle.std.proofs.Common.{◌≡◌, ◌≢◌, ℕ, zero, suc, ◌+◌, ◌<◌, ◌≤◌, Bool, true, false, List, length, Result, Ok, Err, refl, sym, ap, subst, ◌∙◌, inl, inr, ◌⊎◌, arith, rules}
use Rattle.std.proofs.lemmas.Bool.{cases_eq, cases_order}
use Rattle.yaml_scan_history.proofs.BlockWords.{nat_tests, byte, break_width, past, past_spaces, Wrong, within, past_break, no_break, past_more, past_stop, text_parts, in_block, larger, larger_of, deepest, EndsBlockRun, RunsEnd, RunEndsOnce, LeadsTo, at_once, behind_blank, indent_at, Deepest, DeepestIs, DeepestIsOne}
use Rattle.yaml_scan_model.specs.declared.problem.Problem.TheVariants as problems
use Rattle.yaml_scan_history.proofs.DepthLemmas.{larger_zero, larger_start, depth_tab, depth_done, depth_more, spaces-le}

-- ---- runs

longer : (kind : List ℕ → ℕ → Bool) (text : List ℕ) (p q : ℕ) → kind text p ≡ true
    → EndsBlockRun kind text (p + 1) q → EndsBlockRun kind text p q
longer kind text p q e h = search (rules, cases_eq)

empty_run : (kind : List ℕ → ℕ → Bool) (text : List ℕ) (p : ℕ) → kind text p ≡ false
    → EndsBlockRun kind text p p
empty_run kind text p e = record { after = omega arith; each = λ k a b. absurd (omega (arith, a, b)); stops = e }

-- nothing of the kind is past the end
abbrev Inside : (List ℕ → ℕ → Bool) → Type 0
Inside kind = (text : List ℕ) (p : ℕ) → kind text p ≡ true → p < length text

ends_by : (n : ℕ) (kind : List ℕ → ℕ → Bool) → Inside kind → (text : List ℕ) (p : ℕ) (b : Bool)
    → kind text p ≡ b → length text ≤ p + n → EndsBlockRun kind text p (past kind n text p)
ends_by n kind inside text p false e room = subst (λ (q : ℕ). EndsBlockRun kind text p q) (sym (past_stop kind n text p e)) (empty_run kind text p e)
ends_by zero kind inside text p true e room = let there = inside text p e in absurd (omega (arith, there, room))
ends_by (suc n) kind inside text p true e room =
    subst (λ (q : ℕ). EndsBlockRun kind text p q) (sym (past_more kind n text p e))
    (longer kind text p (past kind n text (p + 1)) e (ends_by n kind inside text (p + 1) (kind text (p + 1)) refl (omega (arith, room))))

pub runs_end : RunsEnd
runs_end text p = search (rules, ends_by, text_parts, within)

pub run_ends_once : RunEndsOnce
run_ends_once kind text p q r a b = search (rules, cases_order)

-- ---- indentation

tab_there : (text : List ℕ) (p : ℕ) → byte text (past_spaces text p) ≡ 9
    → Deepest text p (Err (in_block problems.TabForSpace (past_spaces text p)))
tab_there text p e = record { line = p; led = at_once p; tab = e; told = refl }

alone : (text : List ℕ) (p q : ℕ) → break_width text (past_spaces text p) ≡ 0 → LeadsTo text p q
    → q ≡ p
alone text p q z h = grind arith

one_line : (text : List ℕ) (p : ℕ) → byte text (past_spaces text p) ≢ 9
    → break_width text (past_spaces text p) ≡ 0 → Deepest text p (Ok (indent_at text p))
one_line text p n z = search (rules, alone, at_once)

chosen : (a b : ℕ) → ((larger a b ≡ b) × (a ≤ b)) ⊎ ((larger a b ≡ a) × (b ≤ a))
unfolding larger
chosen a b = grind (arith, nat_tests)

-- what holds of a line and of each after it holds of all
each_line : (P : ℕ → Type 0) (text : List ℕ) (p : ℕ) → P p
    → ((q : ℕ) → LeadsTo text (past_spaces text p + break_width text (past_spaces text p)) q → P q)
    → (q : ℕ) → LeadsTo text p q → P q
each_line h text p a more q g = grind arith

behind : (text : List ℕ) (p : ℕ) → byte text (past_spaces text p) ≢ 9
    → 0 < break_width text (past_spaces text p) → (r : Result ℕ Wrong)
    → Deepest text (past_spaces text p + break_width text (past_spaces text p)) r
    → Deepest text p (larger_of (indent_at text p) r)
behind text p n w (Err x) h = record {
  line = h.line;
  led = behind_blank p h.line w h.led;
  tab = h.tab;
  told = h.told;
}
behind text p n w (Ok b) h =
    elim (chosen (indent_at text p) b) [
      | inl (e, le) ↦ rw e record {
        line = h.line;
        led = behind_blank p h.line w h.led;
        reached = h.reached;
        most = each_line (λ q. indent_at text q ≤ b) text p le h.most;
        no_tab = each_line (λ q. byte text (past_spaces text q) ≢ 9) text p n h.no_tab;
      }
      | inr (e, ge) ↦ rw e record {
        line = p;
        led = at_once p;
        reached = refl;
        most = each_line (λ q. indent_at text q ≤ indent_at text p) text p (omega arith) (λ q l. let m = h.most q l in omega (arith, m, ge));
        no_tab = each_line (λ q. byte text (past_spaces text q) ≢ 9) text p n h.no_tab;
      }
    ]

zero_or : (w : ℕ) → (w ≡ 0) ⊎ (0 < w)
zero_or w = grind arith

found_by : (d : ℕ) (text : List ℕ) (p n : ℕ)
    → (byte text (past_spaces text p) ≡ 9) ⊎ (byte text (past_spaces text p) ≢ 9)
    → (break_width text (past_spaces text p) ≡ 0) ⊎ (0 < break_width text (past_spaces text p))
    → length text ≤ p + d → length text ≤ p + n → Deepest text p (deepest (suc n) text p)
found_by d text p n (inl e) w room fuel =
    subst (λ (r : Result ℕ Wrong). Deepest text p r) (sym (larger_start (deepest (suc n) text p) ∙ depth_tab n text p 0 e)) (tab_there text p e)
found_by d text p n (inr e) (inl z) room fuel =
    subst (λ (r : Result ℕ Wrong). Deepest text p r)
    (sym (larger_start (deepest (suc n) text p) ∙ depth_done n text p 0 e z ∙ ap (λ (c : ℕ). Ok c) (larger_zero (indent_at text p))))
    (one_line text p e z)
found_by zero text p n (inr e) (inr w) room fuel =
    absurd (omega (arith, spaces-le text p, (past_break text (past_spaces text p) w).inside, room))
found_by (suc d) text p n (inr e) (inr w) room fuel =
    let le = spaces-le text p in
    let (m, left, same) = depth_more n text p 0 (deepest (suc n) text p) fuel (larger_start (deepest (suc n) text p)) e w in
    let next : ℕ = past_spaces text p + break_width text (past_spaces text p) in
    subst (λ (r : Result ℕ Wrong). Deepest text p r)
    (sym (same ∙ ap (λ (c : ℕ). larger_of c (deepest (suc m) text next)) (larger_zero (indent_at text p))))
    (behind text p e w (deepest (suc m) text next)
    (found_by d text next m (cases_eq (byte text (past_spaces text next)) 9) (zero_or (break_width text (past_spaces text next))) (omega (arith, le, w, room)) left))

pub deepest_is : DeepestIs
deepest_is text p = found_by (length text) text p (length text) (cases_eq (byte text (past_spaces text p)) 9) (zero_or (break_width text (past_spaces text p))) (omega arith) (omega arith)

no_break_tab : (text : List ℕ) (p : ℕ) → byte text (past_spaces text p) ≡ 9
    → break_width text (past_spaces text p) ≡ 0
no_break_tab text p e = no_break _ _ _ (omega (arith, e)) (omega (arith, e)) (omega (arith, e)) (omega (arith, e))

same_line : (text : List ℕ) (p q r : ℕ) → LeadsTo text p q → LeadsTo text p r
    → byte text (past_spaces text q) ≡ 9 → byte text (past_spaces text r) ≡ 9 → q ≡ r
same_line text p q r (at_once x) b e f = sym (alone text q r (no_break_tab text q e) b)
same_line text p q r (behind_blank x y w l) (at_once z) e f = let none = no_break_tab text r f in absurd (omega (arith, w, none))
same_line text p q r (behind_blank x y w l) (behind_blank z u v m) e f = same_line text _ y u l m e f

both : (text : List ℕ) (p : ℕ) (r s : Result ℕ Wrong) → Deepest text p r → Deepest text p s → r ≡ s
both text p r s a b = grind (arith, Wrong, in_block, past_spaces, same_line)

pub deepest_is_one : DeepestIsOne
deepest_is_one text p r h = both text p r (deepest (suc (length text)) text p) h (deepest_is text p)
