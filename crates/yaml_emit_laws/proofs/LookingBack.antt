-- What is expected depends on the events that came.
use Rattle.std.proofs.Common.{◌≡◌, ℕ, zero, suc, Bool, true, false, not, ◌||◌, List, [], ◌∷◌, Option, Some, None, refl, ap, ◌∙◌, arith}
use Rattle.yaml_emit_laws.proofs.DumpsWords.{nat_tests, Problem, Expected, Event, no_event, stream_start, stream_end, document_start, document_end, sequence_start, sequence_end, mapping_start, mapping_end, or_else, event_problem, last_problem, ends_phase, place_problem, problem_by, Due, item_due, key_due, value_due, Progress, at_place, first_progress, inside, behind_node, outer_due, progress_after, level_due, problem_in, first_refusal}
use Rattle.yaml_emit_graph.specs.emit_layout.declared.Expected.TheVariants as at
use Rattle.yaml_emit_graph.specs.emit_layout.declared.Problem.TheVariants as problem
use Rattle.yaml_emit_graph.specs.emit_layout.declared.Level.{Level}
use Rattle.yaml_emit_graph.specs.emit_layout.declared.Phase.{Phase}
use Rattle.yaml_emit_laws.specs.LookBack.{Collection, in_sequence, in_mapping, met, innermost, begins_document, ends_stream, unless_so, wrong_in, wrong_place, wrong_behind, first_wrong, RefusalLooksBack}

-- what the collection that as many are inside of is due, where an odd number of nodes more has come in it
abbrev due_at : ℕ → Bool → List Due → Option Collection
due_at n even [] = None
due_at zero even (item_due ∷ ds) = Some in_sequence
due_at zero even (key_due ∷ ds) = Some (in_mapping even)
due_at zero even (value_due ∷ ds) = Some (in_mapping (not even))
due_at (suc n) even (d ∷ ds) = due_at n even ds

not_twice : (b : Bool) → not (not b) ≡ b
not_twice b = grind (arith, nat_tests)

node_met : (n : ℕ) (even : Bool) (ds : List Due)
    → due_at n (met n even) ds ≡ due_at n even (behind_node ds)
node_met n even ds = grind (arith, not_twice)

end_met : (n : ℕ) (even : Bool) (ds : List Due)
    → due_at (suc n) even ds ≡ due_at n even (outer_due ds)
end_met n even ds = grind (arith, nat_tests)

due_inside : (ds : List Due) → (inside ds).due ≡ ds
due_inside ds = grind (arith, nat_tests)

-- ---- a progress, and the events that it comes from

abbrev HasPlace : Progress → List Event → Type 0
HasPlace h past = (e : Event) → place_problem h.place (level_due h.due) e ≡ wrong_place past e

abbrev HasDue : Progress → List Event → Type 0
HasDue h past = (n : ℕ) (even : Bool) → innermost n even past ≡ due_at n even h.due

inside_place : (ds : List Due) (e : Event)
    → place_problem (inside ds).place (level_due (inside ds).due) e ≡ wrong_in (due_at 0 true ds) e
unfolding place_problem
inside_place ds e = grind arith

start_place : HasPlace first_progress []
unfolding place_problem
start_place h0 = grind (arith, nat_tests)

documents_place : (first unended : Bool) (e : Event)
    → place_problem (at.Documents first unended) None e
    ≡ unless_so (begins_document e || ends_stream e) problem.ExpectedDocumentStartOrStreamEnd
unfolding place_problem
documents_place first unended e = grind (arith, nat_tests)

root_place : (past : List Event) (d : _) → HasPlace (at_place at.Node) (document_start d ∷ past)
unfolding place_problem
root_place past d h2 = grind (arith, nat_tests)

ends_none : (p : Phase) → ends_phase p no_event ≡ false
ends_none p = grind (arith, nat_tests)

-- no event is none
none_misplaced : (place : Expected) (top : Option Level) → place_problem place top no_event ≡ None
    → ⊥
unfolding place_problem
none_misplaced place top h = grind (arith, nat_tests, ends_none)

record Fits (h : Progress) (past : List Event) : Type 0 where
  place : HasPlace h past
  due : HasDue h past

-- what has come to be in open collections
inside_fits : (ds : List Due) (last : Event) (past : List Event)
    → ((n : ℕ) (even : Bool) → innermost n even (last ∷ past) ≡ due_at n even ds)
    → ((e : Event) → wrong_place (last ∷ past) e ≡ wrong_in (innermost 0 true (last ∷ past)) e)
    → Fits (inside ds) (last ∷ past)
inside_fits ds last past due place = grind (arith, inside_place, due_inside)

node_fits : (h : Progress) (past : List Event) → Fits h past → (last : Event)
    → ((n : ℕ) (even : Bool) → innermost n even (last ∷ past) ≡ innermost n (met n even) past)
    → ((e : Event) → wrong_place (last ∷ past) e ≡ wrong_in (innermost 0 true (last ∷ past)) e)
    → Fits (inside (behind_node h.due)) (last ∷ past)
node_fits h past f last one place =
    inside_fits (behind_node h.due) last past (λ n even. one n even ∙ f.due n (met n even) ∙ node_met n even h.due) place

end_fits : (h : Progress) (past : List Event) → Fits h past → (last : Event)
    → ((n : ℕ) (even : Bool) → innermost n even (last ∷ past) ≡ innermost (suc n) even past)
    → ((e : Event) → wrong_place (last ∷ past) e ≡ wrong_in (innermost 0 true (last ∷ past)) e)
    → Fits (inside (outer_due h.due)) (last ∷ past)
end_fits h past f last one place =
    inside_fits (outer_due h.due) last past (λ n even. one n even ∙ f.due (suc n) even ∙ end_met n even h.due) place

sequence_due : (h : Progress) (past : List Event) (p : _) → Fits h past → (n : ℕ) (even : Bool)
    → innermost n even (sequence_start p ∷ past) ≡ due_at n even (item_due ∷ behind_node h.due)
unfolding innermost
sequence_due h past p f n even = grind (arith, nat_tests, node_met)

mapping_due : (h : Progress) (past : List Event) (p : _) → Fits h past → (n : ℕ) (even : Bool)
    → innermost n even (mapping_start p ∷ past) ≡ due_at n even (key_due ∷ behind_node h.due)
unfolding innermost
mapping_due h past p f n even = grind (arith, nat_tests, node_met)

step_fits : (h : Progress) (past : List Event) (e : Event) → Fits h past
    → place_problem h.place (level_due h.due) e ≡ None → Fits (progress_after h e) (e ∷ past)
unfolding progress_after innermost place_problem
step_fits h past no_event f r = absurd (none_misplaced h.place (level_due h.due) r)
step_fits h past (stream_start x) f r = record { place = documents_place true false; due = λ n even. refl }
step_fits h past stream_end f r = record { place = (λ e. refl); due = λ n even. refl }
step_fits h past (document_start o) f r = record { place = root_place past o; due = λ n even. refl }
step_fits h past (document_end implicit) f r = record { place = documents_place false implicit; due = λ n even. refl }
step_fits h past (sequence_start p) f r = inside_fits (item_due ∷ behind_node h.due) (sequence_start p) past (sequence_due h past p f) (λ e. refl)
step_fits h past (mapping_start p) f r = inside_fits (key_due ∷ behind_node h.due) (mapping_start p) past (mapping_due h past p f) (λ e. refl)
step_fits h past sequence_end f r = end_fits h past f sequence_end (λ n even. refl) (λ e. refl)
step_fits h past mapping_end f r = end_fits h past f mapping_end (λ n even. refl) (λ e. refl)
step_fits h past x f r = node_fits h past f x (λ n even. refl) (λ e. refl)

-- ---- the first refusal

or_same : (p a b : Option Problem) → (p ≡ None → a ≡ b) → or_else p a ≡ or_else p b
or_same p a b f = grind (arith, nat_tests)

or_first : (p q : Option Problem) → or_else p q ≡ None → p ≡ None
or_first p q e = grind (arith, nat_tests)

or_last : (p q : Option Problem) → or_else p q ≡ None → q ≡ None
or_last p q e = grind (arith, nat_tests)

refusals_are : (canonical : Bool) (h : Progress) (past es : List Event) → Fits h past
    → first_refusal canonical h es ≡ first_wrong canonical past es
unfolding first_refusal first_wrong problem_by
refusals_are canonical h past [] f = refl
refusals_are canonical h past (e ∷ es) f =
    let same : problem_in canonical h e ≡ wrong_behind canonical past e = ap (λ (o : Option Problem). or_else (event_problem canonical e) (or_else o (last_problem e))) (f.place e) in
    or_same (problem_in canonical h e) _ _ (λ none. refusals_are canonical (progress_after h e) (e ∷ past) es (step_fits h past e f (or_first _ _ (or_last _ _ none))))
    ∙ ap (λ (o : Option Problem). or_else o (first_wrong canonical (e ∷ past) es)) same

pub refusal_looks_back : RefusalLooksBack
unfolding innermost
refusal_looks_back canonical es = refusals_are canonical first_progress [] es (record { place = start_place; due = (λ n even. refl) })
