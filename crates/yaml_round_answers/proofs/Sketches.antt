-- What is known of a document in the making is what the loader knows.
use Rattle.std.proofs.Common.{◌≡◌, ℕ, length, Bool, List, [], ◌∷◌, ◌++◌, refl, sym, subst, ap, ◌∙◌, Option, None, Some}
use Rattle.std.specs.Prelude.{suc, ℤ, pos}
use Rattle.std.specs.FinMap as finite
use Rattle.yaml_parse_model.specs.Events.{Event, EventBody}
use Rattle.yaml_parse_model.specs.Events as event
use Rattle.yaml_parse_model.specs.Nodes.{Node}
use Rattle.yaml_parse_model.specs.scan_types.Faults.{Fault}
use Rattle.yaml_parse_model.specs.declared.yaml_mark_t.{yaml_mark_t}
use Rattle.yaml_parse_loader.specs.Anchors.{Anchors}
use Rattle.yaml_parse_loader.specs.Loading.{Open, open_sequence, open_mapping, Loading, LoadStep, goes_on, loaded, refused, step, step_body, place_of, named, next, attach, attached, closed, filled, aliased}
use Rattle.yaml_round_answers.specs.declared.graph_record.yaml_c_step.{yaml_c_step}
use Rattle.yaml_round_answers.specs.declared.graph_record.yaml_c_spot.{yaml_c_spot}
use Rattle.yaml_round_answers.specs.Composing.{kind_number, name_in, IsWithin, name_at, ShowEvents, Sketch, fresh_sketch, innermost, outer, spot, stood_for, drawn, drawn_on, all_drawn, top_of, number_or, spot_of, spots_on, spots_of, IsFresh, is_whole, AreSpots}
use Rattle.yaml_parse_model.proofs.Sound.{length_change, length_push}

abbrev numbers_open : List Open → List ℤ
numbers_open [] = []
numbers_open (o ∷ os) = pos (suc (place_of o)) ∷ numbers_open os

abbrev sketched : Loading → Sketch
sketched l = record {
  count = length l.document.nodes;
  around = numbers_open l.levels;
  names = l.anchors;
}

top_is : (os : List Open) → top_of os ≡ innermost (numbers_open os)
top_is [] = refl
top_is (o ∷ os) = refl

same_place : (n : ℤ) (o : Open) → place_of (attached n o) ≡ place_of o
same_place n (open_sequence place items) = refl
same_place n (open_mapping place pairs None) = refl
same_place n (open_mapping place pairs (Some key)) = refl

same_open : (n : ℤ) (os : List Open) → numbers_open (attach n os) ≡ numbers_open os
same_open n [] = refl
same_open n (o ∷ os) = ap (λ (k : ℕ). pos (suc k) ∷ numbers_open os) (same_place n o)

abbrev made : ℕ → List ℤ → Anchors → Sketch
made count around names = record { count = count; around = around; names = names }

-- what an event comes to, by the loader's step
abbrev Stepped : LoadStep → yaml_c_spot → Option (yaml_c_spot × Sketch) → Type 0
Stepped (goes_on l) x d = d ≡ Some (x, sketched l)
Stepped (loaded e) x d = ⊥
Stepped (refused f) x d = d ≡ None

abbrev put : yaml_c_spot → Sketch → Option (yaml_c_spot × Sketch)
put x s = Some (x, s)

leaf_step : (l : Loading) (n : Node) (name : Option (List ℕ))
    → put (spot (next l) (innermost (numbers_open l.levels))) (made (suc (length l.document.nodes)) (numbers_open l.levels) (named name (next l) l.anchors))
    ≡ put (spot (next l) (top_of l.levels)) (made (length (l.document.nodes ++ n ∷ [])) (numbers_open (attach (next l) l.levels)) (named name (next l) l.anchors))
leaf_step l n name =
    ap (λ z. put (spot (next l) z) (made (suc (length l.document.nodes)) (numbers_open l.levels) (named name (next l) l.anchors))) (sym (top_is l.levels))
    ∙ ap (λ (k : ℕ). put (spot (next l) (top_of l.levels)) (made k (numbers_open l.levels) (named name (next l) l.anchors))) (sym (length_push l.document.nodes n))
    ∙ ap (λ z. put (spot (next l) (top_of l.levels)) (made (length (l.document.nodes ++ n ∷ [])) z (named name (next l) l.anchors))) (sym (same_open (next l) l.levels))

open_step : (l : Loading) (n : Node) (name : Option (List ℕ))
    → put (spot (next l) (innermost (numbers_open l.levels))) (made (suc (length l.document.nodes)) (next l ∷ numbers_open l.levels) (named name (next l) l.anchors))
    ≡ put (spot (next l) (top_of l.levels)) (made (length (l.document.nodes ++ n ∷ [])) (next l ∷ numbers_open (attach (next l) l.levels)) (named name (next l) l.anchors))
open_step l n name =
    ap (λ z. put (spot (next l) z) (made (suc (length l.document.nodes)) (next l ∷ numbers_open l.levels) (named name (next l) l.anchors))) (sym (top_is l.levels))
    ∙ ap (λ (k : ℕ). put (spot (next l) (top_of l.levels)) (made k (next l ∷ numbers_open l.levels) (named name (next l) l.anchors))) (sym (length_push l.document.nodes n))
    ∙ ap (λ z. put (spot (next l) (top_of l.levels)) (made (length (l.document.nodes ++ n ∷ [])) (next l ∷ z) (named name (next l) l.anchors))) (sym (same_open (next l) l.levels))

alias_step : (l : Loading) (o : Option ℤ) (at : yaml_mark_t)
    → Stepped (aliased o at l) (spot (number_or o) (top_of l.levels)) (stood_for o (sketched l))
alias_step l None at = refl
alias_step l (Some n) at =
    ap (λ z. put (spot n z) (sketched l)) (sym (top_is l.levels))
    ∙ ap (λ z. put (spot n (top_of l.levels)) (made (length l.document.nodes) z l.anchors)) (sym (same_open n l.levels))

end_step : (l : Loading) (os : List Open) (to : yaml_mark_t) → l.levels ≡ os
    → put (spot (innermost (numbers_open os)) (pos 0)) (made (length l.document.nodes) (outer (numbers_open os)) l.anchors)
    ≡ put (spot (top_of os) (pos 0)) (sketched (closed to l os))
end_step l [] to h = ap (λ z. put (spot (pos 0) (pos 0)) (made (length l.document.nodes) (numbers_open z) l.anchors)) (sym h)
end_step l (o ∷ os) to h = ap (λ (k : ℕ). put (spot (pos (suc (place_of o))) (pos 0)) (made k (numbers_open os) l.anchors)) (sym (length_change (filled o to) (place_of o) l.document.nodes))

body_step : (b : EventBody) (from to : yaml_mark_t) (l : Loading) → IsWithin b
    → Stepped (step_body b from to l) (spot_of b l) (drawn (kind_number b) (name_in b) (sketched l))
unfolding drawn
body_step (event.alias name) from to l w = alias_step l (finite.get l.anchors name) from
body_step (event.scalar anchor tag value plain quoted style) from to l w = leaf_step l _ anchor
body_step (event.sequence_start anchor tag implicit style) from to l w = open_step l _ anchor
body_step (event.mapping_start anchor tag implicit style) from to l w = open_step l _ anchor
body_step event.sequence_end from to l w = end_step l l.levels to refl
body_step event.mapping_end from to l w = end_step l l.levels to refl
body_step event.no from to l w = absurd w
body_step (event.stream_start x) from to l w = absurd w
body_step event.stream_end from to l w = absurd w
body_step (event.document_start v ds i) from to l w = absurd w
body_step (event.document_end i) from to l w = absurd w

-- ---- all of them

abbrev Same : List yaml_c_spot × Option Fault → List yaml_c_spot × Bool → Type 0
Same a b = (a.0 ≡ b.0) × (is_whole a.1 ≡ b.1)

same_on : (st : LoadStep) (x : yaml_c_spot) (d : Option (yaml_c_spot × Sketch))
    (rest : Loading → List yaml_c_spot × Option Fault) (more : Sketch → List yaml_c_spot × Bool)
    → Stepped st x d → ((l : Loading) → Same (rest l) (more (sketched l)))
    → Same (spots_on st x rest) (drawn_on d more)
same_on (goes_on l) x d rest more is h = subst (λ z. Same (spots_on (goes_on l) x rest) (drawn_on z more)) (sym is) (ap (λ z. x ∷ z) (h l).0, (h l).1)
same_on (loaded e) x d rest more is h = absurd is
same_on (refused f) x d rest more is h = subst (λ z. Same (spots_on (refused f) x rest) (drawn_on z more)) (sym is) (refl, refl)

all_same : (bytes : List ℕ) (rs : List yaml_c_step) (es : List Event) (l : Loading)
    → ShowEvents bytes rs es → Same (spots_of es l) (all_drawn bytes rs (sketched l))
unfolding spots_of all_drawn
all_same bytes [] [] l s = (refl, refl)
all_same bytes (r ∷ rs) (e ∷ es) l s =
    same_on (step e l) (spot_of e.body l) (drawn r.kind (name_at bytes r) (sketched l)) (spots_of es) (all_drawn bytes rs)
    (subst (λ k. Stepped (step e l) (spot_of e.body l) (drawn k (name_at bytes r) (sketched l))) (sym s.0.kind)
    (subst (λ z. Stepped (step e l) (spot_of e.body l) (drawn (kind_number e.body) z (sketched l))) (sym s.0.name)
    (body_step e.body e.start_mark e.end_mark l s.0.within)))
    (λ m. all_same bytes rs es m s.1)
all_same bytes [] (e ∷ es) l s = absurd s
all_same bytes (r ∷ rs) [] l s = absurd s

fresh_is : (l : Loading) → IsFresh l → sketched l ≡ fresh_sketch
fresh_is l h =
    ap (λ (z : List Node). made (length z) (numbers_open l.levels) l.anchors) h.nodes
    ∙ ap (λ z. made 0 (numbers_open z) l.anchors) h.levels
    ∙ ap (λ z. made 0 [] z) h.anchors

-- what the records come to is what the events that they show do
pub spots_are : (bytes : List ℕ) (rs : List yaml_c_step) (given : List yaml_c_spot) (whole : Bool)
    → (given, whole) ≡ all_drawn bytes rs fresh_sketch → AreSpots bytes rs given whole
spots_are bytes rs given whole is = λ es l s h.
    let same : Same (spots_of es l) (given, whole) = subst (Same (spots_of es l)) (ap (all_drawn bytes rs) (fresh_is l h) ∙ sym is) (all_same bytes rs es l s) in
    (same.0, same.1)
