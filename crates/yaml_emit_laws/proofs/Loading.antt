-- What is loaded of right events is right.
use Rattle.std.proofs.Common.{◌≡◌, ◌<◌, ℕ, zero, suc, subst, Bool, true, false, List, [], ◌∷◌, ◌++◌, length, Option, Some, None, refl, arith, ◌==◌, cond, if◌then◌else◌}
use Rattle.yaml_emit_laws.proofs.DumpsWords.{nat_tests, Fault, Document, with_node, change_place, str_tag, seq_tag, map_tag, no_document, loaded_tag, is_bang, Open, Loading, LoadStep, goes_on, loaded, refused, nothing_loaded, step, step_body, aliased, closed, filled, Problem, or_else, anchor_problem, tag_problem, directives_problem, event_problem, last_problem, AreTagged, RightDocument, MayTag, RightBody, AreRightTold, RightFed, RightLoad, TakenAreRight, StepsKeepRight, LoadsAreRight}
use Rattle.yaml_emit_graph.specs.scan_model.declared.record.yaml_mark_t.{yaml_mark_t}
use Rattle.yaml_emit_graph.specs.emit_layout.parse_model.Events as event
use Rattle.yaml_emit_graph.specs.emit_layout.parse_model.Nodes as model
use Rattle.yaml_parse_laws_trees.specs.parse_grammar.Resolve.{Told}
use Rattle.yaml_parse_laws_trees.specs.NextLoad.{NextLoad, next_document}
use Rattle.yaml_parse_laws_trees.proofs.ByStep.{Loads, load_on, behind_all, loads}
use Rattle.yaml_parse_laws_trees.proofs.ByStep as load
use Rattle.yaml_parse_laws_trees.proofs.NextLoads.{IsOf, load_is}
use Rattle.std.specs.FinMap as map
use Rattle.yaml_emit_graph.specs.emit_layout.declared.Problem.TheVariants as problem
use Rattle.yaml_emit_laws.proofs.Passing.{or_both}

-- ---- events that an emitter takes

tag_some : (t : List ℕ) (b : Bool) → (length t == 0) ≡ b
    → (if b then Some problem.TagEmpty else None) ≡ None → 0 < length t
tag_some t true e h = absurd (cc)
tag_some t false e h = grind (arith, nat_tests)

may_tag : (tag : Option (List ℕ)) → tag_problem tag ≡ None → MayTag tag
may_tag None h = tt
may_tag (Some t) h = tag_some t (length t == 0) refl h

-- the tag of an event with properties
may_head : (anchor tag : Option (List ℕ)) (q : Option Problem)
    → or_else (or_else (anchor_problem anchor) (tag_problem tag)) q ≡ None → MayTag tag
may_head anchor tag q h = grind (arith, nat_tests, or_both, may_tag)

pub taken : TakenAreRight
unfolding event_problem last_problem
taken v0 h = grind (arith, nat_tests, may_head)

-- ---- one event

some_of : (b : Bool) (s t : List ℕ) → 0 < length s → 0 < length t → 0 < length (cond b s t)
some_of true s t p q = p
some_of false s t p q = q

some_tag : (tag : Option (List ℕ)) (default : List ℕ) → MayTag tag → 0 < length default
    → 0 < length (loaded_tag tag default)
some_tag None default h k = k
some_tag (Some t) default h k = some_of (is_bang t) default t k h

one_more : (ns : List model.Node) (n : model.Node) → AreTagged ns → 0 < length n.tag
    → AreTagged (ns ++ n ∷ [])
one_more [] n h k = (k, tt)
one_more (m ∷ ns) n h k = (h.0, one_more ns n h.1 k)

with_one : (d : Document) (n : model.Node) → RightDocument d → 0 < length n.tag
    → RightDocument (with_node d n)
with_one d n r k = record { tags = one_more d.nodes n r.tags k; opening = r.opening }

aliased_right : (name : List ℕ) (at : yaml_mark_t) (l : Loading) → RightDocument l.document
    → RightFed (aliased (map.get l.anchors name) at l)
aliased_right name at l r = grind (arith, nat_tests)

changed : (o : Open) (to : yaml_mark_t) (k : ℕ) (ns : List model.Node) → AreTagged ns
    → AreTagged (change_place (filled o to) k ns)
changed o to k [] h = tt
changed o to zero (n ∷ ns) h = (h.0, h.1)
changed o to (suc k) (n ∷ ns) h = (h.0, changed o to k ns h.1)

closed_right : (to : yaml_mark_t) (l : Loading) (os : List Open) → RightDocument l.document
    → RightDocument (closed to l os).document
closed_right to l [] r = r
closed_right to l (o ∷ os) r = record { tags = changed o to _ l.document.nodes r.tags; opening = r.opening }

body_right : (b : event.EventBody) (from to : yaml_mark_t) (l : Loading) → RightBody b
    → RightDocument l.document → RightFed (step_body b from to l)
body_right (event.document_start version directives implicit) from to l h r = record { tags = tt; opening = h }
body_right (event.document_end implicit) from to l h r = record { tags = r.tags; opening = r.opening }
body_right (event.alias name) from to l h r = aliased_right name from l r
body_right (event.scalar anchor tag value plain quoted style) from to l h r = with_one l.document _ r (some_tag tag str_tag h (omega arith))
body_right (event.sequence_start anchor tag implicit style) from to l h r = with_one l.document _ r (some_tag tag seq_tag h (omega arith))
body_right (event.mapping_start anchor tag implicit style) from to l h r = with_one l.document _ r (some_tag tag map_tag h (omega arith))
body_right event.sequence_end from to l h r = closed_right to l l.levels r
body_right event.mapping_end from to l h r = closed_right to l l.levels r
body_right _ from to l h r = r

pub steps : StepsKeepRight
steps e l h r = body_right e.body e.start_mark e.end_mark l h r

-- ---- whole runs

pub empty_right : RightDocument no_document
unfolding directives_problem
empty_right = record { tags = tt; opening = refl }

abbrev RightLoads : Loads → Type 0
RightLoads (load.document d left unasked) = RightDocument d × AreRightTold left
RightLoads (load.faulty f) = Unit {0}
RightLoads load.nothing = Unit {0}

at_end : (f : Option Fault) → RightLoads (behind_all f)
at_end None = tt
at_end (Some f) = tt

turn_right : (fed : LoadStep) (go : Loading → Loads) (gs : List Told) (n : ℕ) → RightFed fed
    → AreRightTold gs → ((l : Loading) → RightDocument l.document → RightLoads (go l))
    → RightLoads (load_on fed go gs n)
turn_right (goes_on l) go gs n h k f = f l h
turn_right (loaded d) go gs n h k f = (h, k)
turn_right (refused g) go gs n h k f = tt

all_right : (gs : List Told) (f : Option Fault) (l : Loading) → AreRightTold gs
    → RightDocument l.document → RightLoads (loads gs f l)
unfolding loads
all_right [] f l h r = at_end f
all_right (g ∷ gs) f l h r = turn_right (step g.0 l) (loads gs f) gs g.1 (steps g.0 l h.0 r) h.1 (λ m s. all_right gs f m h.1 s)

next_right : (n : NextLoad) (r : Loads) (u : ℕ) → IsOf n r u → RightLoads r → RightLoad n
next_right (next_document d left count) r u e h = subst RightLoads e h
next_right _ r u e h = tt

pub loads_right : LoadsAreRight
loads_right gs f unasked n h k = next_right n _ _ (load_is gs f unasked n k) (all_right gs f nothing_loaded h empty_right)
