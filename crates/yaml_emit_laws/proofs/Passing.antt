-- A list of events of which none is refused goes on to the end of a stream.
use Rattle.std.proofs.Common.{◌≡◌, Bool, true, false, List, [], ◌∷◌, ◌++◌, Option, None, refl, sym, ap, ◌∙◌, subst, append-nil, arith}
use Rattle.yaml_emit_graph.specs.scan_model.declared.name.yaml_encoding_t.{yaml_encoding_t}
use Rattle.yaml_emit_graph.specs.scan_model.declared.name.yaml_encoding_t.TheVariants.{YAML_ANY_ENCODING}
use Rattle.yaml_emit_laws.proofs.DumpsWords.{nat_tests, YAML_ANY_SCALAR_STYLE, Problem, Expected, Scalar, alias_node, scalar_node, sequence_node, mapping_node, Nodes, no_nodes, node, Pairs, no_pairs, pair, Event, stream_start, stream_end, document_start, document_end, alias, scalar, sequence_start, sequence_end, mapping_start, mapping_end, node_events, items_events, pairs_events, documents_events, stream_events, or_else, event_problem, last_problem, node_problem, place_problem, problem_by, own_problem, own_problems, Due, item_due, key_due, value_due, Progress, inside, behind_node, first_progress, progress_after, level_due, problem_in, first_refusal, progress_behind, IsEmittable, PassedAreStreams, PassedAreFronts, RightStreamsHaveTexts}
use Rattle.yaml_emit_graph.specs.emit_layout.Layout.{written}
use Rattle.yaml_emit_graph.specs.emit_layout.Settings.{settled}
use Rattle.yaml_emit_graph.specs.emit_layout.Nodes.{stream_layout}
use Rattle.yaml_emit_graph.specs.emit_layout.declared.Expected.TheVariants as at
use Rattle.yaml_emit_graph.specs.emit_layout.Content.{Node, Document}

-- ---- what goes on from a place to the end of a stream

-- the end of a document, and the documents after it
record Ending (es : List Event) : Type 0 where
  implicit : Bool
  documents : List Document
  same : es ≡ document_end implicit ∷ documents_events documents

-- what is left of a sequence, and what follows it
record ItemsLeft (P : List Event → Type 0) (es : List Event) : Type 0 where
  nodes : Nodes
  rest : List Event
  same : es ≡ items_events nodes (sequence_end ∷ rest)
  goes : P rest

-- what is left of a mapping, and what follows it
record PairsLeft (P : List Event → Type 0) (es : List Event) : Type 0 where
  pairs : Pairs
  rest : List Event
  same : es ≡ pairs_events pairs (mapping_end ∷ rest)
  goes : P rest

-- the same after a key
record ValueLeft (P : List Event → Type 0) (es : List Event) : Type 0 where
  value : Node
  pairs : Pairs
  rest : List Event
  same : es ≡ node_events value (pairs_events pairs (mapping_end ∷ rest))
  goes : P rest

-- what is left of a document in these open collections
abbrev Left : List Due → List Event → Type 0
Left [] es = Ending es
Left (item_due ∷ due) es = ItemsLeft (Left due) es
Left (key_due ∷ due) es = PairsLeft (Left due) es
Left (value_due ∷ due) es = ValueLeft (Left due) es

-- the root of a document, and what follows it
record RootLeft (es : List Event) : Type 0 where
  root : Node
  rest : List Event
  same : es ≡ node_events root rest
  goes : Ending rest

record DocumentsLeft (es : List Event) : Type 0 where
  documents : List Document
  same : es ≡ documents_events documents

record StreamLeft (es : List Event) : Type 0 where
  encoding : yaml_encoding_t
  documents : List Document
  same : es ≡ stream_events encoding documents

abbrev GoesOn : Expected → List Due → List Event → Type 0
GoesOn at.StreamStart due es = StreamLeft es
GoesOn (at.Documents first unended) due es = DocumentsLeft es
GoesOn at.Node [] es = RootLeft es
GoesOn at.Node (d ∷ due) es = Left (d ∷ due) es
GoesOn at.DocumentEnd due es = Ending es
GoesOn at.End due es = es ≡ []
GoesOn (at.Refused p) due es = Unit {0}

abbrev From : Progress → List Event → Type 0
From h es = GoesOn h.place h.due es

-- ---- an event first

from_inside : (due : List Due) (es : List Event) → From (inside due) es → Left due es
from_inside due es k = grind (arith, nat_tests)

-- a node before what follows it
put : (due : List Due) (n : Node) (es : List Event) → Left (behind_node due) es
    → GoesOn at.Node due (node_events n es)
unfolding items_events pairs_events
put [] n es k = record { root = n; rest = es; same = refl; goes = k }
put (item_due ∷ due) n es k = record { nodes = node n k.nodes; rest = k.rest; same = ap (node_events n) k.same; goes = k.goes }
put (key_due ∷ due) n es k = record { pairs = pair n k.value k.pairs; rest = k.rest; same = ap (node_events n) k.same; goes = k.goes }
put (value_due ∷ due) n es k = record { value = n; pairs = k.pairs; rest = k.rest; same = ap (node_events n) k.same; goes = k.goes }

close_sequence : (due : List Due) (es : List Event)
    → node_problem (level_due due) sequence_end ≡ None
    → From (progress_after (record { place = at.Node; due = due }) sequence_end) es
    → GoesOn at.Node due (sequence_end ∷ es)
unfolding progress_after items_events
close_sequence (item_due ∷ due) es h k = record { nodes = no_nodes; rest = es; same = refl; goes = from_inside due es k }
close_sequence _ es h k = absurd (cc)

close_mapping : (due : List Due) (es : List Event) → node_problem (level_due due) mapping_end ≡ None
    → From (progress_after (record { place = at.Node; due = due }) mapping_end) es
    → GoesOn at.Node due (mapping_end ∷ es)
unfolding progress_after pairs_events
close_mapping (key_due ∷ due) es h k = record { pairs = no_pairs; rest = es; same = refl; goes = from_inside due es k }
close_mapping _ es h k = absurd (cc)

at_node : (due : List Due) (e : Event) (es : List Event) → node_problem (level_due due) e ≡ None
    → From (progress_after (record { place = at.Node; due = due }) e) es
    → GoesOn at.Node due (e ∷ es)
unfolding progress_after node_events
at_node due (alias name) es h k = put due (alias_node name) es (from_inside (behind_node due) es k)
at_node due (scalar x) es h k = put due (scalar_node x) es (from_inside (behind_node due) es k)
at_node due (sequence_start p) es h k =
    let P : List Event → Type 0 = λ t. GoesOn at.Node due (sequence_start p ∷ t) in
    subst P (sym k.same) (put due (sequence_node p k.nodes) k.rest k.goes)
at_node due (mapping_start p) es h k =
    let P : List Event → Type 0 = λ t. GoesOn at.Node due (mapping_start p ∷ t) in
    subst P (sym k.same) (put due (mapping_node p k.pairs) k.rest k.goes)
at_node due sequence_end es h k = close_sequence due es h k
at_node due mapping_end es h k = close_mapping due es h k
at_node [] _ es h k = absurd (cc)
at_node (item_due ∷ due) _ es h k = absurd (cc)
at_node (key_due ∷ due) _ es h k = absurd (cc)
at_node (value_due ∷ due) _ es h k = absurd (cc)

in_front : (p : Expected) (due : List Due) (e : Event) (es : List Event)
    → place_problem p (level_due due) e ≡ None
    → From (progress_after (record { place = p; due = due }) e) es → GoesOn p due (e ∷ es)
unfolding place_problem progress_after documents_events
in_front at.StreamStart due (stream_start x) es h k = record { encoding = x; documents = k.documents; same = ap (λ t. stream_start x ∷ t) k.same }
in_front at.StreamStart due _ es h k = absurd (cc)
in_front (at.Documents first unended) due (document_start o) es h k = record {
  documents = record { opening = o; root = k.root; implicit_end = k.goes.implicit } ∷ k.goes.documents;
  same = ap (λ t. document_start o ∷ t) (k.same ∙ ap (node_events k.root) k.goes.same);
}
in_front (at.Documents first unended) due stream_end es h k = record { documents = []; same = ap (λ t. stream_end ∷ t) k }
in_front (at.Documents first unended) due _ es h k = absurd (cc)
in_front at.Node due e es h k = at_node due e es h k
in_front at.DocumentEnd due (document_end implicit) es h k = record { implicit = implicit; documents = k.documents; same = ap (λ t. document_end implicit ∷ t) k.same }
in_front at.DocumentEnd due _ es h k = absurd (cc)
in_front at.End due e es h k = absurd (cc)
in_front (at.Refused p) due e es h k = tt

-- ---- no event first: what closes all that is open

abbrev empty_text : Scalar
empty_text = record { anchor = None; tag = None; value = []; plain = true; quoted = false; style = YAML_ANY_SCALAR_STYLE }

abbrev closing_document : List Event
closing_document = document_end true ∷ stream_end ∷ []

abbrev closing_inside : List Due → List Event
closing_inside [] = closing_document
closing_inside (item_due ∷ due) = sequence_end ∷ closing_inside due
closing_inside (key_due ∷ due) = mapping_end ∷ closing_inside due
closing_inside (value_due ∷ due) = scalar empty_text ∷ mapping_end ∷ closing_inside due

abbrev closing : Expected → List Due → List Event
closing at.StreamStart due = stream_start YAML_ANY_ENCODING ∷ stream_end ∷ []
closing (at.Documents first unended) due = stream_end ∷ []
closing at.Node [] = scalar empty_text ∷ closing_document
closing at.Node (d ∷ due) = closing_inside (d ∷ due)
closing at.DocumentEnd due = closing_document
closing _ due = []

ends : Ending closing_document
unfolding documents_events
ends = record { implicit = true; documents = []; same = refl }

closes_inside : (due : List Due) → Left due (closing_inside due)
unfolding items_events pairs_events node_events
closes_inside [] = ends
closes_inside (item_due ∷ due) = record { nodes = no_nodes; rest = closing_inside due; same = refl; goes = closes_inside due }
closes_inside (key_due ∷ due) = record { pairs = no_pairs; rest = closing_inside due; same = refl; goes = closes_inside due }
closes_inside (value_due ∷ due) = record { value = scalar_node empty_text; pairs = no_pairs; rest = closing_inside due; same = refl; goes = closes_inside due }

closes : (p : Expected) (due : List Due) → GoesOn p due (closing p due)
unfolding documents_events node_events
closes at.StreamStart due = record { encoding = YAML_ANY_ENCODING; documents = []; same = refl }
closes (at.Documents first unended) due = record { documents = []; same = refl }
closes at.Node [] = record { root = scalar_node empty_text; rest = closing_document; same = refl; goes = ends }
closes at.Node (d ∷ due) = closes_inside (d ∷ due)
closes at.DocumentEnd due = ends
closes at.End due = refl
closes (at.Refused p) due = tt

inside_right : (canonical : Bool) (due : List Due)
    → own_problems canonical (closing_inside due) ≡ None
unfolding own_problems event_problem last_problem
inside_right canonical [] = refl
inside_right canonical (item_due ∷ due) = inside_right canonical due
inside_right canonical (key_due ∷ due) = inside_right canonical due
inside_right true (value_due ∷ due) = inside_right true due
inside_right false (value_due ∷ due) = inside_right false due

closing_right : (canonical : Bool) (p : Expected) (due : List Due)
    → own_problems canonical (closing p due) ≡ None
unfolding own_problems event_problem last_problem
closing_right canonical p due = grind (arith, inside_right)

-- ---- a whole list

-- where the first of two problems is none, both are
pub or_both : (p q : Option Problem) → or_else p q ≡ None → (p ≡ None) × (q ≡ None)
or_both p q e = grind (arith, nat_tests)

-- neither of two problems is there
pub or_none : (p q : Option Problem) → p ≡ None → q ≡ None → or_else p q ≡ None
or_none p q e f = grind (arith, nat_tests)

-- an event that passes is in its place, and nothing is wrong with it
record Passes (canonical : Bool) (h : Progress) (e : Event) : Type 0 where
  there : place_problem h.place (level_due h.due) e ≡ None
  right : own_problem canonical e ≡ None

passes : (canonical : Bool) (h : Progress) (e : Event) → problem_in canonical h e ≡ None
    → Passes canonical h e
unfolding problem_by
passes canonical h e r = grind (arith, or_both, or_none)

abbrev closing_behind : Progress → List Event → List Event
closing_behind h es = closing (progress_behind h es).place (progress_behind h es).due

goes_on : (canonical : Bool) (h : Progress) (es : List Event) → first_refusal canonical h es ≡ None
    → From h (es ++ closing_behind h es)
unfolding first_refusal progress_behind
goes_on canonical h [] r = closes h.place h.due
goes_on canonical h (e ∷ es) r =
    let a = or_both (problem_in canonical h e) (first_refusal canonical (progress_after h e) es) r in
    in_front h.place h.due e _ (passes canonical h e a.0).there (goes_on canonical (progress_after h e) es a.1)

-- nothing is wrong with the events of a list that passes
pub own_right : (canonical : Bool) (h : Progress) (es : List Event)
    → first_refusal canonical h es ≡ None → own_problems canonical es ≡ None
unfolding first_refusal own_problems
own_right canonical h [] r = refl
own_right canonical h (e ∷ es) r =
    let a = or_both (problem_in canonical h e) (first_refusal canonical (progress_after h e) es) r in
    or_none _ _ (passes canonical h e a.0).right (own_right canonical (progress_after h e) es a.1)

own_append : (canonical : Bool) (es more : List Event) → own_problems canonical es ≡ None
    → own_problems canonical more ≡ None → own_problems canonical (es ++ more) ≡ None
unfolding own_problems
own_append canonical [] more r q = q
own_append canonical (e ∷ es) more r q = let a = or_both (own_problem canonical e) (own_problems canonical es) r in or_none _ _ a.0 (own_append canonical es more a.1 q)

whole : (canonical : Bool) (es : List Event) → first_refusal canonical first_progress es ≡ None
    → IsEmittable canonical (es ++ closing_behind first_progress es)
whole canonical es r =
    let k = goes_on canonical first_progress es r in
    record { encoding = k.encoding; documents = k.documents; same = k.same; right = own_append canonical es (closing_behind first_progress es) (own_right canonical first_progress es r) (closing_right canonical (progress_behind first_progress es).place (progress_behind first_progress es).due) }

pub fronts : PassedAreFronts
fronts canonical es r = record { more = closing_behind first_progress es; whole = whole canonical es r }

pub streams : PassedAreStreams
streams canonical es r end =
    let none : closing_behind first_progress es ≡ [] = ap (λ (p : Expected). closing p (progress_behind first_progress es).due) end in
    let same : es ++ closing_behind first_progress es ≡ es = ap (λ (t : List Event). es ++ t) none ∙ append-nil es in
    subst (IsEmittable canonical) same (whole canonical es r)

-- ---- texts

pub texts : RightStreamsHaveTexts
texts w es r = record {
  encoding = (settled w r.encoding).encoding;
  whole = written (stream_layout (settled w r.encoding) r.documents);
  is = record { encoding = r.encoding; documents = r.documents; coded = refl; same = r.same; right = r.right; is = refl };
}
