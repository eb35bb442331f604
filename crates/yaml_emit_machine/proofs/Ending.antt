-- Each event of a stream or a dump is let out; so where no event is to come, nothing is held, all is written, and the whole passes
-- no limit.
use Rattle.std.proofs.Common.{◌≡◌, ◌+◌, ◌≤◌, List, [], ◌∷◌, ◌++◌, length, Bool, true, false, refl, sym, subst, ◌∙◌, ap, arith, append-nil}
use Rattle.std.specs.Prelude.{nat_le}
use Rattle.std.proofs.Math.Bool.{or-true}
use Rattle.std.proofs.lemmas.List.{length-append}
use Rattle.yaml_emit_layout.specs.declared.Encoding.{Encoding}
use Rattle.yaml_emit_layout.specs.declared.Settings.{Settings}
use Rattle.yaml_emit_layout.specs.declared.Status.{Status}
use Rattle.yaml_emit_layout.specs.declared.Status.TheVariants.{Going}
use Rattle.yaml_emit_layout.specs.Text.{Item, encode, is_deep}
use Rattle.yaml_emit_layout.specs.Sink.{Output, Ends}
use Rattle.yaml_emit_layout.specs.Content.{Event, Opening, Start, stream_start, stream_end, document_start, document_end, alias, scalar, sequence_start, mapping_start, Node, alias_node, scalar_node, sequence_node, mapping_node, Nodes, no_nodes, node, Pairs, no_pairs, pair, Document, sequence_end, mapping_end, node_events, items_events, pairs_events, documents_events}
use Rattle.yaml_emit_layout.specs.State.{State}
use Rattle.yaml_parse_model.specs.Documents as documents
use Rattle.yaml_emit_graph.specs.Graph.{dumped, graph_content}
use Rattle.yaml_emit_layout.specs.ToCome.{ToCome, stream, documents, root, frames, nothing, Frame, items_left, pairs_left, value_left, events, frame_events, frames_events, ending_events, layout}
use Rattle.yaml_emit_core.specs.Finish.{Finishes, FinishesAt}
use Rattle.yaml_emit_machine.specs.Held.{is_ready, needs}
use Rattle.yaml_emit_machine.specs.Emitter.{Emitter, text_of, CompletesBy}
use Rattle.yaml_emit_machine.specs.Within.{Fits}
use Rattle.yaml_emit_machine.specs.Judged.{let_out, AreOut}
use Rattle.yaml_emit_machine.proofs.Holding.{enough, none_needed, three_enough}
use Rattle.yaml_emit_machine.proofs.Judging.{first_out, ready_more, held_stays}

mutual
  unfolding node_events items_events pairs_events

  long_node : (v : Node) (es : List Event) → length es + 1 ≤ length (node_events v es)
  long_node (alias_node name) es = omega arith
  long_node (scalar_node x) es = omega arith
  long_node (sequence_node q ns) es = let h = long_items ns (sequence_end ∷ es) in omega (arith, h)
  long_node (mapping_node q ps) es = let h = long_pairs ps (mapping_end ∷ es) in omega (arith, h)

  long_items : (ns : Nodes) (es : List Event) → length es ≤ length (items_events ns es)
  long_items no_nodes es = omega arith
  long_items (node v ns) es = let h = long_items ns es in let k = long_node v (items_events ns es) in omega (arith, h, k)

  long_pairs : (ps : Pairs) (es : List Event) → length es ≤ length (pairs_events ps es)
  long_pairs no_pairs es = omega arith
  long_pairs (pair u v ps) es =
      let h = long_pairs ps es in
      let k = long_node v (pairs_events ps es) in
      let l = long_node u (node_events v (pairs_events ps es)) in
      omega (arith, h, k, l)

out_next : (e : Event) (es : List Event) → is_ready (e ∷ es) ≡ true → AreOut es → AreOut (e ∷ es)
out_next e es ready out = λ more. first_out e (es ++ more) (ready_more e es more ready) ∙ ap (λ (z : List Event). e ∷ z) (out more)

-- ---- what opens a level is followed by what it needs

sequence_ready : (q : Start) (ns : Nodes) (es : List Event)
    → is_ready (sequence_start q ∷ items_events ns (sequence_end ∷ es)) ≡ true
unfolding is_ready items_events
sequence_ready q no_nodes es = or-true (nat_le 2 (length (sequence_end ∷ es)))
sequence_ready q (node v ns) es =
    let k = long_node v (items_events ns (sequence_end ∷ es)) in
    let l = long_items ns (sequence_end ∷ es) in
    enough (sequence_start q) (node_events v (items_events ns (sequence_end ∷ es))) (omega (arith, k, l))

mapping_ready : (q : Start) (ps : Pairs) (es : List Event)
    → is_ready (mapping_start q ∷ pairs_events ps (mapping_end ∷ es)) ≡ true
unfolding is_ready pairs_events
mapping_ready q no_pairs es = or-true (nat_le 3 (length (mapping_end ∷ es)))
mapping_ready q (pair n v ps) es =
    let k = long_pairs ps (mapping_end ∷ es) in
    let l = long_node v (pairs_events ps (mapping_end ∷ es)) in
    let m = long_node n (node_events v (pairs_events ps (mapping_end ∷ es))) in
    enough (mapping_start q) (node_events n (node_events v (pairs_events ps (mapping_end ∷ es)))) (omega (arith, k, l, m))

-- ---- so it is let out

-- an event that needs nothing after it
out_alone : (e : Event) (es : List Event) → needs e ≡ 0 → AreOut es → AreOut (e ∷ es)
out_alone e es none out = out_next e es (none_needed e es none) out

mutual
  unfolding node_events items_events pairs_events

  node_out : (v : Node) (es : List Event) → AreOut es → AreOut (node_events v es)
  node_out (alias_node name) es out = out_alone (alias name) es refl out
  node_out (scalar_node x) es out = out_alone (scalar x) es refl out
  node_out (sequence_node q ns) es out =
      out_next (sequence_start q) (items_events ns (sequence_end ∷ es)) (sequence_ready q ns es) (items_out ns (sequence_end ∷ es) (out_alone sequence_end es refl out))
  node_out (mapping_node q ps) es out =
      out_next (mapping_start q) (pairs_events ps (mapping_end ∷ es)) (mapping_ready q ps es) (pairs_out ps (mapping_end ∷ es) (out_alone mapping_end es refl out))

  items_out : (ns : Nodes) (es : List Event) → AreOut es → AreOut (items_events ns es)
  items_out no_nodes es out = out
  items_out (node v ns) es out = node_out v (items_events ns es) (items_out ns es out)

  pairs_out : (ps : Pairs) (es : List Event) → AreOut es → AreOut (pairs_events ps es)
  pairs_out no_pairs es out = out
  pairs_out (pair n v ps) es out = node_out n (node_events v (pairs_events ps es)) (node_out v (pairs_events ps es) (pairs_out ps es out))

-- the events of a document
pub document_out : (o : Opening) (v : Node) (b : Bool) (es : List Event) → AreOut es
    → AreOut (document_start o ∷ node_events v (document_end b ∷ es))
document_out o v b es out =
    let end : Event = document_end b in
    let k = long_node v (end ∷ es) in
    out_next (document_start o) (node_events v (end ∷ es)) (enough (document_start o) (node_events v (end ∷ es)) (omega (arith, k))) (node_out v (end ∷ es) (out_alone end es refl out))

-- what is held before three events or more
held_out : (hs es : List Event) → 3 ≤ length es → AreOut es → AreOut (hs ++ es)
held_out [] es long out = out
held_out (h ∷ hs) es long out =
    let all = length-append hs es in
    out_next h (hs ++ es) (three_enough h (hs ++ es) (omega (arith, long, all))) (held_out hs es long out)

-- the events of a dump, after what is held
pub dumped_out : (hs : List Event) (d : documents.Document) → AreOut (hs ++ dumped d)
unfolding dumped
dumped_out hs d =
    let said = graph_content d in
    let end : List Event = document_end said.implicit_end ∷ [] in
    let k = long_node said.root end in
    held_out hs (document_start said.opening ∷ node_events said.root end) (omega (arith, k)) (document_out said.opening said.root said.implicit_end [] (λ more. refl))

documents_out : (ds : List Document) → AreOut (documents_events ds)
unfolding documents_events
documents_out [] = out_alone stream_end [] refl (λ more. refl)
documents_out (d ∷ ds) = document_out d.opening d.root d.implicit_end (documents_events ds) (documents_out ds)

frames_out : (fs : List Frame) (es : List Event) → AreOut es → AreOut (frames_events fs es)
unfolding frames_events frame_events
frames_out [] es out = out
frames_out (items_left flow n fresh ns ∷ fs) es out = items_out ns _ (out_alone sequence_end _ refl (frames_out fs es out))
frames_out (pairs_left flow n fresh ps ∷ fs) es out = pairs_out ps _ (out_alone mapping_end _ refl (frames_out fs es out))
frames_out (value_left flow n simple v ps ∷ fs) es out = node_out v _ (pairs_out ps _ (out_alone mapping_end _ refl (frames_out fs es out)))

rest_out : (k : ToCome) → AreOut (events k)
unfolding events
rest_out (stream x ds) = out_alone (stream_start x) (documents_events ds) refl (documents_out ds)
rest_out (documents first unended ds) = documents_out ds
rest_out (root g v implicit ds) = node_out v _ (out_alone (document_end implicit) _ refl (documents_out ds))
rest_out (frames g fs implicit ds) = frames_out fs _ (out_alone (document_end implicit) _ refl (documents_out ds))
rest_out nothing = λ more. refl

long_frame : (f : Frame) (es : List Event) → length es + 1 ≤ length (frame_events f es)
unfolding frame_events
long_frame (items_left flow n fresh ns) es = let h = long_items ns (sequence_end ∷ es) in omega (arith, h)
long_frame (pairs_left flow n fresh ps) es = let h = long_pairs ps (mapping_end ∷ es) in omega (arith, h)
long_frame (value_left flow n simple v ps) es = let h = long_pairs ps (mapping_end ∷ es) in let k = long_node v (pairs_events ps (mapping_end ∷ es)) in omega (arith, h, k)

pub no_event_left : (k : ToCome) → [] ≡ events k → k ≡ nothing
unfolding events documents_events frames_events
no_event_left (stream x ds) h = absurd (cc)
no_event_left (documents first unended []) h = absurd (cc)
no_event_left (documents first unended (d ∷ ds)) h = absurd (cc)
no_event_left (root g v implicit ds) h = let k = long_node v (ending_events implicit ds) in let l = ap length h in absurd (omega (arith, k, l))
no_event_left (frames g [] implicit ds) h = absurd (cc)
no_event_left (frames g (f ∷ fs) implicit ds) h = let k = long_frame f (frames_events fs (ending_events implicit ds)) in let l = ap length h in absurd (omega (arith, k, l))
no_event_left nothing h = refl

-- Of the events that a whole stream has still to come, none waits that isn't ready.
pub nothing_held : (xs : List Event) (k : ToCome) → is_ready xs ≡ false → xs ≡ events k → xs ≡ []
unfolding let_out
nothing_held xs k w h =
    let P : List Event → Type 0 = λ z. let_out z ≡ z in
    let out : let_out (events k) ≡ events k = subst P (append-nil (events k)) (rest_out k []) in
    let all : let_out xs ≡ xs = subst P (sym h) out in
    sym all ∙ held_stays xs w

-- what is said of the whole: all of it is in the output, and it passes no limit
abbrev pub IsAll : Output → Encoding → List Item → Type 0
IsAll o x whole = (o.bytes ≡ encode x whole) × Fits o.limit x whole

all_at : (s : Status) (v : Settings) (st : State) (o : Output) (xs : List Event)
    (whole : List Item) → s ≡ o.status → s ≡ Going → is_ready xs ≡ false
    → FinishesAt s v st o (xs ++ []) whole → IsAll o o.encoding whole
unfolding Ends layout encode is_deep
all_at Going v st o xs whole same g w f =
    let all : xs ≡ events f.rest = sym (append-nil xs) ∙ f.same in
    let last : f.rest ≡ nothing = no_event_left f.rest (sym (nothing_held xs f.rest w all) ∙ all) in
    let ends = f.ends in
    let e = rw (← same, last) at ends in
    let written : o.bytes ≡ encode o.encoding whole = sym (append-nil o.bytes) ∙ sym e.0 in
    (written, record { size = rw (← written) e.1.0; columns = e.1.1.0 })
all_at s v st o xs whole same g w f = absurd (cc)

-- with no event to come
pub all_by : (b : Bool) (e : Emitter) (x : Encoding) (whole : List Item) → e.status ≡ Going
    → is_ready e.held ≡ false → CompletesBy b e x [] whole → IsAll (text_of e) x whole
unfolding Finishes
all_by true e x whole g w h = let k = h.same in absurd (cc)
all_by false e x whole g w h = rw (← h.0) (all_at e.status e.course.settings e.course.state (text_of e) e.held whole refl g w h.1)
