-- The documents of any input are as loading makes them: they are those of a content, as far as the input goes.
use Rattle.std.proofs.Common.{◌≡◌, ◌++◌, ℕ, Bool, true, false, List, [], ◌∷◌, map, Option, None, refl, sym, ap, ◌∙◌}
use Rattle.yaml_round_content.proofs.ReadBackWords.{YAML_ANY_ENCODING, YAML_ANY_SEQUENCE_STYLE, YAML_ANY_MAPPING_STYLE, Event, EventBody, nothing_loaded, events, item_events, pair_events, events_of, ending_of, contents, ScalarMark, untagged, tagged, alias, scalar, sequence, mapping, scalar_says, node_says, items_say, pairs_say, documents_say, stream_says, written_node, written_nodes, written_pairs, InputsSayFronts, Loads, loads_of, Core, CoreNode, core_of, on_same, loads_said, as_content, as_contents, as_pairs, unplaced, content_events, told_by, events_saying, load_each, AreLoadedDocuments, ContentIsLoaded, ContentLoadsDocuments, document_loaded, AllLoadDocuments}
use Rattle.yaml_parse_model.specs.Events as event
use Rattle.yaml_parse_model.specs.Documents as documents
use Rattle.yaml_round_content.specs.Said.{Node, Nodes, no_nodes, node, Pairs, no_pairs, pair, Document}
use Rattle.yaml_round_content.proofs.Core.{CoreLoading, CoreFed, core_goes_on, core_loaded, core_refused, CoreLoads, core_step, core_nothing, core_in_front, core_on, core_loads, is_fault, bodies, load_cores}

-- ---- the events of a content load what the content says, flags aside

record Same (f : Bool) (es : List Event) (bs : List EventBody) : Type 0 where
  same : (l : CoreLoading) → core_loads (bodies (told_by es)) f l ≡ core_loads bs f l

next : (f : Bool) (b c : EventBody) (es : List Event) (bs : List EventBody)
    → ((l : CoreLoading) → core_step b l ≡ core_step c l) → Same f es bs
    → Same f (unplaced b ∷ es) (c ∷ bs)
unfolding core_loads
next f b c es bs h s = record {
  same = λ l. ap (λ (x : CoreFed). core_on x (core_loads (bodies (told_by es)) f)) (h l) ∙ on_same (core_step c l) (core_loads (bodies (told_by es)) f) (core_loads bs f) s.same;
}

scalar_same : (f : Bool) (anchor : Option (List ℕ)) (mark : ScalarMark) (value : List ℕ) (es : List
    Event)
    (bs : List EventBody) → Same f es bs
    → Same f (events (as_content (written_node (scalar anchor mark value))) es)
    (scalar_says anchor mark value ∷ bs)
scalar_same f anchor (untagged plain) value es bs s = next f _ _ es bs (λ l. refl) s
scalar_same f anchor (tagged t) value es bs s = next f _ _ es bs (λ l. refl) s

mutual
  unfolding node_says items_say pairs_say

  node_same : (f : Bool) (n : Node) (es : List Event) (bs : List EventBody) → Same f es bs
      → Same f (events (as_content (written_node n)) es) (node_says n bs)
  node_same f (alias name) es bs s = next f (event.alias name) (event.alias name) es bs (λ l. refl) s
  node_same f (scalar anchor mark value) es bs s = scalar_same f anchor mark value es bs s
  node_same f (sequence anchor tag items) es bs s =
      next f (event.sequence_start anchor tag false YAML_ANY_SEQUENCE_STYLE) (event.sequence_start anchor tag true YAML_ANY_SEQUENCE_STYLE) _ _ (λ l. refl)
      (items_same f items _ _ (next f event.sequence_end event.sequence_end es bs (λ l. refl) s))
  node_same f (mapping anchor tag pairs) es bs s =
      next f (event.mapping_start anchor tag false YAML_ANY_MAPPING_STYLE) (event.mapping_start anchor tag true YAML_ANY_MAPPING_STYLE) _ _ (λ l. refl)
      (pairs_same f pairs _ _ (next f event.mapping_end event.mapping_end es bs (λ l. refl) s))

  items_same : (f : Bool) (ns : Nodes) (es : List Event) (bs : List EventBody) → Same f es bs
      → Same f (item_events (as_contents (written_nodes ns)) es) (items_say ns bs)
  items_same f no_nodes es bs s = s
  items_same f (node n ns) es bs s = node_same f n _ _ (items_same f ns es bs s)

  pairs_same : (f : Bool) (ps : Pairs) (es : List Event) (bs : List EventBody) → Same f es bs
      → Same f (pair_events (as_pairs (written_pairs ps)) es) (pairs_say ps bs)
  pairs_same f no_pairs es bs s = s
  pairs_same f (pair k v ps) es bs s = node_same f k _ _ (node_same f v _ _ (pairs_same f ps es bs s))

documents_same : (f : Bool) (c : List Document) → Same f (content_events c) (documents_say c)
unfolding documents_say
documents_same f [] = next f event.stream_end event.stream_end [] [] (λ l. refl) record { same = λ l. refl }
documents_same f (d ∷ ds) =
    next f (event.document_start d.version d.directives true) (event.document_start d.version d.directives true) _ _ (λ l. refl)
    (node_same f d.root _ _ (next f (event.document_end true) (event.document_end true) _ _ (λ l. refl) (documents_same f ds)))

content_same : (f : Bool) (c : List Document) (l : CoreLoading)
    → core_loads (bodies (events_saying c)) f l ≡ core_loads (stream_says c) f l
content_same f c l = (next f (event.stream_start YAML_ANY_ENCODING) (event.stream_start YAML_ANY_ENCODING) (content_events c) (documents_say c) (λ m. refl) (documents_same f c)).same l

-- ---- the documents of a front of events are a front

record FrontOf (a b : CoreLoads) : Type 0 where
  more : List Core
  same : a.documents ++ more ≡ b.documents

front_nodes : (ns : List CoreNode) (d : Core) (a b : CoreLoads) → FrontOf a b
    → FrontOf (core_in_front ns d a) (core_in_front ns d b)
front_nodes [] d a b h = record { more = []; same = refl }
front_nodes (n ∷ ns) d a b h = record { more = h.more; same = ap (λ (cs : List Core). d ∷ cs) h.same }

front_on : (x : CoreFed) (u v : CoreLoading → CoreLoads) → ((l : CoreLoading) → FrontOf (u l) (v l))
    → FrontOf (core_on x u) (core_on x v)
front_on (core_goes_on l) u v h = h l
front_on (core_loaded d) u v h = front_nodes d.nodes d (u core_nothing) (v core_nothing) (h core_nothing)
front_on core_refused u v h = record { more = []; same = refl }

front_loads : (bs cs : List EventBody) (f g : Bool) (l : CoreLoading)
    → FrontOf (core_loads bs f l) (core_loads (bs ++ cs) g l)
unfolding core_loads
front_loads [] cs f g l = record { more = (core_loads cs g l).documents; same = refl }
front_loads (b ∷ bs) cs f g l = front_on (core_step b l) (core_loads bs f) (core_loads (bs ++ cs) g) (λ m. front_loads bs cs f g m)

-- ---- inputs

documents_front : (ds es : List documents.Document) (more : List Core)
    → map core_of ds ++ more ≡ map core_of es → AreLoadedDocuments es → AreLoadedDocuments ds
documents_front [] es more h l = tt
documents_front (d ∷ ds) [] more h l = absurd (cc)
documents_front (d ∷ ds) (e ∷ es) more h l =
    let one : core_of d ≡ core_of e = cc in
    let rest : map core_of ds ++ more ≡ map core_of es = cc in
    (document_loaded d e one l.0, documents_front ds es more rest l.1)

-- what a content's events load, without styles and marks
content_cores : ContentIsLoaded → (c : List Document)
    → (core_loads (stream_says c) false core_nothing).documents
    ≡ map core_of (load_each c).documents
content_cores numbered c =
    ap (λ (a : CoreLoads). a.documents) (sym (content_same false c core_nothing) ∙ sym (load_cores (events_saying c) None nothing_loaded))
    ∙ ap (λ (a : Loads). map core_of a.documents) (numbered c)

pub all_loaded : InputsSayFronts → ContentIsLoaded → ContentLoadsDocuments → AllLoadDocuments
all_loaded fronts numbered loads from input =
    let s = fronts from input in
    let es = events_of from input in
    let h = front_loads (contents es) s.rest (is_fault (ending_of from input)) false core_nothing in
    documents_front (loads_of from input).documents (load_each s.content).documents h.more
    (ap (λ (a : CoreLoads). a.documents ++ h.more) (loads_said es (ending_of from input)) ∙ h.same
    ∙ ap (λ (bs : List EventBody). (core_loads bs false core_nothing).documents) s.same ∙ content_cores numbered s.content)
    (loads s.content)
