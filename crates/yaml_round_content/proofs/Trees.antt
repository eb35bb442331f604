-- The trees of what an emitter is given.
use Rattle.std.proofs.Common.{◌≡◌, ◌++◌, ℕ, Bool, true, false, List, [], ◌∷◌, map, Option, refl, sym, ap, ◌∙◌, arith}
use Rattle.yaml_round_content.proofs.Words.{nat_tests, map-append, yaml_encoding_t, YAML_ANY_ENCODING, YAML_ANY_SCALAR_STYLE, YAML_ANY_SEQUENCE_STYLE, YAML_ANY_MAPPING_STYLE, EventBody, Told, normalize_body, content_of, emitter_events, contents, scalar_says, node_says, items_say, pairs_say, documents_say, stream_says, counts_as_plain}
use Rattle.yaml_parse_model.specs.Events as event
use Rattle.yaml_emit_laws.specs.emit_layout.Content as emit
pub use Rattle.yaml_round_content.specs.Trees.{mark_of, tree_of, trees_of, pair_trees_of, document_trees}

-- ---- what an emitter's event says

abbrev pub core : emit.Event → EventBody
core emit.no_event = event.no
core (emit.stream_start encoding) = event.stream_start YAML_ANY_ENCODING
core emit.stream_end = event.stream_end
core (emit.document_start o) = event.document_start o.version o.directives true
core (emit.document_end implicit) = event.document_end true
core (emit.alias name) = event.alias name
core (emit.scalar x) = event.scalar x.anchor x.tag x.value (counts_as_plain x.tag x.plain) false YAML_ANY_SCALAR_STYLE
core (emit.sequence_start q) = event.sequence_start q.anchor q.tag true YAML_ANY_SEQUENCE_STYLE
core emit.sequence_end = event.sequence_end
core (emit.mapping_start q) = event.mapping_start q.anchor q.tag true YAML_ANY_MAPPING_STYLE
core emit.mapping_end = event.mapping_end

core_said : (b : EventBody) → content_of b ≡ core (emit.emitter_event b)
core_said b = grind (arith, nat_tests)

cores : (es : List Told) → contents es ≡ map core (emitter_events true es)
cores [] = refl
cores (t ∷ ts) =
    ap (λ (b : EventBody). b ∷ contents ts) (core_said (normalize_body true t.0.body)) ∙ ap (λ (bs : List EventBody). core (emit.emitter_event (normalize_body true t.0.body)) ∷ bs) (cores ts)

-- a scalar's event without its quotes and its style
pub scalar_core : (anchor tag : Option (List ℕ)) (value : List ℕ) (plain : Bool)
    → event.scalar anchor tag value (counts_as_plain tag plain) false YAML_ANY_SCALAR_STYLE
    ≡ scalar_says anchor (mark_of tag plain) value
scalar_core anchor tag value plain = grind (arith, nat_tests)

mutual
  unfolding emit.node_events emit.items_events emit.pairs_events node_says items_say pairs_say

  node_cores : (n : emit.Node) (es : List emit.Event)
      → map core (emit.node_events n es) ≡ node_says (tree_of n) (map core es)
  node_cores (emit.alias_node name) es = refl
  node_cores (emit.scalar_node x) es = ap (λ (b : EventBody). b ∷ map core es) (scalar_core x.anchor x.tag x.value x.plain)
  node_cores (emit.sequence_node q items) es = ap (λ (bs : List EventBody). event.sequence_start q.anchor q.tag true YAML_ANY_SEQUENCE_STYLE ∷ bs) (items_cores items (emit.sequence_end ∷ es))
  node_cores (emit.mapping_node q pairs) es = ap (λ (bs : List EventBody). event.mapping_start q.anchor q.tag true YAML_ANY_MAPPING_STYLE ∷ bs) (pairs_cores pairs (emit.mapping_end ∷ es))

  items_cores : (ns : emit.Nodes) (es : List emit.Event)
      → map core (emit.items_events ns es) ≡ items_say (trees_of ns) (map core es)
  items_cores emit.no_nodes es = refl
  items_cores (emit.node n ns) es = node_cores n (emit.items_events ns es) ∙ ap (λ (bs : List EventBody). node_says (tree_of n) bs) (items_cores ns es)

  pairs_cores : (ps : emit.Pairs) (es : List emit.Event)
      → map core (emit.pairs_events ps es) ≡ pairs_say (pair_trees_of ps) (map core es)
  pairs_cores emit.no_pairs es = refl
  pairs_cores (emit.pair k v ps) es =
      node_cores k (emit.node_events v (emit.pairs_events ps es)) ∙ ap (λ (bs : List EventBody). node_says (tree_of k) bs) (node_cores v (emit.pairs_events ps es))
      ∙ ap (λ (bs : List EventBody). node_says (tree_of k) (node_says (tree_of v) bs)) (pairs_cores ps es)

documents_cores : (ds : List emit.Document)
    → map core (emit.documents_events ds) ≡ documents_say (document_trees ds)
unfolding emit.documents_events documents_say
documents_cores [] = refl
documents_cores (d ∷ ds) =
    let start = event.document_start d.opening.version d.opening.directives true in
    ap (λ (bs : List EventBody). start ∷ bs) (node_cores d.root (emit.document_end d.implicit_end ∷ emit.documents_events ds))
    ∙ ap (λ (bs : List EventBody). start ∷ node_says (tree_of d.root) (event.document_end true ∷ bs)) (documents_cores ds)

-- what a stream's events say are its documents' trees
pub stream_trees : (es : List Told) (x : yaml_encoding_t) (ds : List emit.Document)
    → emitter_events true es ≡ emit.stream_events x ds
    → contents es ≡ stream_says (document_trees ds)
stream_trees es x ds e = grind (arith, nat_tests, cores, documents_cores)

-- and where they are a front of a stream's events, what they say is a front of what its trees do
pub front_trees : (es : List Told) (more : List emit.Event) (x : yaml_encoding_t)
    (ds : List emit.Document) → emitter_events true es ++ more ≡ emit.stream_events x ds
    → contents es ++ map core more ≡ stream_says (document_trees ds)
front_trees es more x ds e =
    ap (λ (bs : List EventBody). bs ++ map core more) (cores es) ∙ sym (map-append core (emitter_events true es) more) ∙ ap (λ (bs : List emit.Event). map core bs) e
    ∙ ap (λ (bs : List EventBody). event.stream_start YAML_ANY_ENCODING ∷ bs) (documents_cores ds)
