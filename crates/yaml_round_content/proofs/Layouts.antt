-- The canonical layout of a stream is that of its content.
use Rattle.std.proofs.Common.{◌≡◌, ℕ, Bool, true, false, not, List, [], ◌∷◌, Option, None, refl, sym, ap, subst, ◌∙◌, arith}
use Rattle.yaml_round_content.proofs.Words.{nat_tests, or-true, yaml_encoding_t, YAML_ANY_ENCODING, yaml_scalar_style_t, EventBody, Told, Settings, Layout, ◌▹◌, node_layout, IsEmittable, normalize_scalar, normalize_body, emitter_events, events_of, written_node, written_nodes, written_pairs, AreFlagged, LayoutIsOfContent, ContentIsLaidOut, order_mark, written, root_position, start_layout, end_layout, documents_layout, stream_layout, written_scalar, written_documents, canon_items, IsSet, IsFlaggedScalar}
use Rattle.yaml_emit_laws.specs.emit_layout.declared.Encoding.{Encoding}
use Rattle.yaml_emit_laws.specs.emit_layout.declared.RequestedSettings.{RequestedSettings}
use Rattle.yaml_emit_laws.specs.emit_layout.Settings.{settled, settled_encoding}
use Rattle.yaml_emit_laws.specs.emit_layout.Text.{Item}
use Rattle.yaml_emit_laws.specs.emit_layout.Streams.{IsStream}
use Rattle.yaml_emit_laws.specs.emit_layout.Content as emit
use Rattle.yaml_round_content.proofs.Injective.{says_injective}
use Rattle.yaml_round_content.proofs.Trees.{mark_of, tree_of, trees_of, pair_trees_of, document_trees, stream_trees}
use Rattle.yaml_round_content.proofs.ContentInputs.{input_stream}
use Rattle.yaml_round_content.proofs.Bare.{canonical_settings, canonically, bare_scalar, bare_node, bare_nodes, bare_pairs, node_same}

-- ---- flags

abbrev mutual
  pub NodeFlagged : emit.Node → Type 0
  NodeFlagged (emit.alias_node name) = Unit {0}
  NodeFlagged (emit.scalar_node x) = IsFlaggedScalar x
  NodeFlagged (emit.sequence_node q items) = NodesFlagged items
  NodeFlagged (emit.mapping_node q pairs) = PairsFlagged pairs

  pub NodesFlagged : emit.Nodes → Type 0
  NodesFlagged emit.no_nodes = Unit {0}
  NodesFlagged (emit.node n ns) = NodeFlagged n × NodesFlagged ns

  pub PairsFlagged : emit.Pairs → Type 0
  PairsFlagged emit.no_pairs = Unit {0}
  PairsFlagged (emit.pair k v ps) = NodeFlagged k × NodeFlagged v × PairsFlagged ps

mutual
  unfolding emit.node_events emit.items_events emit.pairs_events

  node_flagged : (n : emit.Node) (es : List emit.Event) → AreFlagged (emit.node_events n es)
      → NodeFlagged n × AreFlagged es
  node_flagged (emit.alias_node name) es (h, hs) = (tt, hs)
  node_flagged (emit.scalar_node x) es (h, hs) = (h, hs)
  node_flagged (emit.sequence_node q items) es (h, hs) = let (f, rest) = items_flagged items (emit.sequence_end ∷ es) hs in (f, rest.1)
  node_flagged (emit.mapping_node q pairs) es (h, hs) = let (f, rest) = pairs_flagged pairs (emit.mapping_end ∷ es) hs in (f, rest.1)

  items_flagged : (ns : emit.Nodes) (es : List emit.Event) → AreFlagged (emit.items_events ns es)
      → NodesFlagged ns × AreFlagged es
  items_flagged emit.no_nodes es hs = (tt, hs)
  items_flagged (emit.node n ns) es hs =
      let (f, rest) = node_flagged n (emit.items_events ns es) hs in
      let (fs, more) = items_flagged ns es rest in
      ((f, fs), more)

  pairs_flagged : (ps : emit.Pairs) (es : List emit.Event) → AreFlagged (emit.pairs_events ps es)
      → PairsFlagged ps × AreFlagged es
  pairs_flagged emit.no_pairs es hs = (tt, hs)
  pairs_flagged (emit.pair k v ps) es hs =
      let (f, rest) = node_flagged k (emit.node_events v (emit.pairs_events ps es)) hs in
      let (g, more) = node_flagged v (emit.pairs_events ps es) rest in
      let (fs, last) = pairs_flagged ps es more in
      ((f, g, fs), last)

-- ---- nodes

-- a scalar without flags but one is what its tree is written as
scalar_written : (anchor tag : Option (List ℕ)) (value : List ℕ) (plain quoted : Bool)
    (style : yaml_scalar_style_t) → (tag ≡ None → quoted ≡ not plain)
    → bare_scalar (record {
      anchor = anchor;
      tag = tag;
      value = value;
      plain = plain;
      quoted =
          quoted;
      style = style;
    }) ≡ written_scalar anchor (mark_of tag plain) value
scalar_written anchor tag value plain quoted style h = grind (arith, nat_tests)

mutual
  node_written : (n : emit.Node) → NodeFlagged n → bare_node n ≡ written_node (tree_of n)
  node_written (emit.alias_node name) h = refl
  node_written (emit.scalar_node x) h = ap (λ (y : emit.Scalar). emit.scalar_node y) (scalar_written x.anchor x.tag x.value x.plain x.quoted x.style h)
  node_written (emit.sequence_node q items) h = ap (λ (y : emit.Nodes). emit.sequence_node (record { anchor = q.anchor; tag = q.tag; implicit = false; flow = false }) y) (items_written items h)
  node_written (emit.mapping_node q pairs) h = ap (λ (y : emit.Pairs). emit.mapping_node (record { anchor = q.anchor; tag = q.tag; implicit = false; flow = false }) y) (pairs_written pairs h)

  items_written : (ns : emit.Nodes) → NodesFlagged ns → bare_nodes ns ≡ written_nodes (trees_of ns)
  items_written emit.no_nodes h = refl
  items_written (emit.node n ns) (h, hs) = ap (λ (y : emit.Node). emit.node y (bare_nodes ns)) (node_written n h) ∙ ap (λ (y : emit.Nodes). emit.node (written_node (tree_of n)) y) (items_written ns hs)

  pairs_written : (ps : emit.Pairs) → PairsFlagged ps
      → bare_pairs ps ≡ written_pairs (pair_trees_of ps)
  pairs_written emit.no_pairs h = refl
  pairs_written (emit.pair k v ps) (hk, hv, hs) =
      ap (λ (y : emit.Node). emit.pair y (bare_node v) (bare_pairs ps)) (node_written k hk)
      ∙ ap (λ (y : emit.Node). emit.pair (written_node (tree_of k)) y (bare_pairs ps)) (node_written v hv)
      ∙ ap (λ (y : emit.Pairs). emit.pair (written_node (tree_of k)) (written_node (tree_of v)) y) (pairs_written ps hs)

-- ---- documents

-- every end is implicit
abbrev IsImplicit : emit.Event → Type 0
IsImplicit (emit.document_end implicit) = implicit ≡ true
IsImplicit other = Unit {0}

abbrev AreImplicit : List emit.Event → Type 0
AreImplicit [] = Unit {0}
AreImplicit (e ∷ es) = IsImplicit e × AreImplicit es

normalized_implicit : (lone : Bool) (anchor tag : Option (List ℕ)) (value : List ℕ)
    (plain quoted : Bool) (style : yaml_scalar_style_t)
    → IsImplicit (emit.emitter_event (normalize_scalar lone anchor tag value plain quoted style))
normalized_implicit lone anchor tag value plain quoted style = grind (arith, nat_tests)

body_implicit : (b : EventBody) → IsImplicit (emit.emitter_event (normalize_body true b))
body_implicit b = grind (arith, nat_tests, or-true, normalized_implicit)

said_implicit : (es : List Told) → AreImplicit (emitter_events true es)
said_implicit [] = tt
said_implicit (t ∷ ts) = (body_implicit t.0.body, said_implicit ts)

mutual
  unfolding emit.node_events emit.items_events emit.pairs_events

  behind_node : (n : emit.Node) (es : List emit.Event) → AreImplicit (emit.node_events n es)
      → AreImplicit es
  behind_node (emit.sequence_node q items) es (h, hs) = (behind_items items (emit.sequence_end ∷ es) hs).1
  behind_node (emit.mapping_node q pairs) es (h, hs) = (behind_pairs pairs (emit.mapping_end ∷ es) hs).1
  behind_node _ es (h, hs) = hs

  behind_items : (ns : emit.Nodes) (es : List emit.Event) → AreImplicit (emit.items_events ns es)
      → AreImplicit es
  behind_items emit.no_nodes es hs = hs
  behind_items (emit.node n ns) es hs = behind_items ns es (behind_node n (emit.items_events ns es) hs)

  behind_pairs : (ps : emit.Pairs) (es : List emit.Event) → AreImplicit (emit.pairs_events ps es)
      → AreImplicit es
  behind_pairs emit.no_pairs es hs = hs
  behind_pairs (emit.pair k v ps) es hs = behind_pairs ps es (behind_node v (emit.pairs_events ps es) (behind_node k (emit.node_events v (emit.pairs_events ps es)) hs))

-- what is known of the documents of such events
abbrev pub Normalize : List emit.Document → Type 0
Normalize [] = Unit {0}
Normalize (d ∷ ds) = NodeFlagged d.root × (d.implicit_end ≡ true) × Normalize ds

documents_even : (ds : List emit.Document) → AreFlagged (emit.documents_events ds)
    → AreImplicit (emit.documents_events ds) → Normalize ds
unfolding emit.documents_events
documents_even [] f h = tt
documents_even (d ∷ ds) (f, fs) (h, hs) =
    let after = emit.document_end d.implicit_end ∷ emit.documents_events ds in
    let (root, more) = node_flagged d.root after fs in
    let (end, rest) = behind_node d.root after hs in
    (root, end, documents_even ds more.1 rest)

document_same : (s : Settings) (first unended : Bool) (d : emit.Document) (ds : List emit.Document)
    → NodeFlagged d.root → d.implicit_end ≡ true
    → documents_layout (canonical_settings s) false true ds
    ≡ documents_layout (canonical_settings s) false true (written_documents (document_trees ds))
    → documents_layout (canonical_settings s) first unended (d ∷ ds)
    ≡ documents_layout (canonical_settings s) first unended
    (written_documents (document_trees (d ∷ ds)))
unfolding documents_layout start_layout
document_same s first unended d ds flagged end more =
    let z = canonical_settings s in
    let o = d.opening in
    let begun = start_layout z first unended o in
    ap (λ (b : Bool). begun ▹ (node_layout (canonically s o.directives) root_position d.root ▹ (end_layout z b ▹ documents_layout z false b ds))) end
    ∙ ap (λ (a : Layout). begun ▹ (a ▹ (end_layout z true ▹ documents_layout z false true ds))) (node_same s o.directives d.root root_position ∙ ap (λ (y : emit.Node). node_layout (canonically s o.directives) root_position y) (node_written d.root flagged))
    ∙ ap (λ (a : Layout). begun ▹ (node_layout (canonically s o.directives) root_position (written_node (tree_of d.root)) ▹ (end_layout z true ▹ a))) more

documents_same : (s : Settings) (first unended : Bool) (ds : List emit.Document) → Normalize ds
    → documents_layout (canonical_settings s) first unended ds
    ≡ documents_layout (canonical_settings s) first unended (written_documents (document_trees ds))
documents_same s first unended [] h = refl
documents_same s first unended (d ∷ ds) (flagged, end, more) = document_same s first unended d ds flagged end (documents_same s false true ds more)

abbrev Same : List emit.Document → Settings → Type 0
Same ds s = stream_layout s ds ≡ stream_layout s (written_documents (document_trees ds))

stream_same : (s : Settings) (ds : List emit.Document) → Normalize ds
    → Same ds (canonical_settings s)
unfolding stream_layout
stream_same s ds h = ap (λ (a : Layout). order_mark s.encoding ▹ a) (documents_same s true false ds h)

-- settings with canonical form are their own
pub canonical_is : (s : Settings) → s.canonical ≡ true → canonical_settings s ≡ s
canonical_is s e = ap (λ (b : Bool). record { encoding = s.encoding; canonical = b; indent = s.indent; width = s.width; unicode = s.unicode; line_break = s.line_break }) (sym e)

-- ---- settings

encoding_fixed : (wish stream : yaml_encoding_t) → IsSet wish
    → settled_encoding wish stream ≡ settled_encoding wish YAML_ANY_ENCODING
encoding_fixed wish stream h = grind (arith, nat_tests)

settled_fixed : (w : RequestedSettings) (stream : yaml_encoding_t) → IsSet w.encoding
    → settled w stream ≡ settled w YAML_ANY_ENCODING
settled_fixed w stream h = grind (arith, nat_tests, encoding_fixed)

-- ---- the laws

-- the layout of such documents is that of their trees
pub normal_layout : (w : RequestedSettings) → w.canonical ≡ true → (ds : List emit.Document)
    → Normalize ds
    → stream_layout (settled w YAML_ANY_ENCODING) ds
    ≡ stream_layout (settled w YAML_ANY_ENCODING) (written_documents (document_trees ds))
normal_layout w e ds h = let s = settled w YAML_ANY_ENCODING in subst (Same ds) (canonical_is s e) (stream_same s ds h)

pub layouts_of_content : LayoutIsOfContent
layouts_of_content w right es flagged c says x whole stream = grind (arith, nat_tests, says_injective, stream_trees, documents_even, said_implicit, normal_layout, settled_fixed)

pub content_laid_out : ContentIsLaidOut
content_laid_out w right from input flagged c has =
    let es = events_of from input in
    let r = subst (λ (b : Bool). IsEmittable b (emitter_events true es)) (sym right.canonical) (input_stream from input true has.right) in
    let whole = written (stream_layout (settled w r.encoding) r.documents) in
    let x = (settled w r.encoding).encoding in
    let is : IsStream w x (emitter_events true es) whole = record { encoding = r.encoding; documents = r.documents; coded = refl; same = r.same; right = r.right; is = refl } in
    let (coded, laid) = layouts_of_content w right es flagged c has.says x whole is in
    subst (λ (y : Encoding). IsStream w y (emitter_events true es) (canon_items w c)) coded (subst (λ (t : List Item). IsStream w x (emitter_events true es) t) laid is)
