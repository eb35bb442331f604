-- The content of a dump as a loader is fed it, and what is true of the nodes and the numbers of a loaded document.
use Rattle.std.specs.Prelude.{◌≡◌, ◌≤◌, ◌+◌, ◌-◌, ℕ, zero, suc, ℤ, pos, true, false, List, [], ◌∷◌, ◌++◌, length, map, take, replicate, get_or, slice_get, ◌⊎◌, Option, Some, Ok}
use Rattle.yaml_emit_graph.specs.emit_layout.parse_model.declared.yaml_scalar_style_t.TheVariants.{YAML_ANY_SCALAR_STYLE}
use Rattle.yaml_emit_graph.specs.emit_layout.parse_model.declared.yaml_sequence_style_t.TheVariants.{YAML_ANY_SEQUENCE_STYLE}
use Rattle.yaml_emit_graph.specs.emit_layout.parse_model.declared.yaml_mapping_style_t.TheVariants.{YAML_ANY_MAPPING_STYLE}
use Rattle.yaml_emit_graph.specs.scan_types.Tokens.{zero_mark}
use Rattle.yaml_emit_graph.specs.emit_layout.parse_model.Nodes.{Node, NodeBody}
use Rattle.yaml_emit_graph.specs.emit_layout.parse_model.Nodes as model
use Rattle.yaml_parse_laws_trees.specs.parse_model.Documents.{Document}
use Rattle.yaml_parse_loader.specs.Numbering.{Head, Span, Content, Contents, DocumentContent, Anchored, and_node, number_items, is_bang}
use Rattle.yaml_parse_loader.specs.Numbering as numbering
use Rattle.yaml_parse_loader.specs.Order.{VisitsInPreorder, done, again, first, IsInPreorder}
use Rattle.yaml_emit_graph.specs.emit_layout.Content as emit
use Rattle.yaml_emit_graph.specs.declared.Turn.{Turn}
use Rattle.yaml_emit_graph.specs.declared.Turn.TheVariants.{Again}
use Rattle.yaml_emit_graph.specs.Graph.{Met, number_at, anchor_of, Numbering}
use Rattle.yaml_emit_graph.specs.Onward.{items_by, content_by}

-- ---- what styles and marks are no part of

abbrev pub core_body : NodeBody → NodeBody
core_body model.no = model.no
core_body (model.scalar value style) = model.scalar value YAML_ANY_SCALAR_STYLE
core_body (model.sequence items style) = model.sequence items YAML_ANY_SEQUENCE_STYLE
core_body (model.mapping pairs style) = model.mapping pairs YAML_ANY_MAPPING_STYLE

-- a node without style and marks
abbrev pub core_node : Node → Node
core_node n = record {
  body = core_body n.body;
  tag = n.tag;
  start_mark = zero_mark;
  end_mark = zero_mark;
}

-- a document whose nodes have neither, and without marks of its own
abbrev pub core_document : Document → Document
core_document d = record {
  version = d.version;
  directives = d.directives;
  start_implicit = d.start_implicit;
  end_implicit = d.end_implicit;
  start_mark = zero_mark;
  end_mark = zero_mark;
  nodes = map core_node d.nodes;
}

-- ---- what an emitter writes, as a loader is fed it, without styles and marks

abbrev pub nowhere : Span
nowhere = record { start_mark = zero_mark; end_mark = zero_mark }

abbrev pub head_of : Option (List ℕ) → Option (List ℕ) → Head
head_of anchor tag = record {
  anchor = anchor;
  tag = tag;
  start_mark = zero_mark;
  end_mark = zero_mark;
}

abbrev mutual
  pub as_content : emit.Node → Content
  as_content (emit.alias_node name) = numbering.alias name nowhere
  as_content (emit.scalar_node x) =
      numbering.scalar (head_of x.anchor x.tag) x.value x.plain x.quoted YAML_ANY_SCALAR_STYLE
  as_content (emit.sequence_node q items) =
      numbering.sequence (head_of q.anchor q.tag) q.implicit YAML_ANY_SEQUENCE_STYLE
      (as_contents items) nowhere
  as_content (emit.mapping_node q pairs) =
      numbering.mapping (head_of q.anchor q.tag) q.implicit YAML_ANY_MAPPING_STYLE
      (as_pairs pairs) nowhere

  pub as_contents : emit.Nodes → Contents
  as_contents emit.no_nodes = numbering.no_items
  as_contents (emit.node n ns) = numbering.item (as_content n) (as_contents ns)

  pub as_pairs : emit.Pairs → numbering.Pairs
  as_pairs emit.no_pairs = numbering.no_pairs
  as_pairs (emit.pair k v ps) = numbering.pair (as_content k) (as_content v) (as_pairs ps)

abbrev pub as_document : emit.Document → DocumentContent
as_document d = record {
  version = d.opening.version;
  directives = d.opening.directives;
  start_implicit = d.opening.implicit;
  start_at = nowhere;
  root = as_content d.root;
  end_implicit = d.implicit_end;
  end_at = nowhere;
}

-- ---- nodes of loaded documents

abbrev pub HasKind : NodeBody → Type 0
HasKind model.no = ⊥
HasKind (model.scalar value style) = Unit {0}
HasKind (model.sequence items style) = Unit {0}
HasKind (model.mapping pairs style) = Unit {0}

-- a node has a kind, and its tag isn't `!`
abbrev pub IsLoadedNode : Node → Type 0
IsLoadedNode n = HasKind n.body × (is_bang n.tag ≡ false)

abbrev pub AreLoadedNodes : List Node → Type 0
AreLoadedNodes nodes = (k : ℕ) (n : Node) → slice_get nodes k ≡ Some n → IsLoadedNode n

-- a document as loading makes it: its numbers follow the first visits, each node has a kind, and no tag is `!`
pub record IsLoadedDocument (d : Document) : Type 0 where
  pub order : IsInPreorder d.nodes
  pub nodes : AreLoadedNodes d.nodes

-- ---- the nodes that are met again, and their numbers

-- what is true of each node that a derivation meets again, by its place
abbrev pub AgainsAre : (P : ℕ → Type 0) {nodes : List Node} {seen : ℕ} {ids : List ℤ} {after : ℕ}
    → VisitsInPreorder nodes seen ids after → Type 0
AgainsAre P (done s) = Unit {0}
AgainsAre P (again s k e more h v) = P k × AgainsAre P v
AgainsAre P (first s b e more n at v w) = AgainsAre P v × AgainsAre P w

-- a turn meets the node again that is at that place
abbrev pub MeetsAgain : ℕ → List Turn → Type 0
MeetsAgain k [] = ⊥
MeetsAgain k (t ∷ ts) = (t ≡ Again (pos (suc k))) ⊎ MeetsAgain k ts

-- a node has a number
abbrev pub IsNumbered : List ℕ → ℕ → Type 0
IsNumbered table k = get_or table k 0 ≡ 0 → ⊥

-- Numbers other than 0 are one node's each, and at most as many as were given.
pub record AreApart (s : Numbering) : Type 0 where
  pub bound : (k : ℕ) → get_or s.table k 0 ≤ s.given
  pub apart : (j k : ℕ) → get_or s.table j 0 ≡ get_or s.table k 0 → IsNumbered s.table j → j ≡ k

-- ---- the anchors of a dump after its first nodes

-- the first nodes are met
abbrev pub met_so : List Node → ℕ → Met
met_so nodes seen = replicate seen true ++ replicate (length nodes - seen) false

-- the nodes with an anchor among the first ones, where a table gives each node its number
unfoldable pub before_at : List ℕ → ℕ → Anchored
before_at table zero = []
before_at table (suc k) =
    and_node (anchor_of (number_at table (pos (suc k)))) (pos (suc k)) (before_at table k)

-- ---- visits that are numbered as they were

-- the items have as many nodes as there are numbers
abbrev pub AreAsMany : emit.Nodes → List ℤ → Type 0
AreAsMany emit.no_nodes [] = Unit {0}
AreAsMany emit.no_nodes (id ∷ ids) = ⊥
AreAsMany (emit.node v vs) [] = ⊥
AreAsMany (emit.node v vs) (id ∷ ids) = AreAsMany vs ids

-- What a dump says of the nodes under some numbers, after that many nodes, is numbered by the same numbers, and its nodes are
-- those of the document that follow.
pub record NumbersBack (nodes : List Node) (table : List ℕ) (f seen : ℕ) (ids : List ℤ) (after : ℕ)
    : Type 0 where
  pub items : emit.Nodes
  pub many : AreAsMany items ids
  pub same : (rest : emit.Nodes → Met → emit.Node)
      → items_by (content_by f table nodes) ids rest (met_so nodes seen)
      ≡ rest items (met_so nodes after)
  pub new : List Node
  pub gives : number_items (as_contents items) seen (before_at table seen)
      ≡ Ok (record { number = ids; nodes = new; before = before_at table after })
  pub fronts : map core_node (take seen nodes) ++ new ≡ map core_node (take after nodes)
  pub count : seen + length new ≡ after
  pub within : after ≤ length nodes
