-- Documents: nodes that name each other by number.
use Rattle.std.specs.Prelude.{◌≡◌, ◌≤◌, ◌<◌, ℕ, zero, suc, ℤ, pos, Bool, Option, Some, None, List, [], ◌∷◌, ◌++◌, length, slice_get, Result, Ok, Err, IsUtf8, false}
use Rattle.yaml_scan_model.specs.declared.record.yaml_mark_t.{yaml_mark_t}
use Rattle.yaml_scan_model.specs.declared.record.yaml_version_directive_t.{yaml_version_directive_t}
use Rattle.yaml_scan_model.specs.declared.name.yaml_scalar_style_t.{yaml_scalar_style_t}
use Rattle.yaml_scan_model.specs.declared.name.yaml_sequence_style_t.{yaml_sequence_style_t}
use Rattle.yaml_scan_model.specs.declared.name.yaml_mapping_style_t.{yaml_mapping_style_t}
use Rattle.yaml_scan_model.specs.scan_types.Tokens.{zero_mark}
use Rattle.yaml_parse_model.specs.declared.node.yaml_node_pair_t.{yaml_node_pair_t}
use Rattle.yaml_parse_model.specs.declared.prefix.yaml_text_fault_t.{yaml_text_fault_t}
use Rattle.yaml_parse_model.specs.declared.prefix.yaml_text_fault_t.TheVariants.{NotUtf8, Memory}
use Rattle.yaml_parse_model.specs.Events.{TagDirective}
use Rattle.yaml_parse_model.specs.Constructors.{AreUtf8}
use Rattle.yaml_parse_model.specs.Nodes.{Node, NodeBody}
pub use Rattle.yaml_parse_model.specs.Nodes.{str_tag, seq_tag, map_tag}
use Rattle.yaml_parse_model.specs.Nodes as node

-- a document; its nodes are under the numbers 1, 2, 3 .., and the first is the root
pub record Document : Type 0 where
  pub version : Option yaml_version_directive_t
  pub directives : List TagDirective
  pub start_implicit : Bool
  pub end_implicit : Bool
  pub start_mark : yaml_mark_t
  pub end_mark : yaml_mark_t
  pub nodes : List Node

-- the node under a number
abbrev pub node_at : List Node → ℤ → Option Node
node_at nodes (pos (suc k)) = slice_get nodes k
node_at nodes _ = None

-- a number that names one of that many nodes
abbrev pub IsId : ℕ → ℤ → Type 0
IsId count (pos (suc k)) = suc k ≤ count
IsId count _ = ⊥

abbrev pub AreIds : ℕ → List ℤ → Type 0
AreIds count [] = Unit {0}
AreIds count (id ∷ ids) = IsId count id × AreIds count ids

abbrev pub ArePairs : ℕ → List yaml_node_pair_t → Type 0
ArePairs count [] = Unit {0}
ArePairs count (p ∷ ps) = (IsId count p.key × IsId count p.value) × ArePairs count ps

-- what a node holds is UTF-8, or names nodes
abbrev pub IsSoundBody : ℕ → NodeBody → Type 0
IsSoundBody count node.no = Unit {0}
IsSoundBody count (node.scalar value style) = IsUtf8 value
IsSoundBody count (node.sequence items style) = AreIds count items
IsSoundBody count (node.mapping pairs style) = ArePairs count pairs

abbrev pub IsSoundNode : ℕ → Node → Type 0
IsSoundNode count n = IsUtf8 n.tag × IsSoundBody count n.body

abbrev pub AreSound : ℕ → List Node → Type 0
AreSound count [] = Unit {0}
AreSound count (n ∷ ns) = IsSoundNode count n × AreSound count ns

-- what a number names, if it names a node, is sound
abbrev pub IsSoundAt : ℕ → Option Node → Type 0
IsSoundAt count None = Unit {0}
IsSoundAt count (Some n) = IsSoundNode count n

-- the texts of a document are UTF-8, and its numbers name its nodes
pub record IsDocument (d : Document) : Type 0 where
  pub directives : AreUtf8 d.directives
  pub nodes : AreSound (length d.nodes) d.nodes

-- a document without nodes and with zero marks
abbrev pub new_document : Option yaml_version_directive_t → List TagDirective → Bool → Bool
    → Document
new_document version directives start_implicit end_implicit = record {
  version = version;
  directives = directives;
  start_implicit = start_implicit;
  end_implicit = end_implicit;
  start_mark = zero_mark;
  end_mark = zero_mark;
  nodes = [];
}

-- the document that marks the end: no root, no directives, explicit marks
abbrev pub no_document : Document
no_document = new_document None [] false false

abbrev pub IsNewDocument : Document → Result Document yaml_text_fault_t → Type 0
IsNewDocument new (Ok d) = (d ≡ new) × AreUtf8 new.directives
IsNewDocument new (Err NotUtf8) = ¬ AreUtf8 new.directives
IsNewDocument new (Err Memory) = AreUtf8 new.directives

-- the tag that is given, else the default tag
abbrev pub tag_or : Option (List ℕ) → List ℕ → List ℕ
tag_or None default = default
tag_or (Some tag) default = tag

-- nodes with zero marks; without a tag they have the default tag of their kind
abbrev pub unplaced : NodeBody → List ℕ → Node
unplaced body tag = record { body = body; tag = tag; start_mark = zero_mark; end_mark = zero_mark }

abbrev pub new_scalar : Option (List ℕ) → List ℕ → yaml_scalar_style_t → Node
new_scalar tag value style = unplaced (node.scalar value style) (tag_or tag str_tag)

abbrev pub new_sequence : Option (List ℕ) → yaml_sequence_style_t → Node
new_sequence tag style = unplaced (node.sequence [] style) (tag_or tag seq_tag)

abbrev pub new_mapping : Option (List ℕ) → yaml_mapping_style_t → Node
new_mapping tag style = unplaced (node.mapping [] style) (tag_or tag map_tag)

-- the document with one node more, under the next number
abbrev pub with_node : Document → Node → Document
with_node d n = record d { nodes = d.nodes ++ n ∷ [] }

-- an adding call gives the new node's number; that a text isn't UTF-8, exactly where one isn't; else out of memory. Only
-- where it gives a number the document changes
abbrev pub Adds : Document → Node → Type 0 → Result ℤ yaml_text_fault_t → Document → Type 0
Adds old n IsUtf8Texts (Ok id) new = (new ≡ with_node old n) × (id ≡ pos (suc (length old.nodes)))
    × IsUtf8Texts
Adds old n IsUtf8Texts (Err NotUtf8) new = (new ≡ old) × ¬ IsUtf8Texts
Adds old n IsUtf8Texts (Err Memory) new = (new ≡ old) × IsUtf8Texts

-- the nodes, that at a place changed
abbrev pub change_place : (Node → Node) → ℕ → List Node → List Node
change_place f k [] = []
change_place f zero (n ∷ ns) = f n ∷ ns
change_place f (suc k) (n ∷ ns) = n ∷ change_place f k ns

-- the nodes, that under a number changed
abbrev pub change_node : (Node → Node) → ℤ → List Node → List Node
change_node f (pos (suc k)) nodes = change_place f k nodes
change_node f _ nodes = nodes

-- a sequence with one item more, a mapping with one pair more
abbrev pub with_item : ℤ → NodeBody → NodeBody
with_item id (node.sequence items style) = node.sequence (items ++ id ∷ []) style
with_item id body = body

abbrev pub with_pair : yaml_node_pair_t → NodeBody → NodeBody
with_pair p (node.mapping pairs style) = node.mapping (pairs ++ p ∷ []) style
with_pair p body = body

-- the document whose node under that number has its body changed, and nothing else
abbrev pub change_body : (NodeBody → NodeBody) → ℤ → Document → Document
change_body f id d = record d { nodes = change_node (λ n. record n { body = f n.body }) id d.nodes }

-- the kind of the node under a number
abbrev pub IsSequenceBody : NodeBody → Type 0
IsSequenceBody (node.sequence items style) = Unit {0}
IsSequenceBody _ = ⊥

abbrev pub IsMappingBody : NodeBody → Type 0
IsMappingBody (node.mapping pairs style) = Unit {0}
IsMappingBody _ = ⊥

abbrev pub IsKindAt : (NodeBody → Type 0) → Option Node → Type 0
IsKindAt IsKind None = ⊥
IsKindAt IsKind (Some n) = IsKind n.body

abbrev pub IsSequenceAt : Document → ℤ → Type 0
IsSequenceAt d id = IsKindAt IsSequenceBody (node_at d.nodes id)

abbrev pub IsMappingAt : Document → ℤ → Type 0
IsMappingAt d id = IsKindAt IsMappingBody (node_at d.nodes id)

-- how many entries a list of a document has at most
abbrev pub most_entries : ℕ
most_entries = 2147483647

-- how many items or pairs a node holds
abbrev pub item_count : NodeBody → ℕ
item_count (node.sequence items style) = length items
item_count _ = zero

abbrev pub pair_count : NodeBody → ℕ
pair_count (node.mapping pairs style) = length pairs
pair_count _ = zero

-- the node under a number has room for an entry more: it holds fewer than `most_entries` of what is counted
abbrev pub HasRoomAt : (NodeBody → ℕ) → Document → ℤ → Type 0
HasRoomAt count d id = IsKindAt (λ b. count b < most_entries) (node_at d.nodes id)

-- an appending call changes one node, or finds no memory and changes nothing
abbrev pub Appends : {A : Type 0} → Document → Document → Result A yaml_text_fault_t → Document
    → Type 0
Appends old changed (Ok _) new = new ≡ changed
Appends old changed (Err f) new = (new ≡ old) × (f ≡ Memory)
