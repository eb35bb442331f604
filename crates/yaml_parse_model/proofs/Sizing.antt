-- The sizes of a document's lists after a change.
use Rattle.std.proofs.Common.{◌≡◌, ◌≤◌, ◌<◌, ℕ, zero, suc, ℤ, List, [], ◌∷◌, ◌++◌, length, sym, subst, arith, Some, Result, Ok, Err, OnOk, refl}
use Rattle.std.specs.Prelude.{slice_get}
use Rattle.yaml_parse_model.specs.declared.node.yaml_node_pair_t.{yaml_node_pair_t}
use Rattle.yaml_scan_model.specs.declared.name.yaml_sequence_style_t.{yaml_sequence_style_t}
use Rattle.yaml_scan_model.specs.declared.name.yaml_mapping_style_t.{yaml_mapping_style_t}
use Rattle.yaml_parse_model.specs.declared.prefix.yaml_text_fault_t.{yaml_text_fault_t}
use Rattle.yaml_parse_model.specs.Nodes.{Node, NodeBody}
use Rattle.yaml_parse_model.specs.Nodes as node
use Rattle.yaml_parse_model.specs.Documents.{Document, IsDocument, IsSoundBody, HasRoomAt, with_node, with_item, with_pair, item_count, pair_count, change_place, change_body, Appends}
use Rattle.yaml_parse_model.specs.Sizes.{IsSizedBody, AreSized, IsSized}
use Rattle.yaml_parse_model.proofs.Sound.{length_push, length_change, changed_sound}

-- ---- a node more

sized_push : (ns : List Node) (x : Node) → AreSized ns → IsSizedBody x.body
    → AreSized (ns ++ x ∷ [])
sized_push [] x s h = (h, tt)
sized_push (n ∷ ns) x s h = (s.0, sized_push ns x s.1 h)

-- A node that has its size keeps a document within its own.
pub with_node_sized : (d : Document) (x : Node) → IsSized d → length d.nodes < 2147483647
    → IsSizedBody x.body → IsSized (with_node d x)
with_node_sized d x s room h = grind (arith, length_push, sized_push)

-- what a new node holds

-- No entries are within the bound.
pub nothing_listed : (0 ≤ 2147483647) × (0 ≤ 2147483647)
nothing_listed = (omega arith, omega arith)

pub no_items_sized : (items : List ℤ) (style : yaml_sequence_style_t) → items ≡ []
    → IsSizedBody (node.sequence items style)
no_items_sized items style e = subst (λ (l : List ℤ). IsSizedBody (node.sequence l style)) (sym e) nothing_listed

pub no_pairs_sized : (pairs : List yaml_node_pair_t) (style : yaml_mapping_style_t) → pairs ≡ []
    → IsSizedBody (node.mapping pairs style)
no_pairs_sized pairs style e = subst (λ (l : List yaml_node_pair_t). IsSizedBody (node.mapping l style)) (sym e) nothing_listed

-- ---- a node changed

-- an entry more in a body
abbrev pub Grows : (NodeBody → NodeBody) → (NodeBody → ℕ) → Type 0
Grows f count = (b : NodeBody) → IsSizedBody b → count b < 2147483647 → IsSizedBody (f b)

-- A list that isn't full has room for one more.
pub entry_more : {A : Type 0} (xs : List A) (x : A) → length xs < 2147483647
    → length (xs ++ x ∷ []) ≤ 2147483647
entry_more xs x h = subst (λ (n : ℕ). n ≤ 2147483647) (sym (length_push xs x)) (omega arith)

pub item_sized : (id : ℤ) → Grows (with_item id) item_count
item_sized id g s h = grind (arith, entry_more)

pub pair_sized : (p : yaml_node_pair_t) → Grows (with_pair p) pair_count
pair_sized p g s h = grind (arith, entry_more)

-- A change that keeps the node in a place sized keeps a document's nodes sized.
pub sized_change : (f : Node → Node) (k : ℕ) (ns : List Node)
    → ((x : Node) → slice_get ns k ≡ Some x → IsSizedBody x.body → IsSizedBody (f x).body)
    → AreSized ns → AreSized (change_place f k ns)
sized_change f k [] h s = tt
sized_change f zero (n ∷ ns) h s = (h n refl s.0, s.1)
sized_change f (suc k) (n ∷ ns) h s = (s.0, sized_change f k ns h s.1)

changed_sized : (f : NodeBody → NodeBody) (count : NodeBody → ℕ) (d : Document) (id : ℤ)
    → HasRoomAt count d id → Grows f count → IsSized d → IsSized (change_body f id d)
changed_sized f count d id room grows s = grind (arith, length_change, sized_change)

abbrev pub Keeps : Document → Type 0
Keeps d = IsDocument d × IsSized d

-- an appending call keeps a document sound and sized
pub appended_keeps : {A : Type 0} (f : NodeBody → NodeBody) (count : NodeBody → ℕ)
    (d new : Document) (id : ℤ) (r : Result A yaml_text_fault_t)
    → Appends d (change_body f id d) r new × OnOk r (HasRoomAt count d id)
    → ((b : NodeBody) → IsSoundBody (length d.nodes) b → IsSoundBody (length d.nodes) (f b))
    → Grows f count → Keeps d → Keeps new
appended_keeps f count d new id (Ok x) h sound grows s =
    subst Keeps (sym h.0) (changed_sound d f id sound s.0, changed_sized f count d id h.1 grows s.1)
appended_keeps f count d new id (Err e) h sound grows s = subst Keeps (sym h.0.0) s
