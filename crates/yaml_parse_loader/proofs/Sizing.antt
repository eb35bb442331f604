-- Every event that finds room leaves a document in the making sized, and the document that it ends is sized.
use Rattle.std.proofs.Common.{ℤ, List, Option, arith, rules}
use Rattle.yaml_parse_model.specs.declared.yaml_mark_t.{yaml_mark_t}
use Rattle.yaml_parse_model.specs.Events.{EventBody}
use Rattle.yaml_parse_model.specs.Events as event
use Rattle.yaml_parse_model.specs.Nodes.{Node, NodeBody}
use Rattle.yaml_parse_model.specs.Sizes.{IsSizedBody, IsSized}
use Rattle.yaml_parse_model.proofs.Sizing.{with_node_sized, entry_more, nothing_listed, sized_change}
use Rattle.yaml_parse_model.proofs.Sound.{length_change}
use Rattle.yaml_parse_loader.specs.Anchors.{Anchors}
use Rattle.yaml_parse_loader.specs.Loading.{Open, Loading, nothing_loaded, attached, attach, with_leaf, with_open, filled_body, closed, LoadStep, goes_on, loaded, refused, aliased, step_body}
use Rattle.yaml_parse_loader.specs.Sizes.{HasRoom, HaveRoom, HasRoomForNode, HasRoomFor, IsSizedOpen, AreSizedOpen, IsSizedLoading}

abbrev pub FedSized : LoadStep → Type 0
FedSized (goes_on l) = IsSizedLoading l
FedSized (loaded d) = IsSized d
FedSized (refused f) = Unit {0}

-- ---- a number more

attached_sized : (id : ℤ) (o : Open) → HasRoom o → IsSizedOpen o → IsSizedOpen (attached id o)
attached_sized id o h s = grind (arith, entry_more)

attach_sized : (id : ℤ) (os : List Open) → HaveRoom os → AreSizedOpen os
    → AreSizedOpen (attach id os)
attach_sized id os h s = grind (arith, attached_sized)

-- ---- a node more

leaf_sized : (l : Loading) (n : Node) (known : Anchors) → HasRoomForNode l → IsSizedBody n.body
    → IsSizedLoading l → IsSizedLoading (with_leaf l n known)
leaf_sized l n known h b s = search (rules, with_node_sized, attach_sized)

open_sized : (l : Loading) (n : Node) (o : Open) (known : Anchors) → HasRoomForNode l
    → IsSizedBody n.body → IsSizedOpen o → IsSizedLoading l → IsSizedLoading (with_open l n o known)
open_sized l n o known h b empty s =
    let leaf : IsSizedLoading (with_leaf l n known) = leaf_sized l n known h b s in
    record { document = leaf.document; levels = (empty, leaf.levels) }

-- ---- a collection's end

filled_sized : (o : Open) (b : NodeBody) → IsSizedOpen o → IsSizedBody b
    → IsSizedBody (filled_body o b)
filled_sized o b s h = grind arith

closed_sized : (to : yaml_mark_t) (l : Loading) (os : List Open) → IsSizedLoading l
    → AreSizedOpen os → IsSizedLoading (closed to l os)
closed_sized to l os s h = grind (arith, length_change, sized_change, filled_sized)

-- ---- each event

aliased_sized : (o : Option ℤ) (from : yaml_mark_t) (l : Loading) → HaveRoom l.levels
    → IsSizedLoading l → FedSized (aliased o from l)
aliased_sized o from l h s = grind (arith, attach_sized)

pub nothing_sized : IsSizedLoading nothing_loaded
nothing_sized = record { document = record { nodes = omega arith; entries = tt }; levels = tt }

pub step_sized : (b : EventBody) (from to : yaml_mark_t) (l : Loading) → IsSizedLoading l
    → HasRoomFor b l → FedSized (step_body b from to l)
step_sized (event.document_start version directives implicit) from to l s h = record { document = record { nodes = omega arith; entries = tt }; levels = tt }
step_sized (event.document_end implicit) from to l s h = record { nodes = s.document.nodes; entries = s.document.entries }
step_sized (event.alias name) from to l s h = aliased_sized _ from l h s
step_sized (event.scalar anchor tag value plain quoted style) from to l s h = leaf_sized l _ _ h nothing_listed s
step_sized (event.sequence_start anchor tag implicit style) from to l s h = open_sized l _ _ _ h nothing_listed (omega arith) s
step_sized event.sequence_end from to l s h = closed_sized to l l.levels s s.levels
step_sized (event.mapping_start anchor tag implicit style) from to l s h = open_sized l _ _ _ h nothing_listed (omega arith) s
step_sized event.mapping_end from to l s h = closed_sized to l l.levels s s.levels
step_sized _ from to l s h = s
