use Rattle.std.proofs.Common.{◌≡◌, ◌∙◌, sym, pos, suc, w32}
use Rattle.std.proofs.lemmas.Int.{to_z-of_z}
use Rattle.yaml_parse_model.proofs.Sound.{node_lent, sound_at}
use Rattle.yaml_parse_model.proofs.document.yaml_document_get_node.Goals as goal

pub returns-clause-is : goal.returns-clause-is
returns-clause-is c =
    let at_place : c.args.index ≡ pos (suc c.node_place.result) = sym (to_z-of_z w32 c.args.index c.ranges.index) ∙ c.node_place.ensures in
    rw (← c.document.view_is, at_place) (node_lent _ _ c.node_place.result (rw c.deref.ensures.value at c.get.ensures.lookup))

pub returns-clause-sound : goal.returns-clause-sound
returns-clause-sound c = rw (← c.document.view_is) (sound_at _ _ c.args.index c.document.invariant.0.nodes)
