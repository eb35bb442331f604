use Rattle.std.proofs.Common.{◌≡◌, map, drop, length}
use Rattle.yaml_emit_graph.specs.Graph.{body_of_id, child_ids, number_at}
use Rattle.yaml_round_documents.specs.Ranks.{with_held}
use Rattle.yaml_round_documents.specs.Shapes.{list_of}
use Rattle.yaml_round_documents.proofs.shape.put_held.Given as goal

-- what is still to come
abbrev pub invariant-held : goal.invariant-held
invariant-held l =
    with_held (list_of l.initial.room) (map (number_at l.ranks) (child_ids (body_of_id l.document.nodes l.id)))
    ≡ with_held (list_of l.room) (map (number_at l.ranks) (drop l.index (child_ids (body_of_id l.document.nodes l.id))))

abbrev pub decreases-held : goal.decreases-held
decreases-held l = length (drop l.index (child_ids (body_of_id l.document.nodes l.id)))
