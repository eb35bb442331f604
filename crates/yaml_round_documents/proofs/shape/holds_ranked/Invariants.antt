use Rattle.std.proofs.Common.{◌≡◌, drop, length}
use Rattle.yaml_emit_graph.specs.Graph.{body_of_id, child_ids}
use Rattle.yaml_round_documents.specs.Ranks.{all_ranked}
use Rattle.yaml_round_documents.proofs.shape.holds_ranked.Given as goal

-- what is left decides
abbrev pub invariant-held : goal.invariant-held
invariant-held l = all_ranked l.ranks (child_ids (body_of_id l.document.nodes l.id))
    ≡ all_ranked l.ranks (drop l.index (child_ids (body_of_id l.document.nodes l.id)))

abbrev pub decreases-held : goal.decreases-held
decreases-held l = length (drop l.index (child_ids (body_of_id l.document.nodes l.id)))
