use mir.Syntax.{w32}
use mir.Val.{SFits}
use Rattle.std.proofs.Common.{◌∙◌, ap, rules}
use Rattle.std.proofs.lemmas.Int.{to_z-of_z}
use Rattle.yaml_emit_graph.specs.Graph.{place_at}
use Rattle.yaml_round_answers.specs.Graphs.{record_in}
use Rattle.yaml_round_answers.proofs.Showing.{child_of}
use Rattle.yaml_round_answers.proofs.walk.Yaml_c_graphWalkable.next_child.Goals as goal

pub returns-in-Some : goal.returns-in-Some
returns-in-Some c =
    let g = c.args.self.now in
    let fits : SFits w32 c.args.from.node = search rules in
    let same = to_z-of_z w32 c.args.from.node fits in
    child_of g.held.now g.nodes.now c.args.from.node _ c.record_at.result c.in-Some.node c.held_by.result.now c.next_held.result (c.record_at.ensures ∙ ap (λ z. record_in g.nodes.now (place_at z)) same) c.in-Some.is c.held_by.ensures c.next_held.ensures
