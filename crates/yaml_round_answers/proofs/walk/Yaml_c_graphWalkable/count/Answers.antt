use Rattle.std.proofs.Common.{sym}
use Rattle.std.proofs.lemmas.List.{length-map}
use Rattle.yaml_round_answers.specs.Graphs.{stand_in}
use Rattle.yaml_round_answers.proofs.walk.Yaml_c_graphWalkable.count.Goals as goal

pub returns : goal.returns
returns c = sym (length-map c.args.self.now.nodes.now (stand_in c.args.self.now.held.now))
