use Rattle.std.proofs.Common.{refl, rules, true}
use Rattle.yaml_emit_graph.proofs.Walking.{root_met}
use Rattle.yaml_emit_graph.proofs.walk.Walk.next.Goals as goal

pub returns : goal.returns
returns g c = root_met _ c.args.self.now (record c.args.self.now { started = true }) _ _ (search rules) c.requires refl refl refl c.in_ok-visit.ensures
