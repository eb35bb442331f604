use Rattle.std.proofs.Common.{◌-◌, length}
use Rattle.yaml_emit_graph.specs.Numbers.{counted}
use Rattle.yaml_round_documents.specs.Ranks.{RanksOn}
use Rattle.yaml_round_documents.proofs.ranks.Ranks.rank_all.Given as goal

abbrev pub invariant-passes : goal.invariant-passes
invariant-passes l = RanksOn l.document.nodes l.initial.self l.self

abbrev pub decreases-passes : goal.decreases-passes
decreases-passes l = length l.document.nodes - counted l.self.table.items
