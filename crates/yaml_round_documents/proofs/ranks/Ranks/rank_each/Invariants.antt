use Rattle.std.proofs.Common.{◌≤◌, length, Ok}
use Rattle.yaml_round_documents.specs.Ranks.{AreJudgedFrom, Ranked}
use Rattle.yaml_round_documents.proofs.ranks.Ranks.rank_each.Given as goal

abbrev pub invariant-nodes : goal.invariant-nodes
invariant-nodes l = record {
  within : l.left ≤ length l.document.nodes;
  ranked : Ranked (AreJudgedFrom l.left l.document.nodes) l.document.nodes l.initial.self (Ok l.any) l.self;
}

abbrev pub decreases-nodes : goal.decreases-nodes
decreases-nodes l = l.left
