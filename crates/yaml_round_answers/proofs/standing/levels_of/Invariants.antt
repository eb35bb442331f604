use Rattle.std.proofs.Common.{drop}
use Rattle.yaml_round_answers.proofs.Stands.{FrontLevels}
use Rattle.yaml_round_answers.proofs.standing.levels_of.Given as goal

abbrev pub invariant-loop-level : goal.invariant-loop-level
invariant-loop-level l = FrontLevels l.levels l.listed.items (drop l.level-index l.levels)
