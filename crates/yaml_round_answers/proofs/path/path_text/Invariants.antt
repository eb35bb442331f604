-- The first steps are spelled, and the others are left.
use Rattle.std.proofs.Common.{◌≡◌, ◌++◌, drop}
use Rattle.yaml_round_answers.specs.Path.{path_spelled}
use Rattle.yaml_round_answers.proofs.path.path_text.Given as goal

abbrev pub invariant-loop-step : goal.invariant-loop-step
invariant-loop-step l = record { spelled : path_spelled l.fn.steps ≡ l.path.items ++ path_spelled (drop l.step-index l.steps) }
