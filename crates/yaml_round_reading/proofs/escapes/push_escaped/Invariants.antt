use Rattle.std.proofs.Common.{◌≡◌, ◌++◌, length}
use Rattle.yaml_round_reading.specs.EventLine.{escaped}
use Rattle.yaml_round_reading.proofs.escapes.push_escaped.Given as goal

-- what was pushed before the rest says the text
abbrev pub invariant-runs : goal.invariant-runs
invariant-runs l = record {
  told : l.line.items ++ escaped l.left ≡ l.fn.line.items ++ escaped l.text;
}

abbrev pub decreases-runs : goal.decreases-runs
decreases-runs l = length l.left
