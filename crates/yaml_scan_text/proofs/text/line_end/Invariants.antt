use Rattle.std.proofs.Common.{◌-◌, ◌≤◌, length}
use Rattle.yaml_scan_model.specs.Runs.{is_text}
use Rattle.yaml_scan_model.proofs.RunsLemmas.{InRun}
use Rattle.yaml_scan_text.proofs.text.line_end.Given as goal

abbrev pub invariant-runs : goal.invariant-runs
invariant-runs l = record { run : InRun is_text l.text l.from l.at; inside : l.at ≤ length l.text }

abbrev pub decreases-runs : goal.decreases-runs
decreases-runs l = length l.text - l.at
