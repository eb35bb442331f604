use Rattle.std.proofs.Common.{◌≡◌, map, take}
use Rattle.yaml_cli_main.specs.Asked.{cause_of, shown_cause}
use Rattle.yaml_cli_main.proofs.differences.shown_told.Given as goal

abbrev pub invariant-loop-place : goal.invariant-loop-place
invariant-loop-place l = map shown_cause l.list.items ≡ map cause_of (take l.place l.told)
