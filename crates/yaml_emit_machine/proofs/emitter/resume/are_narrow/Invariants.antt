use Rattle.std.proofs.Common.{◌≡◌, true, take}
use Rattle.std.specs.List.{list_all}
use Rattle.yaml_emit_machine.specs.Resuming.{is_narrow}
use Rattle.yaml_emit_machine.proofs.emitter.resume.are_narrow.Given as goal

abbrev pub invariant-loop-i : goal.invariant-loop-i
invariant-loop-i l = list_all is_narrow (take l.i l.levels) ≡ true
