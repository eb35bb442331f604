use Rattle.std.proofs.Common.{ap, option_map}
use Rattle.yaml_scan_model.specs.scan_types.Faults.{fault_of}
use Rattle.yaml_emit_machine.proofs.Taking.{inside_stuck}
use Rattle.yaml_emit_machine.proofs.emitter.answer.Goals as goal

pub returns-in-Some-clause-stuck : goal.returns-in-Some-clause-stuck
returns-in-Some-clause-stuck c = rw (← c.emitter.view_is) (inside_stuck c.emitter.inside c.emitter.invariant (fault_of c.in-Some.fault) (ap (option_map fault_of) c.in-Some.is))
