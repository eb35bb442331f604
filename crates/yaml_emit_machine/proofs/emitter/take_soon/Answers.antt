use Rattle.std.proofs.Common.{ap, option_map}
use Rattle.yaml_scan_model.specs.scan_types.Faults.{fault_of}
use Rattle.yaml_emit_machine.proofs.Taking.{inside_still}
use Rattle.yaml_emit_machine.proofs.emitter.take_soon.Goals as goal

pub returns-in-Some-clause-takes : goal.returns-in-Some-clause-takes
returns-in-Some-clause-takes c = rw (← c.emitter.view_is) (inside_still c.emitter.inside c.emitter.invariant _ (ap (option_map fault_of) c.in-Some.is) _)
