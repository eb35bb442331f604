use Rattle.std.proofs.Common.{Option, subst}
use Rattle.yaml_emit_machine.specs.scan_types.Faults.{Fault}
use Rattle.yaml_emit_machine.specs.Emitter.{Answers}
use Rattle.yaml_emit.proofs.emitter.yaml_emitter_emit.Goals as goal

pub returns : goal.returns
returns c = record {
  takes = rw c.borrowed.ensures at c.take_event.ensures.takes;
  memory = rw c.borrowed.ensures at c.take_event.ensures.memory;
  blames = rw c.borrowed.ensures at c.take_event.ensures.blames;
  tells = c.first_fault.ensures.tells;
  answer = let P : Option Fault → Type 0 = λ z. Answers z c.outcome_of.result in subst P c.first_fault.ensures.is c.outcome_of.ensures;
  stays = c.take_event.ensures.stays;
  few = c.take_event.ensures.few;
  opened = c.take_event.ensures.opened;
}
