use Rattle.std.proofs.Common.{◌∙◌, [], sym, false}
use Rattle.yaml_emit_machine.proofs.Taking.{takes_stuck}
use Rattle.yaml_emit_machine.proofs.Opened.{takes_opening}
use Rattle.yaml_emit.proofs.dump.open_if_needed.Goals as goal

pub returns-in-Err-clause-takes : goal.returns-in-Err-clause-takes
returns-in-Err-clause-takes c = λ es.
    takes_opening false c.args.emitter.now c.yaml_emitter_open.new.emitter es [] (sym c.is_opened.ensures.is ∙ c.if-is_opened.false) (takes_stuck _ _ _ es c.in-Err.ensures.takes c.in-Err.ensures.stuck)
