use Rattle.std.proofs.Common.{Bool, subst}
use Rattle.yaml_round_engine.specs.Writing.{IsUnder, requested_under}
use Rattle.yaml_round_engine.proofs.Laying.{wrote, began, where_ok}
use Rattle.yaml_round_engine.proofs.Judging.{not_written}
use Rattle.yaml_round_engine.proofs.text.written_from.Goals as goal

pub returns-in-Err-clause-text : goal.returns-in-Err-clause-text
returns-in-Err-clause-text c = not_written c.args.form.now c.args.text.now.from c.args.settings.now c.args.text.now.bytes c.args.reading.now.parser c.in-Err.fault c.requires.reads c.in-Err.ensures

pub returns-in-Ok-clause-text : goal.returns-in-Ok-clause-text
returns-in-Ok-clause-text c =
    let under = subst (λ (b : Bool). IsUnder c.in_ok-emitter.emitter (requested_under c.args.settings.now b) c.args.settings.now.limit) c.is_canonical.ensures c.in_ok-emitter.ensures.under in
    wrote c.args.text.now.from c.args.text.now.bytes c.args.settings.now c.args.form.now c.write_events-written.new.form c.args.reading.now.parser c.in_ok-emitter.emitter c.write_events-written.new.emitter c.finished-output.result
    c.requires.reads under c.in-Ok.ensures c.finished-output.ensures

pub returns-in-Ok-clause-beginning : goal.returns-in-Ok-clause-beginning
returns-in-Ok-clause-beginning c =
    where_ok c.finished-output.result (began c.args.text.now.from c.args.text.now.bytes c.args.form.now c.write_events-written.new.form c.args.reading.now.parser c.in_ok-emitter.emitter c.write_events-written.new.emitter
    c.requires.reads c.in-Ok.ensures.1)
