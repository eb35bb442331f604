-- What is laid out with the styles that the content decides is its normal form. Not searched for, so that a wrong value fails by its
-- type, at once.
use Rattle.yaml_round_engine.proofs.Readably.{in_readable_form, not_readable}
use Rattle.yaml_round.proofs.normalize.yaml_normalize.Goals as goal

pub returns-in-Ok : goal.returns-in-Ok
returns-in-Ok c = in_readable_form c.args.from c.args.settings.now c.args.input.now c.in-Ok.text.items c.in-Ok.ensures.text

pub returns-in-Err : goal.returns-in-Err
returns-in-Err c = not_readable c.args.from c.args.settings.now c.args.input.now _ c.in-Err.ensures.text
