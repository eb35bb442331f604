-- The text reads back, unless the input begins with nothing.
use Rattle.std.proofs.Common.{◌∙◌, sym}
use Rattle.std.proofs.lemmas.Result.{err_from_is_err_and}
use Rattle.yaml_round_engine.specs.declared.beginning.Beginning.TheVariants as known
use Rattle.yaml_round_engine.proofs.Laying.{refused_in_pretty}
use Rattle.yaml_round_engine.proofs.Staying.{in_pretty}
use Rattle.yaml_round_engine.proofs.text.in_pretty_form.Goals as goal

pub returns-in_err-text : goal.returns-in_err-text
returns-in_err-text c =
    let p = err_from_is_err_and c.from_residual.result c.from_residual.ensures.1 in
    rw (p.1, p.2) (refused_in_pretty c.args.from c.args.input.now c.args.settings.now known.Start _ c.in_err-text.ensures.text)

pub returns : goal.returns
returns c =
    in_pretty c.args.from c.args.input.now c.args.settings.now c.in_ok-text.text.items c.begins_with_nothing.result c.in_ok-text.ensures.text (c.in_ok-text.ensures.beginning ∙ sym c.begins_with_nothing.ensures)
