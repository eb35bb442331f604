-- What is laid out in canonical form is a normal form.
use Rattle.std.proofs.lemmas.Result.{err_from_is_err_and}
use Rattle.yaml_round_engine.proofs.Laying.{refused_in_canonical}
use Rattle.yaml_round_engine.proofs.Normal.{in_normal_form}
use Rattle.yaml_round.proofs.engine.in_canonical_form.Goals as goal

pub returns-in_err-text : goal.returns-in_err-text
returns-in_err-text c =
    let p = err_from_is_err_and c.from_residual.result c.from_residual.ensures.1 in
    rw (p.1, p.2) (refused_in_canonical c.args.from c.args.input.now c.args.settings.now _ c.in_err-text.ensures.text)

pub returns : goal.returns
returns c = in_normal_form c.args.from c.args.settings.now c.args.input.now c.in_ok-text.text.items c.in_ok-text.ensures.text
