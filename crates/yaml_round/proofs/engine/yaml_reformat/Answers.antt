-- What follows isn't searched for, so that a wrong value fails by its type, at once.
use Rattle.std.proofs.Common.{Bool, Ok, subst}
use Rattle.yaml_round_engine.specs.Answers.{IsInPrettyForm}
use Rattle.yaml_round_engine.proofs.Forms.{asked_for, fallen_back, pretty_answered, pretty_refused}
use Rattle.yaml_round.proofs.engine.yaml_reformat.Goals as goal

pub returns-then-settings : goal.returns-then-settings
returns-then-settings c =
    asked_for c.args.from c.args.settings.now c.args.input.now c.in_canonical_form.result c.if-settings.true c.in_canonical_form.ensures

pub returns-in-Err : goal.returns-in-Err
returns-in-Err c = pretty_refused c.args.from c.args.settings.now c.args.input.now c.in-Err.fault c.if-settings.false c.in-Err.ensures

pub returns-then-nothing : goal.returns-then-nothing
returns-then-nothing c =
    let from = c.args.from in
    let settings = c.args.settings.now in
    let input = c.args.input.now in
    let known = subst (λ (b : Bool). IsInPrettyForm from settings input (Ok (c.in-Ok.text.items, b))) c.if-nothing.true c.in-Ok.ensures in
    fallen_back from settings input c.in_canonical_form-then-nothing.result c.in-Ok.text.items c.if-settings.false known.0 known.1 c.in_canonical_form-then-nothing.ensures

pub returns-else-nothing : goal.returns-else-nothing
returns-else-nothing c =
    let from = c.args.from in
    let settings = c.args.settings.now in
    let input = c.args.input.now in
    let known = subst (λ (b : Bool). IsInPrettyForm from settings input (Ok (c.in-Ok.text.items, b))) c.if-nothing.false c.in-Ok.ensures in
    pretty_answered from settings input c.in-Ok.text.items c.if-settings.false known.0 known.1
