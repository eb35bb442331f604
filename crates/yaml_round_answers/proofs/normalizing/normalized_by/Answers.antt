-- What the call answers is what C receives.
use mir.Syntax.{w32}
use mir.Val.{SFits}
use Rattle.std.proofs.lemmas.Int.{to_z-of_z}
use Rattle.std.proofs.Common.{◌∙◌, rules, ap, inl, refl}
use Rattle.yaml_parse.specs.declared.yaml_origin_t.TheVariants.{Emitter}
use Rattle.yaml_round.specs.round_engine.Layers.{reformat_layers}
use Rattle.yaml_round.specs.round_engine.Readable.{IsReadableAnswer}
use Rattle.yaml_round_answers.specs.Told.{call_meant}
use Rattle.yaml_round_answers.proofs.Refusing.{text_answered, meant_so, unmeant}
use Rattle.yaml_round_answers.proofs.normalizing.normalized_by.Goals as goal

pub returns-in-Some : goal.returns-in-Some
returns-in-Some c =
    let fits : SFits w32 c.args.from = search rules in
    meant_so _ c.call_of.result _ _ _ (c.call_of.ensures ∙ ap (λ z. call_meant z c.args.settings.now) (to_z-of_z w32 c.args.from fits)) c.in-Some.is (text_answered reformat_layers Emitter (IsReadableAnswer c.in-Some.from c.in-Some.settings c.args.input.now) _ _ (inl refl) c.yaml_normalize.ensures c.answer_told.ensures)

pub returns-in-None : goal.returns-in-None
returns-in-None c =
    let fits : SFits w32 c.args.from = search rules in
    unmeant _ c.call_of.result _ _ (c.call_of.ensures ∙ ap (λ z. call_meant z c.args.settings.now) (to_z-of_z w32 c.args.from fits)) c.in-None.is c.misused.ensures
