-- What the call answers is what C receives.
use mir.Syntax.{w32}
use mir.Val.{SFits}
use Rattle.std.proofs.lemmas.Int.{to_z-of_z}
use Rattle.std.proofs.Common.{◌∙◌, rules, ap, refl}
use Rattle.yaml_parse.specs.declared.yaml_origin_t.TheVariants.{Reader}
use Rattle.yaml_round_answers.specs.Decodes.{decode_layers, IsDecoded}
use Rattle.yaml_round_answers.specs.Numbers.{encoding_meant}
use Rattle.yaml_round_answers.proofs.Refusing.{text_answered, meant_so, unmeant}
use Rattle.yaml_round_answers.proofs.decoding.decoded_by.Goals as goal

pub returns-in-Some : goal.returns-in-Some
returns-in-Some c =
    let fits : SFits w32 c.args.from = search rules in
    meant_so _ c.encoding_of.result _ _ _ (c.encoding_of.ensures ∙ ap encoding_meant (to_z-of_z w32 c.args.from fits)) c.in-Some.is (text_answered decode_layers Reader (IsDecoded c.in-Some.from c.args.input.now) _ _ (refl) c.text_of.ensures c.answer_told.ensures)

pub returns-in-None : goal.returns-in-None
returns-in-None c =
    let fits : SFits w32 c.args.from = search rules in
    unmeant _ c.encoding_of.result _ _ (c.encoding_of.ensures ∙ ap encoding_meant (to_z-of_z w32 c.args.from fits)) c.in-None.is c.misused.ensures
