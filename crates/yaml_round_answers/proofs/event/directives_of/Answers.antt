use mir.Syntax.{w32}
use mir.Val.{SFits}
use Rattle.std.proofs.Common.{◌∙◌, ap, map, Some, rules}
use Rattle.yaml_parse.specs.Events.{directive_of}
use Rattle.std.proofs.lemmas.Int.{to_z-of_z}
use Rattle.yaml_round_answers.specs.Numbers.{kind_meant}
use Rattle.yaml_round_answers.proofs.Building.{with_directives, without_directives}
use Rattle.yaml_round_answers.proofs.event.directives_of.Goals as goal

pub returns-in_ok-part_at-in-YAML_DOCUMENT_START_EVENT :
    goal.returns-in_ok-part_at-in-YAML_DOCUMENT_START_EVENT
returns-in_ok-part_at-in-YAML_DOCUMENT_START_EVENT c =
    with_directives _ _ c.args.given.now _ c.all_directives.result c.in_ok-part_at-in-YAML_DOCUMENT_START_EVENT.ensures c.all_directives.ensures

pub returns-in_default : goal.returns-in_default
returns-in_default c =
    let fits : SFits w32 c.args.given.now.kind = search rules in
    without_directives _ _ c.args.given.now c.in_ok-kind_of.field-0 (Some (map directive_of c.new.result.items)) (c.in_ok-kind_of.ensures ∙ ap kind_meant (to_z-of_z w32 c.args.given.now.kind fits)) c.in_default.not-YAML_DOCUMENT_START_EVENT
