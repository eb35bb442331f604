use Rattle.std.proofs.Common.{refl, None}
use Rattle.yaml_parse_model.specs.scan_types.Tokens.{zero_mark}
use Rattle.yaml_parse_grammar.specs.declared.name.Site.TheVariants.{Root}
use Rattle.yaml_parse_grammar.specs.declared.name.Wants.TheVariants.{Block}
use Rattle.yaml_parse_states.specs.declared.parser.State.TheVariants as state
use Rattle.yaml_parse_states.specs.declared.parser.Turn.TheVariants as turn
use Rattle.yaml_parse_states.specs.Views.{blank_body}
use Rattle.yaml_parse_states.proofs.Fronts.{optional_awaits}
use Rattle.yaml_parse_states.proofs.Indicators.{choice_follows}
use Rattle.yaml_parse_states.proofs.Parts.{awaited_here, left_here, turned_by}
use Rattle.yaml_parse_states.proofs.Documents.{parts_no_fault, root_follows, root_stays}
use Rattle.yaml_parse_states.proofs.parser.Parser.document_content.Goals as goal

pub returns-in-DocumentEnd-clause-turned : goal.returns-in-DocumentEnd-clause-turned
returns-in-DocumentEnd-clause-turned g c =
    let f = root_follows c.kind.result c.in-DocumentEnd.is in
    left_here g.T.Tokens c.kind.result c.kind.new.self _ _ blank_body state.DocumentEnd c.empty_here.result _ c.args.self.now c.empty_here.new.self c.kind.ensures.shows c.kind.ensures.unasked c.kind.ensures.places
    (parts_no_fault c.kind.result f) (choice_follows Root zero_mark c.kind.result f)
    refl refl refl c.empty_here.ensures.given c.empty_here.ensures.gives

pub returns-in_default-clause-turned : goal.returns-in_default-clause-turned
returns-in_default-clause-turned g c =
    let t = g.T.Tokens in
    turned_by t _ c.awaits.result turn.BlockNode c.awaits.new.self _ c.awaits.ensures.node c.awaits.ensures.same
    (awaited_here t c.kind.result c.kind.new.self _ (Block None) _ _ state.DocumentEnd c.args.self.now c.kind.ensures.shows c.kind.ensures.places
    (λ n. optional_awaits c.kind.result Root _ _ _ _ _ n
    (root_stays c.kind.result c.in_default.not-DocumentEnd c.in_default.not-StreamEnd c.in_default.not-VersionDirective c.in_default.not-TagDirective c.in_default.not-DocumentStart)) refl)
