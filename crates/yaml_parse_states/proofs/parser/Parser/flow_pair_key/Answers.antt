use Rattle.std.proofs.Common.{true, false, refl}
use Rattle.yaml_parse_model.specs.scan_types.Tokens.{zero_mark}
use Rattle.yaml_parse_grammar.specs.Machine.{follows}
use Rattle.yaml_parse_grammar.specs.declared.name.Brackets.TheVariants as brackets
use Rattle.yaml_parse_grammar.specs.declared.name.Wants.TheVariants.{Flow}
use Rattle.yaml_parse_grammar.specs.declared.name.Site.TheVariants.{FlowPair}
use Rattle.yaml_parse_grammar.specs.declared.name.Side.TheVariants.{Key}
use Rattle.yaml_scan_model.specs.declared.kind.Kind.TheVariants as kind
use Rattle.yaml_scan_model.specs.Kinds.{is_fault, type_by}
use Rattle.yaml_parse_states.specs.declared.parser.State.TheVariants as state
use Rattle.yaml_parse_states.specs.declared.parser.Turn.TheVariants as turn
use Rattle.yaml_parse_states.specs.Views.{blank_body}
use Rattle.yaml_parse_states.proofs.Parts.{awaited_here, left_here, turned_by}
use Rattle.yaml_parse_states.proofs.Fronts.{optional_awaits}
use Rattle.yaml_parse_states.proofs.Indicators.{one_of_three, flow_key_stays, choice_follows}
use Rattle.yaml_parse_states.proofs.parser.Parser.flow_pair_key.Goals as goal

pub returns-in-Value-clause-turned : goal.returns-in-Value-clause-turned
returns-in-Value-clause-turned g c =
    left_here g.T.Tokens c.kind.result c.kind.new.self _ _ blank_body state.FlowPairValue c.empty_here.result _ c.args.self.now c.empty_here.new.self c.kind.ensures.shows c.kind.ensures.unasked c.kind.ensures.places
    (one_of_three is_fault false c.kind.result kind.Value kind.FlowEntry kind.FlowSequenceEnd c.in-Value.is refl refl refl)
    (choice_follows (FlowPair brackets.Sequence Key) zero_mark c.kind.result (one_of_three (λ k. follows (FlowPair brackets.Sequence Key) (type_by k)) true c.kind.result kind.Value kind.FlowEntry kind.FlowSequenceEnd c.in-Value.is refl refl refl))
    refl refl refl c.empty_here.ensures.given c.empty_here.ensures.gives

pub returns-in_default-clause-turned : goal.returns-in_default-clause-turned
returns-in_default-clause-turned g c =
    let t = g.T.Tokens in
    turned_by t _ c.awaits.result turn.FlowNode c.awaits.new.self _ c.awaits.ensures.node c.awaits.ensures.same
    (awaited_here t c.kind.result c.kind.new.self _ Flow _ _ state.FlowPairValue c.args.self.now c.kind.ensures.shows c.kind.ensures.places
    (λ n. optional_awaits c.kind.result (FlowPair brackets.Sequence Key) _ _ _ _ _ n
    (flow_key_stays brackets.Sequence c.kind.result c.in_default.not-Value c.in_default.not-FlowEntry c.in_default.not-FlowSequenceEnd)) refl)
