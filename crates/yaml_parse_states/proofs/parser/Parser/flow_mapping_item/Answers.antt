use Rattle.std.proofs.Common.{◌∙◌, true, false, refl}
use Rattle.yaml_parse_grammar.specs.Machine.{follows}
use Rattle.yaml_parse_grammar.specs.declared.name.Brackets.TheVariants as brackets
use Rattle.yaml_parse_grammar.specs.declared.name.Wants.TheVariants.{Flow}
use Rattle.yaml_parse_grammar.specs.declared.name.Site.TheVariants.{FlowPair}
use Rattle.yaml_parse_grammar.specs.declared.name.Side.TheVariants.{Key}
use Rattle.yaml_scan_model.specs.declared.kind.Kind.TheVariants as kind
use Rattle.yaml_scan_model.specs.Kinds.{is_fault, type_by}
use Rattle.yaml_parse_states.specs.declared.parser.State.TheVariants as state
use Rattle.yaml_parse_states.specs.declared.parser.Turn.TheVariants as turn
use Rattle.yaml_parse_states.proofs.Parts.{Passed, left_out, awaited, awaited_here, turned_by}
use Rattle.yaml_parse_states.proofs.Places.{items_await}
use Rattle.yaml_parse_states.proofs.Indicators.{key_of_items, one_of_three, flow_key_stays}
use Rattle.yaml_parse_states.proofs.parser.Parser.flow_mapping_item.Goals as goal

pub returns-in-Value-clause-turned : goal.returns-in-Value-clause-turned
returns-in-Value-clause-turned g c =
    let t = g.T.Tokens in
    let p : Passed t kind.Key c.pass.result c.args.self.now.tokens c.kind.new.self c.pass.new.self =
    record { first = c.in-Key.ensures.shows; second = c.pass.ensures.shows; unasked = c.pass.ensures.unasked; places = c.pass.ensures.places ∙ c.kind.ensures.places } in
    left_out t kind.Key c.pass.result c.kind.new.self c.pass.new.self _ (FlowPair brackets.Mapping Key) _ _ state.FlowMappingValue c.empty_here.result _ c.args.self.now c.empty_here.new.self
    p (key_of_items _)
    (one_of_three is_fault false c.pass.result kind.Value kind.FlowEntry kind.FlowMappingEnd c.in-Value.is refl refl refl)
    (one_of_three (λ k. follows (FlowPair brackets.Mapping Key) (type_by k)) true c.pass.result kind.Value kind.FlowEntry kind.FlowMappingEnd c.in-Value.is refl refl refl)
    refl refl c.empty_here.ensures.given c.empty_here.ensures.gives

pub returns-in_default-pass-clause-turned : goal.returns-in_default-pass-clause-turned
returns-in_default-pass-clause-turned g c =
    let t = g.T.Tokens in
    let p : Passed t kind.Key c.pass.result c.args.self.now.tokens c.kind.new.self c.pass.new.self =
    record { first = c.in-Key.ensures.shows; second = c.pass.ensures.shows; unasked = c.pass.ensures.unasked; places = c.pass.ensures.places ∙ c.kind.ensures.places } in
    turned_by t _ c.awaits.result turn.FlowNode c.awaits.new.self _ c.awaits.ensures.node c.awaits.ensures.same
    (awaited t kind.Key c.pass.result c.kind.new.self c.pass.new.self _ (FlowPair brackets.Mapping Key) _ _ state.FlowMappingValue c.args.self.now
    p (key_of_items _) (λ e. flow_key_stays brackets.Mapping c.pass.result c.in_default-pass.not-Value c.in_default-pass.not-FlowEntry c.in_default-pass.not-FlowMappingEnd) refl)

pub returns-in_default-clause-turned : goal.returns-in_default-clause-turned
returns-in_default-clause-turned g c =
    let t = g.T.Tokens in
    turned_by t _ c.awaits-in_default.result turn.FlowNode c.awaits-in_default.new.self _ c.awaits-in_default.ensures.node c.awaits-in_default.ensures.same
    (awaited_here t c.kind.result c.kind.new.self _ Flow _ _ state.FlowMappingEmptyValue c.args.self.now c.kind.ensures.shows c.kind.ensures.places
    (λ n. items_await brackets.Mapping _ c.kind.result _ _ _ _ n c.in_default.not-Key c.in_default.not-FlowMappingEnd) refl)
