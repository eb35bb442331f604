use Rattle.std.proofs.Common.{◌∙◌, ◌∷◌, [], true, refl, sym, ap, subst, reverse, None}
use Rattle.yaml_parse_model.specs.Source.{front_of, rest_of}
use Rattle.yaml_parse_model.specs.scan_types.Tokens.{Token, zero_mark}
use Rattle.yaml_parse_model.specs.Events.{mapping_start}
use Rattle.yaml_parse_model.specs.declared.yaml_mapping_style_t.TheVariants.{YAML_FLOW_MAPPING_STYLE}
use Rattle.yaml_parse_grammar.specs.Resolve.{Directives}
use Rattle.yaml_parse_states.specs.Coming.{read}
use Rattle.yaml_parse_states.specs.Turned.{Turned}
use Rattle.yaml_parse_grammar.specs.States as grammar
use Rattle.yaml_parse_grammar.specs.Items.{item_at}
use Rattle.yaml_parse_grammar.specs.Items as item
use Rattle.yaml_parse_grammar.specs.declared.name.Brackets.TheVariants as brackets
use Rattle.yaml_parse_grammar.specs.declared.name.Wants.TheVariants.{Flow}
use Rattle.yaml_parse_grammar.specs.declared.name.Site.TheVariants.{FlowPair}
use Rattle.yaml_parse_grammar.specs.declared.name.Side.TheVariants.{Key, Value}
use Rattle.yaml_scan_model.specs.declared.kind.Kind.TheVariants as kind
use Rattle.yaml_parse_states.specs.declared.parser.State.TheVariants as state
use Rattle.yaml_parse_states.specs.declared.parser.Turn.TheVariants as turn
use Rattle.yaml_parse_states.specs.declared.event.EventKind.TheVariants as event
use Rattle.yaml_parse_states.specs.Views.{below_of, opener, directives_of, stack}
use Rattle.yaml_parse_states.proofs.Parts.{awaited_here, turned_by}
use Rattle.yaml_parse_states.proofs.Places.{items_await, same_place}
use Rattle.yaml_parse_states.proofs.Fronts.{shown_same}
use Rattle.yaml_parse_states.proofs.Ways.{took_by}
use Rattle.yaml_parse_states.proofs.parser.Parser.flow_sequence_item.Goals as goal

pub returns-in-Key-clause-turned : goal.returns-in-Key-clause-turned
returns-in-Key-clause-turned g c =
    let t = g.T.Tokens in
    let old = c.args.self.now in
    let t1 = c.kind.new.self in
    let u : Token = front_of (t.to_come t1) in
    let o = opener (t.mark_of old.tokens) (reverse old.levels.items) in
    let ds : Directives = directives_of old.directives in
    let s = below_of t old in
    let above = grammar.optional (FlowPair brackets.Sequence Key) u.end_mark ∷ grammar.colon (FlowPair brackets.Sequence Value) ∷ grammar.pair_end ∷ grammar.more brackets.Sequence o ∷ [] in
    subst (λ w. Turned t w c.give_token.result c.give_token.new.self)
    (sym (shown_same kind.Key (t.to_come old.tokens) (t.to_come t1) (t.fault_to_come old.tokens) (t.fault_to_come t1) (grammar.items brackets.Sequence o ∷ s) ds c.in-Key.ensures.shows))
    (took_by t kind.Key event.MappingStart state.FlowPairKey c.give_token.result (record old { tokens = t1; event = record old.event { flow = true; implicit = true } }) c.give_token.new.self
    (grammar.items brackets.Sequence o) (mapping_start None None true YAML_FLOW_MAPPING_STYLE) (item_at (item.node None None (item.mapping YAML_FLOW_MAPPING_STYLE)) u.start_mark u.end_mark)
    above s ds c.in-Key.ensures.shows.next c.give_token.ensures.given c.give_token.ensures.takes refl refl refl c.give_token.ensures.takes.event
    (same_place (FlowPair brackets.Sequence Key) u.end_mark zero_mark (λ z. refl) (rest_of (t.to_come t1)) (t.fault_to_come t1) (grammar.colon (FlowPair brackets.Sequence Value) ∷ grammar.pair_end ∷ grammar.more brackets.Sequence o ∷ s) ds
    ∙ ap (λ at. read (rest_of (t.to_come t1)) (t.fault_to_come t1) (stack at state.FlowPairKey (reverse old.levels.items)) ds) (sym c.kind.ensures.places)))

pub returns-in_default-clause-turned : goal.returns-in_default-clause-turned
returns-in_default-clause-turned g c =
    let t = g.T.Tokens in
    turned_by t _ c.awaits.result turn.FlowNode c.awaits.new.self _ c.awaits.ensures.node c.awaits.ensures.same
    (awaited_here t c.kind.result c.kind.new.self _ Flow _ _ state.FlowSequenceEntry c.args.self.now c.kind.ensures.shows c.kind.ensures.places
    (λ n. items_await brackets.Sequence _ c.kind.result _ _ _ _ n c.in_default.not-Key c.in_default.not-FlowSequenceEnd) refl)
