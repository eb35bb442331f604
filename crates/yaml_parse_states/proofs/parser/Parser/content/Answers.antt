use Rattle.std.proofs.Common.{true, refl, subst}
use Rattle.yaml_parse_model.specs.declared.yaml_sequence_style_t.TheVariants.{YAML_FLOW_SEQUENCE_STYLE}
use Rattle.yaml_parse_model.specs.declared.yaml_mapping_style_t.TheVariants.{YAML_FLOW_MAPPING_STYLE}
use Rattle.yaml_parse_grammar.specs.States as grammar
use Rattle.yaml_parse_grammar.specs.Items.{sequence, mapping}
use Rattle.yaml_parse_grammar.specs.declared.name.Brackets.TheVariants as brackets
use Rattle.yaml_scan_model.specs.declared.kind.Kind.TheVariants as kind
use Rattle.yaml_parse_states.specs.declared.parser.State.TheVariants as state
use Rattle.yaml_parse_states.specs.declared.event.EventKind.TheVariants as event
use Rattle.yaml_parse_states.specs.Nodes.{IsShown, wants_by}
use Rattle.yaml_parse_states.proofs.Founds.{scalar_found, collection_found}
use Rattle.yaml_parse_states.proofs.parser.Parser.content.Goals as goal

pub returns-in-Scalar-clause-contents : goal.returns-in-Scalar-clause-contents
returns-in-Scalar-clause-contents g c = λ q b n.
    let t = g.T.Tokens in
    let old = c.args.self.now in
    scalar_found t (wants_by c.args.wants old.state) q c.scalar.result old c.scalar.new.self
    (subst (λ z. IsShown t z old.tokens) c.in-Scalar.is c.requires) c.scalar.ensures.given c.scalar.ensures.takes b n

pub returns-in-FlowSequenceStart-clause-contents : goal.returns-in-FlowSequenceStart-clause-contents
returns-in-FlowSequenceStart-clause-contents g c = λ q b n.
    let t = g.T.Tokens in
    let old = c.args.self.now in
    collection_found t kind.FlowSequenceStart (wants_by c.args.wants old.state) q event.SequenceStart true state.FlowSequenceFirstEntry (sequence YAML_FLOW_SEQUENCE_STYLE) (grammar.items brackets.Sequence) c.collection.result old c.collection.new.self
    (subst (λ z. IsShown t z old.tokens) c.in-FlowSequenceStart.is c.requires) refl (λ u. refl) (λ at ls. refl) (λ u. refl) c.collection.ensures.collected b n

pub returns-in-FlowMappingStart-clause-contents : goal.returns-in-FlowMappingStart-clause-contents
returns-in-FlowMappingStart-clause-contents g c = λ q b n.
    let t = g.T.Tokens in
    let old = c.args.self.now in
    collection_found t kind.FlowMappingStart (wants_by c.args.wants old.state) q event.MappingStart true state.FlowMappingFirstKey (mapping YAML_FLOW_MAPPING_STYLE) (grammar.items brackets.Mapping) c.collection-in-FlowMappingStart.result old c.collection-in-FlowMappingStart.new.self
    (subst (λ z. IsShown t z old.tokens) c.in-FlowMappingStart.is c.requires) refl (λ u. refl) (λ at ls. refl) (λ u. refl) c.collection-in-FlowMappingStart.ensures.collected b n
