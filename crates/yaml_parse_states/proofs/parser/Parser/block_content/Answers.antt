use Rattle.std.proofs.Common.{inl, inr, false, refl, sym, subst}
use Rattle.yaml_parse_model.specs.declared.yaml_sequence_style_t.TheVariants.{YAML_BLOCK_SEQUENCE_STYLE}
use Rattle.yaml_parse_model.specs.declared.yaml_mapping_style_t.TheVariants.{YAML_BLOCK_MAPPING_STYLE}
use Rattle.yaml_parse_grammar.specs.States as grammar
use Rattle.yaml_parse_grammar.specs.Items.{sequence, mapping}
use Rattle.yaml_scan_model.specs.declared.kind.Kind.TheVariants as kind
use Rattle.yaml_parse_states.specs.declared.parser.State.TheVariants as state
use Rattle.yaml_parse_states.specs.declared.event.EventKind.TheVariants as event
use Rattle.yaml_parse_states.specs.Nodes.{Found, IsShown, begun, wants_by}
use Rattle.yaml_parse_states.proofs.Founds.{collection_found, loose_found, block_starts}
use Rattle.yaml_parse_states.proofs.parser.Parser.block_content.Goals as goal

pub returns-in-BlockSequenceStart-clause-contents
    : goal.returns-in-BlockSequenceStart-clause-contents
returns-in-BlockSequenceStart-clause-contents g c = λ q b n.
    let t = g.T.Tokens in
    let old = c.args.self.now in
    collection_found t kind.BlockSequenceStart (wants_by c.args.wants old.state) q event.SequenceStart false state.BlockSequenceEntry (sequence YAML_BLOCK_SEQUENCE_STYLE) (grammar.entries) c.collection.result old c.collection.new.self
    (subst (λ z. IsShown t z old.tokens) c.in-BlockSequenceStart.is c.requires.shown) (block_starts kind.BlockSequenceStart c.args.wants old.state (inl refl) c.requires.wants) (λ u. refl) (λ at ls. refl) (λ u. refl) c.collection.ensures.collected b n

pub returns-in-BlockMappingStart-clause-contents : goal.returns-in-BlockMappingStart-clause-contents
returns-in-BlockMappingStart-clause-contents g c = λ q b n.
    let t = g.T.Tokens in
    let old = c.args.self.now in
    collection_found t kind.BlockMappingStart (wants_by c.args.wants old.state) q event.MappingStart false state.BlockMappingKey (mapping YAML_BLOCK_MAPPING_STYLE) (grammar.pairs) c.collection-in-BlockMappingStart.result old c.collection-in-BlockMappingStart.new.self
    (subst (λ z. IsShown t z old.tokens) c.in-BlockMappingStart.is c.requires.shown) (block_starts kind.BlockMappingStart c.args.wants old.state (inr refl) c.requires.wants) (λ u. refl) (λ at ls. refl) (λ u. refl) c.collection-in-BlockMappingStart.ensures.collected b n

pub returns-in-IndentlessNode-clause-contents : goal.returns-in-IndentlessNode-clause-contents
returns-in-IndentlessNode-clause-contents g c = λ q b n.
    let t = g.T.Tokens in
    let old = c.args.self.now in
    subst (λ z. Found t (begun t (wants_by z old.state) q old) c.indentless_sequence.result c.indentless_sequence.new.self) (sym c.in-IndentlessNode.is)
    (loose_found t q c.indentless_sequence.result old c.indentless_sequence.new.self (subst (λ z. IsShown t z old.tokens) c.in-BlockEntry.is c.requires.shown) c.indentless_sequence.ensures.loosely b n)
