use Rattle.std.proofs.Common.{◌∙◌, ◌∷◌, [], refl}
use Rattle.yaml_parse_grammar.specs.States as grammar
use Rattle.yaml_parse_grammar.specs.declared.name.Brackets.TheVariants as brackets
use Rattle.yaml_parse_grammar.specs.declared.problem.ParseProblem.TheVariants as problem
use Rattle.yaml_scan_model.specs.declared.kind.Kind.TheVariants as kind
use Rattle.yaml_parse_states.specs.declared.parser.State.TheVariants as state
use Rattle.yaml_parse_states.specs.Views.{below_of}
use Rattle.yaml_parse_states.proofs.Parts.{Skipped, refused_here, stepped}
use Rattle.yaml_parse_states.proofs.Indicators.{more_refuse}
use Rattle.yaml_parse_states.proofs.parser.Parser.flow_sequence_entry.Goals as goal

pub returns-in-FlowEntry-clause-turned : goal.returns-in-FlowEntry-clause-turned
returns-in-FlowEntry-clause-turned g c =
    let p : Skipped g.T.Tokens kind.FlowEntry c.args.self.now.tokens c.kind.new.self c.skip.new.self =
    record { shows = c.in-FlowEntry.ensures.shows; rest = c.skip.ensures.rest; fault = c.skip.ensures.fault; places = c.skip.ensures.places ∙ c.kind.ensures.places } in
    stepped g.T.Tokens kind.FlowEntry c.kind.new.self c.skip.new.self _ (grammar.items brackets.Sequence _ ∷ []) _ state.FlowSequenceFirstEntry c.flow_sequence_item.result c.args.self.now c.flow_sequence_item.new.self
    p refl refl refl c.flow_sequence_item.ensures.turned

pub returns-in_default-clause-turned : goal.returns-in_default-clause-turned
returns-in_default-clause-turned g c =
    refused_here g.T.Tokens c.kind.result c.kind.new.self _ (below_of g.T.Tokens c.args.self.now) problem.NoSequenceEnd _ c.refuse.result c.args.self.now c.refuse.new.self c.kind.ensures.shows
    (λ e. more_refuse brackets.Sequence c.kind.result _ c.in_default.not-FlowEntry c.in_default.not-FlowSequenceEnd) (λ m. refl) c.kind.ensures.places c.refuse.ensures.refused c.refuse.ensures.next
