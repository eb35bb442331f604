use Rattle.std.proofs.Common.{refl}
use Rattle.yaml_parse_grammar.specs.declared.problem.ParseProblem.TheVariants as problem
use Rattle.yaml_parse_states.specs.declared.parser.State.TheVariants as state
use Rattle.yaml_parse_states.specs.Views.{blank_body}
use Rattle.yaml_parse_states.proofs.Parts.{failed_by, left_by}
use Rattle.yaml_parse_states.proofs.parser.Parser.flow_mapping_empty_value.Goals as goal

pub returns-then-has_failed-clause-turned : goal.returns-then-has_failed-clause-turned
returns-then-has_failed-clause-turned g c =
    failed_by g.T.Tokens _ _ problem.NoMappingEnd c.refuse.result c.args.self.now c.has_failed.new.self c.refuse.new.self (rw c.if-has_failed.true at c.has_failed.ensures.looks)
    c.refuse.ensures.refused c.refuse.ensures.next

pub returns-clause-turned : goal.returns-clause-turned
returns-clause-turned g c =
    left_by g.T.Tokens _ _ blank_body state.FlowMappingKey c.empty_here.result _ c.args.self.now c.has_failed.new.self c.empty_here.new.self (rw c.if-has_failed.false at c.has_failed.ensures.looks)
    (λ k. refl) refl refl refl c.empty_here.ensures.given c.empty_here.ensures.gives
