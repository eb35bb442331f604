-- Nothing comes of a parser that is stopped.
use Rattle.std.proofs.Common.{ap}
use Rattle.yaml_parse_model.specs.Prefix.{prefix_of}
use Rattle.yaml_parse_states.specs.declared.parser.Parser.{Parser}
use Rattle.yaml_parse_states.specs.Members.{members_of}
use Rattle.yaml_parse.proofs.Gives.{one_held, parser_stops, stopped_stands, stopped_utf8}
use Rattle.yaml_parse.proofs.parser.yaml_parser_t.refuse.Goals as goal

pub returns-clause-finished : goal.returns-clause-finished
returns-clause-finished g c =
    parser_stops (members_of g.S.yaml_token_source_t.to_come g.S.yaml_token_source_t.fault_to_come) c.stop.new.self (prefix_of c.of-self-inside.result) (ap (λ (p : Parser _ _). p.state) c.stop.ensures)

pub returns-clause-held : goal.returns-clause-held
returns-clause-held g c = one_held c.stop.new.self

pub invariant_of-self : goal.invariant_of-self
invariant_of-self g c = (
  stopped_stands c.stop.new.self (ap (λ (p : Parser _ _). p.state) c.stop.ensures),
  stopped_utf8 (members_of g.S.yaml_token_source_t.to_come g.S.yaml_token_source_t.fault_to_come) c.stop.new.self (ap (λ (p : Parser _ _). p.state) c.stop.ensures),
)
