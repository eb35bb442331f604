-- Nothing comes of a parser that is stopped.
use Rattle.std.proofs.Common.{ap}
use Rattle.yaml_scan_model.specs.scan_types.Faults.{fault_of}
use Rattle.yaml_parse_states.specs.declared.parser.Parser.{Parser}
use Rattle.yaml_parse.proofs.Gives.{holds_as_tokens, parser_stops, stopped_stands, stopped_utf8}
use Rattle.yaml_parse.proofs.token_parser.TokenParser.refuse.Goals as goal

pub returns-clause-finished : goal.returns-clause-finished
returns-clause-finished g c =
    parser_stops g.T.Tokens c.stop.new.self (fault_of c.args.fault.now) (ap (λ (p : Parser _ _). p.state) c.stop.ensures)

pub returns-clause-held : goal.returns-clause-held
returns-clause-held g c = holds_as_tokens g.T.Tokens c.stop.new.self (fault_of c.args.fault.now)

pub invariant_of-self : goal.invariant_of-self
invariant_of-self g c = (
  stopped_stands c.stop.new.self (ap (λ (p : Parser _ _). p.state) c.stop.ensures),
  stopped_utf8 g.T.Tokens c.stop.new.self (ap (λ (p : Parser _ _). p.state) c.stop.ensures),
)
