use Rattle.yaml_parse_states.proofs.Standing.{awaiting_stands}
use Rattle.yaml_parse_states.proofs.parser.Parser.awaits.Goals as goal

pub returns-clause-stands : goal.returns-clause-stands
returns-clause-stands g c = λ i h. awaiting_stands c.args.node _ i h
