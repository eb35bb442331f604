use Rattle.yaml_parse_states.proofs.Standing.{stood_by}
use Rattle.yaml_parse_states.proofs.parser.Parser.give_token.Goals as goal

pub returns-clause-stands : goal.returns-clause-stands
returns-clause-stands g c = λ h b. stood_by c.give.result c.give.new.self _ c.give.ensures.given c.give.ensures.same h b
