use Rattle.yaml_parse_states.proofs.Standing.{ended_stood}
use Rattle.yaml_parse_states.proofs.Ways.{ended}
use Rattle.yaml_parse_states.proofs.parser.Parser.end_collection.Goals as goal

pub returns-clause-ends : goal.returns-clause-ends
returns-clause-ends g c = ended g.T.Tokens c.args.token c.args.kind c.leave-next.result c.give_token.result c.args.self.now c.leave-next.new.self c.give_token.new.self c.requires.kind c.leave-next.ensures.same c.leave-next.ensures.states c.give_token.ensures.given c.give_token.ensures.takes

pub returns-clause-stands : goal.returns-clause-stands
returns-clause-stands g c = λ h b. ended_stood c.leave-next.result c.args.kind c.give_token.result c.leave-next.new.self c.give_token.new.self (c.leave-next.ensures.stands h) b c.give_token.ensures.stands
