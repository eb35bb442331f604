use Rattle.std.proofs.Common.{refl}
use Rattle.yaml_parse_states.proofs.Standing.{valued_stood}
use Rattle.yaml_parse_states.proofs.parser.Parser.alias.Goals as goal

pub returns-clause-stands : goal.returns-clause-stands
returns-clause-stands g c = λ h. valued_stood c.give_token-turn.result c.args.self.now c.give_token-turn.new.self _ c.give_token-turn.ensures.given h c.give_token-turn.ensures.stands refl refl refl
