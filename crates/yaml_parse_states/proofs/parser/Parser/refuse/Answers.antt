use Rattle.yaml_parse_states.proofs.Ways.{refused_next}
use Rattle.yaml_parse_states.proofs.parser.Parser.refuse.Goals as goal

pub returns-clause-next : goal.returns-clause-next
returns-clause-next g c = refused_next g.T.Tokens c.args.problem c.has_failed.result c.start-at.result c.context-context.result c.args.self.now c.has_failed.new.self c.refuse_at.new.self c.has_failed.ensures.looks c.if-has_failed.false c.start-at.ensures c.context-context.ensures c.refuse_at.ensures.refuses
