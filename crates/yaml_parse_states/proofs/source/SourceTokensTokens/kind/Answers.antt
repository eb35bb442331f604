use Rattle.yaml_scan_model.specs.scan_types.Tokens.{token_of}
use Rattle.yaml_parse_states.proofs.Asked.{held, tells}
use Rattle.yaml_parse_states.proofs.source.SourceTokensTokens.kind.Goals as goal

pub returns-then-self-clause-shows : goal.returns-then-self-clause-shows
returns-then-self-clause-shows g c =
    held c.kind_of.result c.args.self.now.fault c.args.self.now.is_next (token_of c.args.self.now.token) (g.S.yaml_token_source_t.to_come c.args.self.now.source) (g.S.yaml_token_source_t.fault_to_come c.args.self.now.source) c.in-None.is c.if-self.true c.kind_of.ensures.is c.kind_of.ensures.told

pub returns-then-self-clause-tells : goal.returns-then-self-clause-tells
returns-then-self-clause-tells g c = tells c.args.self.now.fault c.args.self.now.is_next _ c.in-None.is c.if-self.true c.kind_of.ensures.told
