use Rattle.std.proofs.Common.{refl}
use Rattle.yaml_scan_model.specs.scan_types.Tokens.{token_of}
use Rattle.yaml_parse_states.proofs.Asked.{asked, tells}
use Rattle.yaml_parse_states.proofs.source.SourceTokens.ask.Goals as goal

pub returns-in-Ok-clause-shows : goal.returns-in-Ok-clause-shows
returns-in-Ok-clause-shows g c =
    asked c.kind_of.result c.args.self.now.fault (g.S.yaml_token_source_t.to_come c.args.self.now.source) (g.S.yaml_token_source_t.fault_to_come c.args.self.now.source) (token_of c.in-Ok.token) (g.S.yaml_token_source_t.to_come c.next_token.new.self) (g.S.yaml_token_source_t.fault_to_come c.next_token.new.self) c.requires.fault c.in-Ok.ensures.ok c.kind_of.ensures.is c.kind_of.ensures.told

pub returns-in-Ok-clause-tells : goal.returns-in-Ok-clause-tells
returns-in-Ok-clause-tells g c = tells c.args.self.now.fault _ _ c.requires.fault refl c.kind_of.ensures.told
