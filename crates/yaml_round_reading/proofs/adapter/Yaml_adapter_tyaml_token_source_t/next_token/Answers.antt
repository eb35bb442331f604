use Rattle.yaml_round_reading.proofs.AdapterLemmas.{scans_looked}
use Rattle.yaml_round_reading.proofs.adapter.Yaml_adapter_tyaml_token_source_t.next_token.Goals as goal

-- the token that was looked at
pub invariant_of-self : goal.invariant_of-self
invariant_of-self c = record {
  little = c.yaml_parser_scan.ensures.few;
  texts = (scans_looked c.self.inside.session _ c.yaml_parser_scan.new.parser c.in-Ok-None.field-0 c.yaml_parser_scan.result c.in-Ok-None.field-0-is c.self.invariant.texts c.in-Ok-None.ensures.0 c.yaml_parser_scan.ensures.scans c.yaml_parser_scan.ensures.few).texts;
}

pub returns-in-Ok-None-clause-ok : goal.returns-in-Ok-None-clause-ok
returns-in-Ok-None-clause-ok c = rw (← c.self.view_is) (scans_looked c.self.inside.session _ c.yaml_parser_scan.new.parser c.in-Ok-None.field-0 c.yaml_parser_scan.result c.in-Ok-None.field-0-is c.self.invariant.texts c.in-Ok-None.ensures.0 c.yaml_parser_scan.ensures.scans c.yaml_parser_scan.ensures.few).ok

pub returns-in-Ok-None-clause-err : goal.returns-in-Ok-None-clause-err
returns-in-Ok-None-clause-err c = rw (← c.self.view_is) (scans_looked c.self.inside.session _ c.yaml_parser_scan.new.parser c.in-Ok-None.field-0 c.yaml_parser_scan.result c.in-Ok-None.field-0-is c.self.invariant.texts c.in-Ok-None.ensures.0 c.yaml_parser_scan.ensures.scans c.yaml_parser_scan.ensures.few).err

pub returns-in-Ok-None-clause-own : goal.returns-in-Ok-None-clause-own
returns-in-Ok-None-clause-own c = rw (← c.self.view_is) (scans_looked c.self.inside.session _ c.yaml_parser_scan.new.parser c.in-Ok-None.field-0 c.yaml_parser_scan.result c.in-Ok-None.field-0-is c.self.invariant.texts c.in-Ok-None.ensures.0 c.yaml_parser_scan.ensures.scans c.yaml_parser_scan.ensures.few).own
