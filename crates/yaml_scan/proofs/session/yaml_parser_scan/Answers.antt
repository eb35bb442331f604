use Rattle.yaml_scan_types.specs.Tokens.{token_of}
use Rattle.yaml_scan.specs.SessionView.{view_of}
use Rattle.yaml_scan.proofs.ReadingLemmas.{few_wait, takes, whole_popped}
use Rattle.yaml_scan.proofs.session.yaml_parser_scan.Goals as goal

pub invariant_of-parser : goal.invariant_of-parser
invariant_of-parser c = whole_popped c.fill.new.self c.pop.new.self c.fill.ensures.reading c.pop.ensures.rest

pub returns-in-Ok-clause-scans : goal.returns-in-Ok-clause-scans
returns-in-Ok-clause-scans c = rw (← c.parser.view_is) (takes (view_of c.parser.inside.reading) c.fill.new.self c.pop.new.self (token_of c.pop.result) c.fill.ensures.reading c.in-Ok.ensures.looks c.pop.ensures.rest c.pop.ensures.first)

pub returns-in-Ok-clause-few : goal.returns-in-Ok-clause-few
returns-in-Ok-clause-few c = few_wait (record c.fill.new.self { queue = c.pop.new.self }) (whole_popped c.fill.new.self c.pop.new.self c.fill.ensures.reading c.pop.ensures.rest)

pub invariant_of-parser-in-Err : goal.invariant_of-parser-in-Err
invariant_of-parser-in-Err c = c.fill.ensures.reading

pub returns-in-Err-clause-scans : goal.returns-in-Err-clause-scans
returns-in-Err-clause-scans c = rw (← c.parser.view_is) c.in-Err.ensures.looks

pub returns-in-Err-clause-few : goal.returns-in-Err-clause-few
returns-in-Err-clause-few c = few_wait c.fill.new.self c.fill.ensures.reading
