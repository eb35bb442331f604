use Rattle.yaml_scan.proofs.ReadingLemmas.{few_wait, view_ended, whole_ended}
use Rattle.yaml_scan.proofs.session.yaml_parser_end.Goals as goal

pub invariant_of-parser : goal.invariant_of-parser
invariant_of-parser c = whole_ended c.parser.inside.reading c.end.new.self c.args.found.now c.parser.invariant.empty c.end.ensures.same c.end.ensures.none

pub returns-clause-ends : goal.returns-clause-ends
returns-clause-ends c = rw (← c.parser.view_is) (view_ended c.parser.inside.reading c.end.new.self c.args.found.now c.end.ensures.same)

pub returns-clause-few : goal.returns-clause-few
returns-clause-few c = few_wait c.end.new.self (whole_ended c.parser.inside.reading c.end.new.self c.args.found.now c.parser.invariant.empty c.end.ensures.same c.end.ensures.none)
