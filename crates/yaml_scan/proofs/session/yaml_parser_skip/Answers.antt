use Rattle.std.proofs.Common.{ap, inl, ◌∙◌}
use Rattle.yaml_scan.specs.Session.{View, is_settled}
use Rattle.yaml_scan.specs.SessionView.{view_of}
use Rattle.yaml_scan.proofs.ReadingLemmas.{few_wait, reads_popped, rest_popped, same_reads, whole_popped}
use Rattle.yaml_scan.proofs.session.yaml_parser_skip.Goals as goal

pub invariant_of-parser : goal.invariant_of-parser
invariant_of-parser c = whole_popped c.parser.inside.reading c.pop.new.self c.parser.invariant c.pop.ensures.rest

pub returns-clause-rest : goal.returns-clause-rest
returns-clause-rest c =
    let settled = ap (λ (v : View). is_settled v) c.parser.view_is ∙ c.requires in
    rw (← c.parser.view_is) (rest_popped c.parser.inside.reading c.pop.new.self c.parser.invariant (inl settled) c.pop.ensures.rest)

pub returns-clause-same : goal.returns-clause-same
returns-clause-same c = ap (λ (v : View). v.answered) c.parser.view_is

pub returns-clause-reads : goal.returns-clause-reads
returns-clause-reads c =
    let r = c.parser.inside.reading in
    rw (← c.parser.view_is) (reads_popped (view_of r) r c.pop.new.self (same_reads (view_of r)))

pub returns-clause-few : goal.returns-clause-few
returns-clause-few c = few_wait (record c.parser.inside.reading { queue = c.pop.new.self }) (whole_popped c.parser.inside.reading c.pop.new.self c.parser.invariant c.pop.ensures.rest)
