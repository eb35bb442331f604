-- What is passed by reference is the fault that is kept. Not searched for, so that a wrong value fails by its type, at once.
use Rattle.yaml_scan.proofs.ReadingLemmas.{lent_fault}
use Rattle.yaml_scan.proofs.session.yaml_parser_fault.Goals as goal

pub returns : goal.returns
returns c = rw (← c.parser.view_is) (lent_fault c.as_ref.result c.parser.inside.reading.fault c.as_ref.ensures.value)
