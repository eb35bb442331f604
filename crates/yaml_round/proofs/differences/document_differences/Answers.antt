-- Not searched for, so that a wrong value fails by its type, at once.
use Rattle.yaml_round.proofs.Diffing.{first_refused, second_refused}
use Rattle.yaml_round.proofs.Differing.{all_compared}
use Rattle.yaml_round.proofs.differences.document_differences.Goals as goal

pub returns-in-Err : goal.returns-in-Err
returns-in-Err c = first_refused c.args.a_encoding c.args.a.now c.args.b_encoding c.args.b.now c.in-Err.fault c.in-Err.ensures

pub returns-in-Err-documents_of : goal.returns-in-Err-documents_of
returns-in-Err-documents_of c =
    second_refused c.args.a_encoding c.args.a.now c.args.b_encoding c.args.b.now c.in-Ok.first.items c.in-Err-documents_of.fault c.in-Ok.ensures c.in-Err-documents_of.ensures

pub returns-in-Ok-documents_of : goal.returns-in-Ok-documents_of
returns-in-Ok-documents_of c =
    all_compared c.args.a_encoding c.args.a.now c.args.b_encoding c.args.b.now c.in-Ok.first.items c.in-Ok-documents_of.second.items c.compared.result c.in-Ok.ensures c.in-Ok-documents_of.ensures c.compared.ensures
