-- The place is that of the documents of both inputs. Not searched for, so that a wrong value fails by its type, at once.
use Rattle.yaml_round.proofs.Diffing.{agree_told, parting_told, first_refused, second_refused, not_told}
use Rattle.yaml_round.proofs.diff.yaml_diff_documents.Goals as goal

pub returns-in-Err : goal.returns-in-Err
returns-in-Err c = first_refused c.args.a_encoding c.args.a.now c.args.b_encoding c.args.b.now c.in-Err.fault c.in-Err.ensures

pub returns-in-Err-documents_of : goal.returns-in-Err-documents_of
returns-in-Err-documents_of c =
    second_refused c.args.a_encoding c.args.a.now c.args.b_encoding c.args.b.now c.in-Ok.first.items c.in-Err-documents_of.fault c.in-Ok.ensures c.in-Err-documents_of.ensures

pub returns-in-Ok-true : goal.returns-in-Ok-true
returns-in-Ok-true c =
    let same = rw c.in-Ok-true.field-0-test at c.in-Ok-true.ensures in
    agree_told c.args.a_encoding c.args.a.now c.args.b_encoding c.args.b.now c.in-Ok.first.items c.in-Ok-documents_of.second.items c.in-Ok.ensures c.in-Ok-documents_of.ensures same

pub returns-in-Err-place_behind : goal.returns-in-Err-place_behind
returns-in-Err-place_behind c =
    not_told c.args.a_encoding c.args.a.now c.args.b_encoding c.args.b.now c.in-Ok.first.items c.in-Ok-documents_of.second.items c.same_documents-answer.new.front c.in-Err-place_behind.fault
    c.in-Ok.ensures c.in-Ok-documents_of.ensures c.in-Err-place_behind.ensures

pub returns-in-Ok-place_behind : goal.returns-in-Ok-place_behind
returns-in-Ok-place_behind c =
    let parts = rw c.in-Ok-false.field-0-test at c.in-Ok-false.ensures in
    parting_told c.args.a_encoding c.args.a.now c.args.b_encoding c.args.b.now c.in-Ok.first.items c.in-Ok-documents_of.second.items c.new-front.result c.same_documents-answer.new.front
    c.in-Ok-place_behind.place c.in-Ok.ensures c.in-Ok-documents_of.ensures c.new-front.ensures parts c.in-Ok-place_behind.ensures
