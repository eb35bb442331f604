-- One document more was passed in both, or one has none.
use Rattle.yaml_round_engine.proofs.Dumping.{next_documents, documents_part, first_ends, second_ends}
use Rattle.yaml_round_engine.proofs.documents.same_documents.Goals as goal

pub documents-preserved : goal.documents-preserved
documents-preserved c =
    let h = rw c.in-Ok-true.field-0-test at c.in-Ok-true.ensures in
    record { past = next_documents _ _ _ _ _ _ _ _ _ _ _ c.documents.invariant.past c.in-Some.ensures.items c.in-Some-pop_front-2.ensures.items h }

pub returns-in-Ok-false : goal.returns-in-Ok-false
returns-in-Ok-false c =
    let h = rw c.in-Ok-false.field-0-test at c.in-Ok-false.ensures in
    documents_part _ _ _ _ _ _ _ _ _ _ _ c.documents.invariant.past c.in-Some.ensures.items c.in-Some-pop_front-2.ensures.items h

pub returns-in-Some-pop_front : goal.returns-in-Some-pop_front
returns-in-Some-pop_front c = first_ends _ _ _ _ _ _ _ _ _ _ c.documents.invariant.past c.in-None.ensures.items c.in-None.ensures.rest c.in-Some-pop_front.ensures.items c.part_at.ensures

pub returns-in-None-pop_front-2 : goal.returns-in-None-pop_front-2
returns-in-None-pop_front-2 c = second_ends _ _ _ _ _ _ _ _ _ _ c.documents.invariant.past c.in-Some.ensures.items c.in-None-pop_front-2.ensures.items c.in-None-pop_front-2.ensures.rest c.part_at-in-None-pop_front-2.ensures
