-- The next document was loaded, and the others are left.
use Rattle.std.proofs.Common.{refl, ◌∙◌, ap}
use Rattle.yaml_round_content.specs.Loads.{Loads}
use Rattle.yaml_round_engine.proofs.Reloading.{documents_on, fault_on, documents_read, documents_refused, reads_to_load, small_on, none_small}
use Rattle.yaml_round_engine.proofs.reload.documents_from.Goals as goal

pub documents-init : goal.documents-init
documents-init c = record {
  between = c.requires;
  documents = rw c.new-documents.ensures.items refl;
  small = none_small _ c.new-documents.ensures.items;
  fault = refl;
}

pub documents-preserved : goal.documents-preserved
documents-preserved c =
    let next = rw c.in-Ok-Some.field-0-is at c.in-Ok-Some.ensures.next in
    record {
      between = c.next_document.ensures.between;
      documents = documents_on _ _ _ _ _ _ c.documents.invariant.documents next c.in-Ok.ensures.items;
      small = small_on _ _ _ _ _ c.documents.invariant.small next c.in-Ok.ensures.items;
      fault = fault_on _ _ _ _ c.documents.invariant.fault next;
    }

pub returns-in-Ok-None : goal.returns-in-Ok-None
returns-in-Ok-None c = λ from input h.
    let e = reads_to_load from input c.args.reading.now.parser h in
    let next = rw c.in-Ok-None.field-0-is at c.in-Ok-None.ensures.next in
    documents_read from input c.documents.documents.items c.documents.reading.parser (c.documents.invariant.documents ∙ ap (λ (z : Loads). z.documents) e)
    (c.documents.invariant.fault ∙ ap (λ (z : Loads). z.fault) e) c.documents.invariant.small next

pub returns-in-Err : goal.returns-in-Err
returns-in-Err c = λ from input h.
    let e = reads_to_load from input c.args.reading.now.parser h in
    documents_refused from input c.documents.reading.parser c.in-Err.fault (c.documents.invariant.fault ∙ ap (λ (z : Loads). z.fault) e) c.in-Err.ensures.next
