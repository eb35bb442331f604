-- The repeated keys of the next document are listed, and the others are left.
use Rattle.std.proofs.Common.{refl}
use Rattle.yaml_round_engine.proofs.Reloading.{fault_on}
use Rattle.yaml_round.proofs.KeysTold.{told_first, told_on, told_all, told_refused}
use Rattle.yaml_round.proofs.check_keys.keys_from.Goals as goal

pub documents-init : goal.documents-init
documents-init c = record { between = c.requires; told = told_first _ _ c.new-told.ensures.items; fault = refl }

pub documents-preserved : goal.documents-preserved
documents-preserved c =
    let next = rw c.in-Ok-Some.field-0-is at c.in-Ok-Some.ensures.next in
    record {
      between = c.next_document.ensures.between;
      told = told_on _ _ _ _ _ _ c.documents.invariant.told next c.in-Ok.ensures;
      fault = fault_on _ _ _ _ c.documents.invariant.fault next;
    }

pub returns-in-Ok-None : goal.returns-in-Ok-None
returns-in-Ok-None c = λ from input h.
    let next = rw c.in-Ok-None.field-0-is at c.in-Ok-None.ensures.next in
    told_all from input c.documents.told.items c.args.reading.now.parser c.documents.reading.parser h c.documents.invariant.told c.documents.invariant.fault next

pub returns-in-Err : goal.returns-in-Err
returns-in-Err c = λ from input h.
    told_refused from input c.args.reading.now.parser c.documents.reading.parser c.in-Err.fault h c.documents.invariant.fault c.in-Err.ensures.next
