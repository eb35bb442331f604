use Rattle.std.proofs.Common.{arith, refl}
use Rattle.yaml_scan.specs.Scanned.{scanned}
use Rattle.yaml_round_reading.proofs.AdapterLemmas.{HaveTexts, scanned_texts, begun_little}
use Rattle.yaml_round_reading.proofs.adapter.yaml_adapter_t.new.Goals as goal

pub invariant_of-result : goal.invariant_of-result
invariant_of-result c =
    let texts : HaveTexts (scanned c.args.encoding c.args.input.now) = scanned_texts c.args.encoding c.args.input.now (λ k. omega (arith, c.type_inv.input k)) in
    rw c.new.ensures (record { little = begun_little c.args.encoding c.args.input.now; texts = texts })

pub returns-clause-begun : goal.returns-clause-begun
returns-clause-begun c = rw c.new.ensures refl

pub returns-clause-comes : goal.returns-clause-comes
returns-clause-comes c = rw c.new.ensures refl
