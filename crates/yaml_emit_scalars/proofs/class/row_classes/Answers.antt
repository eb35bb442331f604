use Rattle.std.proofs.Common.{◌≡◌, ◌+◌, arith}
use Rattle.yaml_emit_scalars.proofs.ClassLemmas.{covers_more}
use Rattle.yaml_emit_scalars.proofs.class.row_classes.Goals as goal

pub bytes-init : goal.bytes-init
bytes-init c = (omega arith, λ k l u. absurd (omega (arith, l, u)))

pub bytes-preserved : goal.bytes-preserved
bytes-preserved c =
    let next : c.args.at + c.bytes.count + 1 ≡ c.args.at + (c.bytes.count + 1) = omega arith in
    (omega (arith, c.bytes-test.true), rw (c.class_of-all.ensures, ← next) (covers_more _ c.args.text.now c.args.at (c.args.at + c.bytes.count) c.bytes.invariant.1))
