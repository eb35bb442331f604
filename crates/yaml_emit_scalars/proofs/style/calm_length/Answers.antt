use Rattle.std.proofs.Common.{ap, length, arith, inl, inr}
use Rattle.std.proofs.lemmas.Bool.{ne_eqb}
use Rattle.yaml_emit_scalars.proofs.Calm.{calm_all, calm_less}
use Rattle.yaml_emit_scalars.proofs.style.calm_length.Goals as goal

pub returns-then-count-bytes : goal.returns-then-count-bytes
returns-then-count-bytes c =
    let is = c.as_bytes-bytes.ensures.value in
    calm_all c.args.unicode _ _ c.utf8.text (rw is at c.calm_end-count.ensures) (inl (omega (arith, c.if-count-bytes.true, ap length is)))

pub returns-then-count-eq0 : goal.returns-then-count-eq0
returns-then-count-eq0 c = let is = c.as_bytes-bytes.ensures.value in calm_all c.args.unicode _ _ c.utf8.text (rw is at c.calm_end-count.ensures) (inr (inl c.if-count-eq0.true))

pub returns-then-bytes-count-ne32 : goal.returns-then-bytes-count-ne32
returns-then-bytes-count-ne32 c =
    let is = c.as_bytes-bytes.ensures.value in
    calm_all c.args.unicode _ _ c.utf8.text (rw is at c.calm_end-count.ensures) (inr (inr (ne_eqb _ 32 (rw is at c.if-bytes-count-ne32.true))))

pub returns : goal.returns
returns c =
    let is = c.as_bytes-bytes.ensures.value in
    calm_less c.args.unicode _ _ c.utf8.text (rw is at c.calm_end-count.ensures) (omega (arith, c.if-count-eq0.false)) (rw is at c.if-bytes-count-ne32.false)
