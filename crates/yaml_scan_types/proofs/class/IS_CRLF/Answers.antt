use Rattle.std.proofs.Common.{◌∙◌, ◌+◌, ◌==◌, ap, arith}
use Rattle.yaml_scan_types.specs.Marks.{byte}
use Rattle.yaml_scan_types.proofs.ClassesLemmas.{both_first, not_both}
use Rattle.yaml_scan_types.proofs.class.IS_CRLF.Goals as goal

pub returns-then-byte_here-eq13 : goal.returns-then-byte_here-eq13
returns-then-byte_here-eq13 c =
    let text = c.args.string.now in
    let p = c.args.place in
    ap (λ b. b == 10) c.byte_at.ensures ∙ both_first (byte text p) 13 (byte text (p + 1) == 10) (omega (arith, c.byte_here.ensures, c.if-byte_here-eq13.true))

pub returns-else-byte_here-eq13 : goal.returns-else-byte_here-eq13
returns-else-byte_here-eq13 c =
    let text = c.args.string.now in
    let p = c.args.place in
    ap (λ b. b == 13) c.byte_here.ensures ∙ not_both (byte text p) 13 (byte text (p + 1) == 10) (omega (arith, c.byte_here.ensures, c.if-byte_here-eq13.false))
