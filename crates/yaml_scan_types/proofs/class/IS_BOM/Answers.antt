use Rattle.std.proofs.Common.{◌∙◌, ◌+◌, ◌==◌, ◌&&◌, ap, arith}
use Rattle.yaml_scan_types.specs.Marks.{byte}
use Rattle.yaml_scan_types.proofs.ClassesLemmas.{both_first, not_both}
use Rattle.yaml_scan_types.proofs.class.IS_BOM.Goals as goal

pub returns-then-byte_at : goal.returns-then-byte_at
returns-then-byte_at c =
    let text = c.args.string.now in
    let p = c.args.place in
    let last = byte text (p + 2) == 0xBF in
    ap (λ b. b == 0xBF) c.byte_at-then-byte_at.ensures ∙ both_first (byte text (p + 1)) 0xBB last (omega (arith, c.byte_at.ensures, c.if-byte_at.true))
    ∙ both_first (byte text p) 0xEF (byte text (p + 1) == 0xBB && last) (omega (arith, c.byte_here.ensures, c.if-byte_here.true))

pub returns-else-byte_at : goal.returns-else-byte_at
returns-else-byte_at c =
    let text = c.args.string.now in
    let p = c.args.place in
    let last = byte text (p + 2) == 0xBF in
    ap (λ b. b == 0xBB) c.byte_at.ensures ∙ not_both (byte text (p + 1)) 0xBB last (omega (arith, c.byte_at.ensures, c.if-byte_at.false))
    ∙ both_first (byte text p) 0xEF (byte text (p + 1) == 0xBB && last) (omega (arith, c.byte_here.ensures, c.if-byte_here.true))

pub returns-else-byte_here : goal.returns-else-byte_here
returns-else-byte_here c =
    let text = c.args.string.now in
    let p = c.args.place in
    ap (λ b. b == 0xEF) c.byte_here.ensures ∙ not_both (byte text p) 0xEF (byte text (p + 1) == 0xBB && byte text (p + 2) == 0xBF) (omega (arith, c.byte_here.ensures, c.if-byte_here.false))
