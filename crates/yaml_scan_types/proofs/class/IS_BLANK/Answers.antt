use Rattle.std.proofs.Common.{◌∙◌, ◌==◌, ap, arith}
use Rattle.yaml_scan_types.specs.Marks.{byte}
use Rattle.yaml_scan_types.proofs.ClassesLemmas.{either_first, either_second}
use Rattle.yaml_scan_types.proofs.class.IS_BLANK.Goals as goal

pub returns-then-byte-eq32 : goal.returns-then-byte-eq32
returns-then-byte-eq32 c =
    let b = byte c.args.string.now c.args.place in
    ap (λ b. b == 32) c.byte_here-byte.ensures ∙ either_first b 32 (b == 9) (omega (arith, c.byte_here-byte.ensures, c.if-byte-eq32.true))

pub returns-else-byte-eq32 : goal.returns-else-byte-eq32
returns-else-byte-eq32 c =
    let b = byte c.args.string.now c.args.place in
    ap (λ b. b == 9) c.byte_here-byte.ensures ∙ either_second b 32 (b == 9) (omega (arith, c.byte_here-byte.ensures, c.if-byte-eq32.false))
