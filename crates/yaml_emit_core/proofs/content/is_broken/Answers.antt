use Rattle.std.proofs.Common.{sym}
use Rattle.yaml_emit_core.proofs.Broken.{unbroken}
use Rattle.yaml_emit_core.proofs.content.is_broken.Goals as goal

pub returns-then-scalar-eq0 : goal.returns-then-scalar-eq0
returns-then-scalar-eq0 c = sym (unbroken c.args.scalar.now.classes c.args.scalar.now.value.now c.requires c.if-scalar-eq0.true)
