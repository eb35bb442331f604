use Rattle.std.proofs.Common.{refl, arith}
use Rattle.yaml_emit_scalars.specs.Classes.{class_of}
use Rattle.yaml_emit_scalars.specs.declared.class.TheConstants.{CLASSES}
use Rattle.yaml_emit_scalars.proofs.ClassLemmas.{table_is}
use Rattle.yaml_emit_scalars.proofs.class.class_of.Goals as goal

pub returns : goal.returns
unfolding class_of
returns c = table_is CLASSES c.args.byte (omega arith) refl
