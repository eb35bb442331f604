use Rattle.yaml_emit_core.proofs.Fresh.{fresh_core}
use Rattle.yaml_emit_core.proofs.emitter.Core.new.Goals as goal

pub invariant_of-result : goal.invariant_of-result
invariant_of-result c = fresh_core c.args.settings _ _ _ _ _ _ _ _ _ c.requires.step c.new.ensures.output c.new.ensures.set c.new-2.ensures
