use Rattle.yaml_emit_core.proofs.Spellings.{begun, letters_next, letters_all}
use Rattle.yaml_emit_core.proofs.names.put_odd_handle.Goals as goal

pub loop-byte-init : goal.loop-byte-init
loop-byte-init c = begun _ _ _ c.put_gap.ensures

pub loop-byte-preserved : goal.loop-byte-preserved
loop-byte-preserved c = letters_next _ _ _ _ _ _ c.loop-byte-test.true c.loop-byte.invariant c.put_char.ensures

pub returns : goal.returns
returns c = letters_all _ _ _ _ _ c.loop-byte-test.false c.loop-byte.invariant
