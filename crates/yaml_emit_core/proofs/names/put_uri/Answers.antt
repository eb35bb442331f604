use Rattle.yaml_emit_scalars.proofs.LaysLemmas.{lays_same}
use Rattle.yaml_emit_core.proofs.Spellings.{uri_more, uri_all}
use Rattle.yaml_emit_core.proofs.names.put_uri.Goals as goal

pub loop-byte-init : goal.loop-byte-init
loop-byte-init c = lays_same _ _

pub loop-byte-preserved : goal.loop-byte-preserved
loop-byte-preserved c = uri_more _ _ _ _ _ _ c.loop-byte-test.true c.loop-byte.invariant c.put_uri_byte.ensures

pub returns : goal.returns
returns c = uri_all _ _ _ _ _ c.loop-byte-test.false c.loop-byte.invariant
