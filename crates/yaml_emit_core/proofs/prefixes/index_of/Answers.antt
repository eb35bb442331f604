use Rattle.yaml_emit_core.proofs.Numbering.{index_made}
use Rattle.yaml_emit_core.proofs.prefixes.index_of.Goals as goal

pub returns : goal.returns
returns c = index_made _ _ _ c.in_ok-entries.ensures c.in_ok-sort.ensures.permutation c.in_ok-sort.ensures.sorted
