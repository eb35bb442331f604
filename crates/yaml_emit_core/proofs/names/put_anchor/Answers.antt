use Rattle.yaml_emit_core.proofs.Spellings.{anchor_lays}
use Rattle.yaml_emit_core.proofs.names.put_anchor.Goals as goal

pub returns : goal.returns
returns c = anchor_lays c.args.name.now _ _ c.put_word.ensures
