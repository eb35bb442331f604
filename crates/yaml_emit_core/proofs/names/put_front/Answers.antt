use Rattle.yaml_emit_core.proofs.Spellings.{front_lays}
use Rattle.yaml_emit_core.proofs.names.put_front.Goals as goal

pub returns : goal.returns
returns c = front_lays c.args.front.now _ _ c.requires.some c.put_word.ensures
