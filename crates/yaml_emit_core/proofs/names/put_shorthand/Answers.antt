use Rattle.yaml_emit_core.proofs.Spellings.{word_more}
use Rattle.yaml_emit_layout.specs.Tags.{spelled}
use Rattle.yaml_emit_core.proofs.names.put_shorthand.Goals as goal

pub returns : goal.returns
unfolding spelled
returns c = word_more _ _ _ _ _ c.put_handle.ensures c.put_uri.ensures
