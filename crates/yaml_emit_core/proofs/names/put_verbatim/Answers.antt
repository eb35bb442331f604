use Rattle.yaml_emit_core.proofs.Spellings.{word_more, letters_more}
use Rattle.yaml_emit_layout.specs.Tags.{spelled}
use Rattle.yaml_emit_core.proofs.names.put_verbatim.Goals as goal

pub returns : goal.returns
unfolding spelled
returns c = word_more _ _ _ _ _ c.put_front.ensures (letters_more _ _ _ _ _ c.put_uri.ensures c.put_text.ensures)
