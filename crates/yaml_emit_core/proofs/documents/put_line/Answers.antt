use Rattle.yaml_emit_core.proofs.Endings.{home_lays}
use Rattle.yaml_emit_core.proofs.documents.put_line.Goals as goal

pub returns : goal.returns
returns c = home_lays c.args.settings.now _ _ _ c.requires.line_break c.put_line.ensures
