use Rattle.yaml_emit_laws.proofs.Loaded.{loaded}
use Rattle.yaml_emit_laws.proofs.dumps_laws.documents_are_loaded.Goals as goal

pub returns : goal.returns
returns c = loaded c.numbers_follow_visits.ensures
