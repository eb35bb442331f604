use Rattle.yaml_round_content.proofs.Agreeing.{inputs_loaded}
use Rattle.yaml_round_content.proofs.dumps_laws.inputs_load_documents.Goals as goal

pub returns : goal.returns
returns c = inputs_loaded c.content_is_said.ensures c.content_is_loaded.ensures c.content_loads_documents.ensures c.inputs_are_writable.ensures c.loads_of_content.ensures
