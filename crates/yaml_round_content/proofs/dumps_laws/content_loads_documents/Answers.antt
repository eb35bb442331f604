use Rattle.yaml_round_content.proofs.Loading.{documents_loaded}
use Rattle.yaml_round_content.proofs.dumps_laws.content_loads_documents.Goals as goal

pub returns : goal.returns
returns c = documents_loaded c.documents_are_loaded.ensures
