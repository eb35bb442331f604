use Rattle.yaml_round_content.proofs.Loading.{content_loaded}
use Rattle.yaml_parse_loader.proofs.Loads.{loads_document}
use Rattle.yaml_round_content.proofs.dumps_laws.content_is_loaded.Goals as goal

pub returns : goal.returns
returns c = content_loaded loads_document
