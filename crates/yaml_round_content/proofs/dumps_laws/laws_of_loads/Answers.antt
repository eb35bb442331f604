use Rattle.yaml_round_content.proofs.DumpsTrees.{numbered_back}
use Rattle.yaml_emit_laws.proofs.DumpsWhole.{number_back, numbers_found}
use Rattle.yaml_emit_laws.proofs.Again.{again_turns}
use Rattle.yaml_emit_laws.proofs.Apart.{again_all, apart_all}
use Rattle.yaml_emit_laws.proofs.DumpsBack.{numbered_back as numbered_back-dumps_number_back}
use Rattle.yaml_round_content.proofs.Agreeing.{dumps_loaded}
use Rattle.yaml_round_content.proofs.Loading.{content_loaded}
use Rattle.yaml_parse_loader.proofs.Loads.{loads_document}
use Rattle.yaml_round_content.proofs.DumpsSaying.{content_said}
use Rattle.yaml_round_content.proofs.DumpsContents.{loads_of_contents}
use Rattle.yaml_round_content.proofs.dumps_laws.laws_of_loads.Goals as goal

pub returns-clause-dumps_are_numbered_back : goal.returns-clause-dumps_are_numbered_back
returns-clause-dumps_are_numbered_back c = numbered_back (number_back again_all again_turns (numbers_found apart_all) numbered_back-dumps_number_back)

pub returns-clause-dumps_load_back : goal.returns-clause-dumps_load_back
returns-clause-dumps_load_back c = dumps_loaded content_said (content_loaded loads_document) (numbered_back (number_back again_all again_turns (numbers_found apart_all) numbered_back-dumps_number_back)) loads_of_contents
