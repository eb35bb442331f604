use Rattle.yaml_emit_laws.proofs.Apart.{apart_all, again_all}
use Rattle.yaml_emit_laws.proofs.Again.{again_turns}
use Rattle.yaml_emit_laws.proofs.Finding.{names_apart}
use Rattle.yaml_emit_laws.proofs.DumpsWhole.{numbers_found, number_back, load_back}
use Rattle.yaml_emit_graph.proofs.Joining.{walk_whole}
use Rattle.yaml_emit_laws.proofs.DumpsBack.{numbered_back}
use Rattle.yaml_parse_loader.proofs.Loads.{loads_document}
use Rattle.yaml_emit_laws.proofs.dumps_laws.laws_of_dumps.Goals as goal

pub returns-clause-numbers_are_apart : goal.returns-clause-numbers_are_apart
returns-clause-numbers_are_apart c = apart_all

pub returns-clause-met_again_are_numbered : goal.returns-clause-met_again_are_numbered
returns-clause-met_again_are_numbered c = again_all

pub returns-clause-agains_are_turns : goal.returns-clause-agains_are_turns
returns-clause-agains_are_turns c = again_turns

pub returns-clause-names_are_apart : goal.returns-clause-names_are_apart
returns-clause-names_are_apart c = names_apart

pub returns-clause-numbers_are_found : goal.returns-clause-numbers_are_found
returns-clause-numbers_are_found c = numbers_found apart_all

pub returns-clause-walks_are_whole : goal.returns-clause-walks_are_whole
returns-clause-walks_are_whole c = walk_whole

pub returns-clause-visits_number_back : goal.returns-clause-visits_number_back
returns-clause-visits_number_back c = numbered_back

pub returns-clause-dumps_number_back : goal.returns-clause-dumps_number_back
returns-clause-dumps_number_back c = number_back again_all again_turns (numbers_found apart_all) numbered_back

pub returns-clause-dumps_load_back : goal.returns-clause-dumps_load_back
returns-clause-dumps_load_back c = load_back loads_document (number_back again_all again_turns (numbers_found apart_all) numbered_back)
