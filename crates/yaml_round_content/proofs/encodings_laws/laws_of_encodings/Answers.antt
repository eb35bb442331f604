use Rattle.yaml_round_content.proofs.EncodingsJoining.{no_matter}
use Rattle.yaml_round_content.proofs.EncodingsSpelled.{characters_enough}
use Rattle.yaml_round_content.proofs.encodings_laws.laws_of_encodings.Goals as goal

pub returns-clause-encodings_do_not_matter : goal.returns-clause-encodings_do_not_matter
returns-clause-encodings_do_not_matter c = no_matter

pub returns-clause-characters_are_enough : goal.returns-clause-characters_are_enough
returns-clause-characters_are_enough c = characters_enough no_matter
