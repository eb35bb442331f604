use Rattle.std.proofs.Common.{◌≡◌, map, take}
use Rattle.std.specs.FinMap as finite
use Rattle.yaml_round_documents.specs.Matching.{name_of}
use Rattle.yaml_round_documents.proofs.matching.find_places.Given as goal

abbrev pub invariant-loop-at : goal.invariant-loop-at
invariant-loop-at l = l.found.items ≡ map (λ n. finite.get l.places (name_of n)) (take l.at l.names)
