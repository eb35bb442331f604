use Rattle.std.proofs.Common.{◌≡◌, map}
use Rattle.std.proofs.lemmas.Result.{IfOk-weaker}
use Rattle.std.specs.FinMap as finite
use Rattle.yaml_round_documents.specs.Matching.{name_of, places_in}
use Rattle.yaml_round_documents.proofs.Placing.{found_by}
use Rattle.yaml_round_documents.proofs.matching.partners_of.Goals as goal

pub returns : goal.returns
returns c =
    let names = c.args.names.now in
    let others = c.args.others.now in
    let places = c.in_ok-places.places in
    IfOk-weaker c.find_places.result (λ found. found.items ≡ map (λ n. finite.get places (name_of n)) names)
    (λ found. found.items ≡ places_in (map name_of others) (map name_of names))
    (λ found e. found_by names others places found.items c.in_ok-places.ensures e) c.find_places.ensures
