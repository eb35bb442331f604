use Rattle.std.proofs.Common.{◌≡◌, None, refl, rules}
use Rattle.yaml_round_answers.specs.Standing.{place_told}
use Rattle.yaml_round_answers.proofs.Places.{means_none, tells_none}
use Rattle.yaml_round_answers.proofs.onward.nowhere.Goals as goal

pub returns-clause-means : goal.returns-clause-means
returns-clause-means c =
    let place : c.default.result ≡ place_told None 0 = search rules in
    means_none c.default.result _ _ _ place

pub returns-clause-told : goal.returns-clause-told
returns-clause-told c =
    let place : c.default.result ≡ place_told None 0 = search rules in
    tells_none _ place refl refl refl
