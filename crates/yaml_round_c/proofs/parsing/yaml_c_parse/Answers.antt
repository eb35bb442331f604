-- What the call answers is what C receives.
use mir.Syntax.{w32}
use mir.Val.{SFits}
use Rattle.std.proofs.Common.{◌∙◌, refl, rules}
use Rattle.std.proofs.lemmas.Int.{to_z-of_z}
use Rattle.std.proofs.Math.Logic.{⊎_map}
use Rattle.yaml_round_answers.proofs.Exact.{parsed_told, parsed_none, parsed_exact}
use Rattle.yaml_round_c.proofs.parsing.yaml_c_parse.Goals as goal

pub returns-clause-told : goal.returns-clause-told
returns-clause-told c =
    let fits : SFits w32 c.args.from = search rules in
    parsed_told _ _ _ _ _ (to_z-of_z w32 c.args.from fits) c.given_by.ensures.told

pub returns-clause-none : goal.returns-clause-none
returns-clause-none c =
    let kind : SFits w32 c.given_by.result.kind = search rules in
    ⊎_map (λ p. to_z-of_z w32 c.given_by.result.kind kind ∙ p) (λ h. h) (parsed_none _ _ _ c.given_by.ensures.none)

pub returns-clause-kind : goal.returns-clause-kind
returns-clause-kind c =
    let kind : SFits w32 c.given_by.result.kind = search rules in
    to_z-of_z w32 c.given_by.result.kind kind

pub returns-clause-exact : goal.returns-clause-exact
returns-clause-exact c = parsed_exact _ _ _ _ _ _ refl (returns-clause-kind c) (returns-clause-told c)
