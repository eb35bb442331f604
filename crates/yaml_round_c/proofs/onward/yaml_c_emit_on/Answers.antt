-- What the call answers is what C receives.
use mir.Syntax.{w32}
use mir.Val.{SFits}
use Rattle.std.proofs.Common.{◌∙◌, rules}
use Rattle.std.proofs.lemmas.Int.{to_z-of_z}
use Rattle.std.proofs.Math.Logic.{⊎_map}
use Rattle.yaml_round_answers.proofs.EmittedPieces.{onward_exact}
use Rattle.yaml_round_c.proofs.onward.yaml_c_emit_on.Goals as goal

pub returns-clause-told : goal.returns-clause-told
returns-clause-told c = c.onward_by.ensures.told

pub returns-clause-left : goal.returns-clause-left
returns-clause-left c =
    let kind : SFits w32 c.onward_by.result.kind = search rules in
    ⊎_map (λ p. to_z-of_z w32 c.onward_by.result.kind kind ∙ p) (λ h. h) c.onward_by.ensures.left

pub returns-clause-kind : goal.returns-clause-kind
returns-clause-kind c =
    let kind : SFits w32 c.onward_by.result.kind = search rules in
    to_z-of_z w32 c.onward_by.result.kind kind

pub returns-clause-exact : goal.returns-clause-exact
returns-clause-exact c = onward_exact c.args.given.now _ c.args.stand.now _ _ _ _ (returns-clause-kind c) (returns-clause-told c)
