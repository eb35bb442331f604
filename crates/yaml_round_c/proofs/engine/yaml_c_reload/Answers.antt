-- What the call answers is what C receives.
use mir.Syntax.{w32}
use mir.Val.{SFits}
use Rattle.std.proofs.Common.{refl, rules}
use Rattle.std.proofs.lemmas.Int.{to_z-of_z}
use Rattle.yaml_round_answers.proofs.Exact.{reloaded_told, reloaded_exact}
use Rattle.yaml_round_c.proofs.engine.yaml_c_reload.Goals as goal

pub returns-clause-told : goal.returns-clause-told
returns-clause-told c =
    let fits : SFits w32 c.args.from = search rules in
    reloaded_told _ _ _ _ _ (to_z-of_z w32 c.args.from fits) c.reloaded_by.ensures

pub returns-clause-kind : goal.returns-clause-kind
returns-clause-kind c =
    let kind : SFits w32 c.reloaded_by.result.kind = search rules in
    to_z-of_z w32 c.reloaded_by.result.kind kind

pub returns-clause-exact : goal.returns-clause-exact
returns-clause-exact c = reloaded_exact _ _ _ _ _ _ refl (returns-clause-kind c) (returns-clause-told c)
