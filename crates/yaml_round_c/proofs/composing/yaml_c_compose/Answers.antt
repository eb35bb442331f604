-- What the call answers is what C receives.
use mir.Syntax.{w32}
use mir.Val.{SFits}
use Rattle.std.proofs.Common.{rules}
use Rattle.std.proofs.lemmas.Int.{to_z-of_z}
use Rattle.yaml_round_answers.proofs.Loading.{composed_exact}
use Rattle.yaml_round_c.proofs.composing.yaml_c_compose.Goals as goal

pub returns-clause-told : goal.returns-clause-told
returns-clause-told c = c.composed_by.ensures.told

pub returns-clause-none : goal.returns-clause-none
returns-clause-none c = c.composed_by.ensures.none

pub returns-clause-kind : goal.returns-clause-kind
returns-clause-kind c =
    let kind : SFits w32 c.composed_by.result.kind = search rules in
    to_z-of_z w32 c.composed_by.result.kind kind

pub returns-clause-exact : goal.returns-clause-exact
returns-clause-exact c = composed_exact c.args.bytes.now c.args.steps.now _ _ _ (returns-clause-kind c) (returns-clause-told c)
