-- What the call answers is what C receives.
use mir.Syntax.{w32}
use mir.Val.{SFits}
use Rattle.std.proofs.Common.{rules}
use Rattle.std.proofs.lemmas.Int.{to_z-of_z}
use Rattle.yaml_round_answers.proofs.Exact.{emitted_exact}
use Rattle.yaml_round_c.proofs.emitting.yaml_c_emit.Goals as goal

pub returns-clause-told : goal.returns-clause-told
returns-clause-told c = c.answered_by.ensures

pub returns-clause-kind : goal.returns-clause-kind
returns-clause-kind c =
    let kind : SFits w32 c.answered_by.result.kind = search rules in
    to_z-of_z w32 c.answered_by.result.kind kind

pub returns-clause-exact : goal.returns-clause-exact
returns-clause-exact c = emitted_exact _ _ _ (returns-clause-kind c) (returns-clause-told c)
