-- What the call answers is what C receives.
use mir.Syntax.{w32}
use mir.Val.{SFits}
use Rattle.std.proofs.Common.{◌∙◌, rules}
use Rattle.std.proofs.lemmas.Int.{to_z-of_z}
use Rattle.std.proofs.Math.Logic.{⊎_map}
use Rattle.yaml_round_answers.proofs.Dumping.{serialized_exact}
use Rattle.yaml_round_c.proofs.serializing.yaml_c_serialize.Goals as goal

pub returns-clause-told : goal.returns-clause-told
returns-clause-told c = c.serialized_by.ensures.told

pub returns-clause-none : goal.returns-clause-none
returns-clause-none c =
    let kind : SFits w32 c.serialized_by.result.kind = search rules in
    ⊎_map (λ p. to_z-of_z w32 c.serialized_by.result.kind kind ∙ p) (λ h. h) c.serialized_by.ensures.none

pub returns-clause-kind : goal.returns-clause-kind
returns-clause-kind c =
    let kind : SFits w32 c.serialized_by.result.kind = search rules in
    to_z-of_z w32 c.serialized_by.result.kind kind

pub returns-clause-exact : goal.returns-clause-exact
returns-clause-exact c = serialized_exact c.args.graph.now _ _ _ (returns-clause-kind c) (returns-clause-told c)
