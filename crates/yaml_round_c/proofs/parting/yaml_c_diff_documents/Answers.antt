-- What the call answers is what C receives.
use mir.Syntax.{w32}
use mir.Val.{SFits}
use Rattle.std.proofs.Common.{refl, rules}
use Rattle.std.proofs.lemmas.Int.{to_z-of_z}
use Rattle.yaml_round_answers.proofs.PartingExact.{documents_told, documents_exact}
use Rattle.yaml_round_c.proofs.parting.yaml_c_diff_documents.Goals as goal

pub returns-clause-told : goal.returns-clause-told
returns-clause-told c =
    let first : SFits w32 c.args.first_from = search rules in
    let second : SFits w32 c.args.second_from = search rules in
    documents_told _ _ _ _ _ _ _ (to_z-of_z w32 c.args.first_from first) (to_z-of_z w32 c.args.second_from second) c.documents_parted_by.ensures

pub returns-clause-kind : goal.returns-clause-kind
returns-clause-kind c =
    let kind : SFits w32 c.documents_parted_by.result.answer.kind = search rules in
    to_z-of_z w32 c.documents_parted_by.result.answer.kind kind

pub returns-clause-exact : goal.returns-clause-exact
returns-clause-exact c = documents_exact _ _ _ _ _ _ _ _ refl refl (returns-clause-kind c) (returns-clause-told c)
