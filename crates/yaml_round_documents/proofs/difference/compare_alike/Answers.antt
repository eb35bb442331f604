use Rattle.std.proofs.Common.{rules, ◌≡◌, ◌++◌, List, ℕ, ℤ, OnOk, w32, ap, subst, ◌∙◌}
use Rattle.std.proofs.lemmas.Int.{to_z-of_z}
use Rattle.yaml_emit_graph.specs.Graph.{body_of_id, number_at}
use Rattle.yaml_round_documents.specs.Pairs.{held_values, key_labels, pairs_by}
use Rattle.yaml_round_documents.specs.Matching.{matched}
use Rattle.yaml_round_documents.specs.Differences.{told_held}
use Rattle.yaml_round_documents.specs.Steps.{PushesOn, first_of, second_of}
use Rattle.yaml_round_documents.proofs.difference.compare_alike.Goals as goal

pub returns-clause-told : goal.returns-clause-told
returns-clause-told c =
    let own = c.in_ok-own.ensures.labels
    ∙ ap (λ id. key_labels (number_at c.deref.result.now) (body_of_id c.args.first.now.nodes id)) (to_z-of_z w32 c.args.pair.first (search rules))
    ∙ ap (λ t. key_labels (number_at t) (body_of_id c.args.first.now.nodes c.args.pair.first)) c.deref.ensures.value in
    let others = c.in_ok-others.ensures.labels
    ∙ ap (λ id. key_labels (number_at c.deref-2.result.now) (body_of_id c.args.second.now.nodes id)) (to_z-of_z w32 c.args.pair.second (search rules))
    ∙ ap (λ t. key_labels (number_at t) (body_of_id c.args.second.now.nodes c.args.pair.second)) c.deref-2.ensures.value in
    let new = c.compare_held.new.told.items in
    let T : List ℕ → List ℕ → Type 0 = λ x y. OnOk c.compare_held.result (new ≡ c.args.told.now.items ++ told_held c.args.number c.args.pair x y) in
    subst (T (key_labels (first_of c.args.labels.now) (body_of_id c.args.first.now.nodes c.args.pair.first))) others
    (subst (λ x. T x c.in_ok-others.others.labels.items) own c.compare_held.ensures.told)

pub returns-clause-pushes : goal.returns-clause-pushes
returns-clause-pushes c =
    let own = c.in_ok-own.ensures.labels
    ∙ ap (λ id. key_labels (number_at c.deref.result.now) (body_of_id c.args.first.now.nodes id)) (to_z-of_z w32 c.args.pair.first (search rules))
    ∙ ap (λ t. key_labels (number_at t) (body_of_id c.args.first.now.nodes c.args.pair.first)) c.deref.ensures.value in
    let others = c.in_ok-others.ensures.labels
    ∙ ap (λ id. key_labels (number_at c.deref-2.result.now) (body_of_id c.args.second.now.nodes id)) (to_z-of_z w32 c.args.pair.second (search rules))
    ∙ ap (λ t. key_labels (number_at t) (body_of_id c.args.second.now.nodes c.args.pair.second)) c.deref-2.ensures.value in
    let P : List ℤ → List ℤ → List ℕ → List ℕ → Type 0 = λ v w x y. OnOk c.compare_held.result (PushesOn c.args.labels.now (pairs_by c.args.number 0 v w (matched x y)) c.args.walk.now c.compare_held.new.walk) in
    let first = key_labels (first_of c.args.labels.now) (body_of_id c.args.first.now.nodes c.args.pair.first) in
    let second = key_labels (second_of c.args.labels.now) (body_of_id c.args.second.now.nodes c.args.pair.second) in
    let held = held_values (body_of_id c.args.first.now.nodes c.args.pair.first) in
    let w = c.in_ok-others.others.values.items in
    let values = c.in_ok-own.ensures.values ∙ ap (λ id. held_values (body_of_id c.args.first.now.nodes id)) (to_z-of_z w32 c.args.pair.first (search rules)) in
    let other_values = c.in_ok-others.ensures.values ∙ ap (λ id. held_values (body_of_id c.args.second.now.nodes id)) (to_z-of_z w32 c.args.pair.second (search rules)) in
    subst (λ z. P held z first second) other_values
    (subst (λ z. P z w first second) values
    (subst (λ y. P c.in_ok-own.own.values.items w first y) others
    (subst (λ x. P c.in_ok-own.own.values.items w x c.in_ok-others.others.labels.items) own c.compare_held.ensures.pushes)))
