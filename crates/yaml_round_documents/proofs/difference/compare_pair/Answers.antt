use Rattle.std.proofs.Common.{ap, sym, ◌++◌, ◌∙◌}
use Rattle.yaml_round_documents.specs.Differences.{told_cause}
use Rattle.yaml_round_documents.proofs.Comparing.{alike_compared, on_both}
use Rattle.yaml_round_documents.proofs.difference.compare_pair.Goals as goal

pub returns-then-same_kind : goal.returns-then-same_kind
returns-then-same_kind c =
    let before = c.args.told.now.items in
    let own = c.in_ok-tell_cause.ensures ∙ ap (λ o. before ++ told_cause c.args.number c.args.pair o) c.own_cause.ensures in
    on_both c.compare_alike.result
    (λ t p. alike_compared c.args.first.now.nodes c.args.second.now.nodes c.args.labels.now c.args.number c.args.pair c.args.walk.now c.compare_alike.new.walk before c.tell_cause.new.told.items c.compare_alike.new.told.items (sym c.same_kind.ensures ∙ c.if-same_kind.true) own t p)
    c.compare_alike.ensures.told c.compare_alike.ensures.pushes
