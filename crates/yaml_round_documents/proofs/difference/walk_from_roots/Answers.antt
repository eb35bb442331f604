use Rattle.std.proofs.Common.{subst, sym}
use Rattle.yaml_round_documents.specs.Steps.{Begins}
use Rattle.yaml_round_documents.proofs.Comparing.{roots_met}
use Rattle.yaml_round_documents.proofs.difference.walk_from_roots.Goals as goal

pub compare_all-requires-clause-start : goal.compare_all-requires-clause-start
compare_all-requires-clause-start c =
    let nodes = c.args.first.now.nodes in
    let others = c.args.second.now.nodes in
    subst (Begins nodes others c.args.labels.now c.meet.new.self) (sym c.new-told.ensures.items)
    (roots_met nodes others c.args.labels.now c.new-walk.result c.meet.new.self c.new-walk.ensures.none c.in_ok-meet.ensures)
