use Rattle.yaml_round_documents.proofs.Settling.{labels_tell}
use Rattle.yaml_round_documents.proofs.ranks.label_both.Goals as goal

pub returns-in_ok-labels-in-Ok : goal.returns-in_ok-labels-in-Ok
returns-in_ok-labels-in-Ok c =
    labels_tell c.args.first.now.nodes c.args.second.now.nodes c.in-Ok.table.items c.rank_both.new.self c.in_ok-labels-in-Ok.labels c.in-Ok.ensures c.in_ok-labels-in-Ok.ensures
