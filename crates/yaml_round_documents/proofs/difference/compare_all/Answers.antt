use Rattle.std.proofs.Common.{sym}
use Rattle.yaml_round_documents.proofs.Comparing.{compared_all, compared_next}
use Rattle.yaml_round_documents.proofs.difference.compare_all.Goals as goal

pub returns-in-None : goal.returns-in-None
returns-in-None c = compared_all c.args.first.now.nodes c.args.second.now.nodes c.args.labels.now c.loop-done.done c.loop-done.walk c.loop-done.told.items c.loop-done.invariant.0 c.loop-done.invariant.1 (sym c.in-None.ensures)

pub loop-done-preserved : goal.loop-done-preserved
loop-done-preserved c =
    let pair = c.in_ok-compare_pair-in-Some.ensures in
    (pair.pushes.0, compared_next c.args.first.now.nodes c.args.second.now.nodes c.args.labels.now c.loop-done.done c.in-Some.pair c.loop-done.walk c.compare_pair.new.walk c.loop-done.told.items c.compare_pair.new.told.items c.loop-done.invariant.1 (sym c.in-Some.ensures) pair)
