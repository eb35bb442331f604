use Rattle.std.proofs.Common.{arith}
use Rattle.yaml_round_documents.proofs.Numbering.{numbered_start, numbered_on}
use Rattle.yaml_round_documents.proofs.matching.number_labels.Goals as goal

pub loop-at-init : goal.loop-at-init
loop-at-init c = numbered_start c.args.labels.now c.new-names.result.items c.new-counts.result c.new-names.ensures.items c.new-counts.ensures

pub loop-at-preserved : goal.loop-at-preserved
loop-at-preserved c = numbered_on c.args.labels.now c.loop-at.at c.loop-at.names.items c.push.new.self.items c.loop-at.counts c.count.new.counts c.in_ok-number.number c.loop-at.invariant (omega arith) c.in_ok-number.ensures c.in_ok-push.ensures.items
