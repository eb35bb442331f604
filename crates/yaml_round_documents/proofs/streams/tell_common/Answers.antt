use Rattle.std.proofs.Common.{arith}
use Rattle.yaml_round_documents.proofs.Streaming.{common_on}
use Rattle.yaml_round_documents.proofs.streams.tell_common.Goals as goal

pub loop-at-preserved : goal.loop-at-preserved
loop-at-preserved c =
    common_on c.args.first.now.items c.args.second.now.items c.loop-at.at c.index.result.now c.index-in-loop-at.result.now c.args.stream.now c.loop-at.stream c.tell_differences.new.stream c.loop-at.invariant (omega arith) (omega arith) c.index.ensures c.index-in-loop-at.ensures c.in_ok-tell_differences.ensures
