use Rattle.std.proofs.Common.{None, arith}
use Rattle.yaml_round_documents.proofs.Walking.{numbered_here, pushed_next}
use Rattle.yaml_round_documents.proofs.walk.Walk.push_held.Goals as goal

pub push_some-requires-clause-numbers : goal.push_some-requires-clause-numbers
push_some-requires-clause-numbers c = numbered_here c.args.holder c.args.own.now c.args.others.now c.loop-at.at _ c.partner_of-pair.result c.requires.own c.requires.others (omega arith) c.partner_of-pair.ensures

pub loop-at-preserved : goal.loop-at-preserved
loop-at-preserved c = pushed_next c.args.labels.now c.args.holder c.args.own.now c.args.others.now c.args.partners.now c.loop-at.at None c.partner_of-pair.result c.args.self.now c.loop-at.self c.push_some.new.self c.loop-at.invariant (omega arith) c.requires.sized c.partner_of-pair.ensures c.in_ok-push_some.ensures
