-- Each turn takes some events, and its last one all that were left.
use Rattle.yaml_emit_machine.proofs.Dumped.{dumps_none, dumps_on}
use Rattle.yaml_emit_machine.proofs.emitter.yaml_emitter_t.dump_events.Goals as goal

pub loop-init : goal.loop-init
loop-init c = record {
  may = record {
    walk = c.requires.walk;
    begun = c.requires.begun;
    right = c.requires.right;
    none = λ none. absurd (c.requires.some none);
  };
  dumps = dumps_none _ _;
}

pub loop-preserved : goal.loop-preserved
loop-preserved c =
    let turn = c.dump_next.ensures in
    let dumps = rw c.loop-test.true at turn.dumps in
    record { may = turn.on c.loop-test.true; dumps = dumps_on _ _ _ _ _ _ c.loop.invariant.dumps dumps }

pub returns-clause-dumps : goal.returns-clause-dumps
returns-clause-dumps c =
    let last = rw c.loop-test.false at c.dump_next.ensures.dumps in
    dumps_on _ _ _ _ _ _ c.loop.invariant.dumps last

pub returns-clause-none : goal.returns-clause-none
returns-clause-none c = c.dump_next.ensures.none c.loop-test.false
