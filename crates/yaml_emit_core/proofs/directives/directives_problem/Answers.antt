use Rattle.std.proofs.Common.{sym}
use Rattle.yaml_parse_model.specs.Events.{directive_of}
use Rattle.yaml_emit_core.proofs.Seeing.{problem_more, problem_none, taken_more, wrong, right}
use Rattle.yaml_emit_core.proofs.directives.directives_problem.Goals as goal

pub returns-in-Some : goal.returns-in-Some
returns-in-Some c = sym (problem_more directive_of _ _ _ _ _ c.loop-i-test.true c.index-directives-i.is c.loop-i.invariant.right (wrong _ _ _ _ _ _ c.in_ok-problem.ensures c.in-Some.is c.loop-i.invariant.seen))

pub loop-i-preserved : goal.loop-i-preserved
loop-i-preserved c =
    let r = right _ _ _ _ _ c.in_ok-problem.ensures c.in-None.is c.loop-i.invariant.seen in
    record {
      seen = rw (taken_more directive_of _ _ _ c.loop-i-test.true c.index-directives-i.is) r.1;
      right = problem_more directive_of _ _ _ _ _ c.loop-i-test.true c.index-directives-i.is c.loop-i.invariant.right r.0;
    }

pub returns : goal.returns
returns c = problem_none directive_of _ _ _ c.loop-i-test.false c.loop-i.invariant.right
