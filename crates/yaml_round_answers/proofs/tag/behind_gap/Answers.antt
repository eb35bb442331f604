use Rattle.std.proofs.Common.{◌<◌, true, refl, ◌∙◌, arith}
use Rattle.yaml_scan_history.specs.Between.{step_at}
use Rattle.yaml_round_answers.proofs.Gaps.{gap_on, gap_done}
use Rattle.yaml_round_answers.proofs.tag.behind_gap.Goals as goal

pub past_white-next-requires-in-gap : goal.past_white-next-requires-in-gap
past_white-next-requires-in-gap c =
    let far : c.gap.at < (step_at true c.args.text.now c.gap.at).place = omega (arith, c.gap.invariant.next, c.gap-test.true) in
    rw c.gap.invariant.next (gap_on c.args.text.now c.gap.at far).1

pub gap-smaller : goal.gap-smaller
gap-smaller c =
    let far : c.gap.at < (step_at true c.args.text.now c.gap.at).place = omega (arith, c.gap.invariant.next, c.gap-test.true) in
    let inside = (gap_on c.args.text.now c.gap.at far).1 in
    omega (arith, c.gap.invariant.next, inside)

pub gap-preserved : goal.gap-preserved
gap-preserved c =
    let far : c.gap.at < (step_at true c.args.text.now c.gap.at).place = omega (arith, c.gap.invariant.next, c.gap-test.true) in
    let on = gap_on c.args.text.now c.gap.at far in
    record {
      inside = rw c.gap.invariant.next on.1;
      next = c.past_white-next-in-gap.ensures;
      rest = rw c.gap.invariant.next (c.gap.invariant.rest ∙ on.0);
    }

pub returns : goal.returns
returns c =
    let done = gap_done c.args.text.now c.gap.at (omega (arith, c.gap.invariant.next, c.gap-test.false)) in
    rw (c.byte.ensures, c.gap.invariant.rest, done) refl
