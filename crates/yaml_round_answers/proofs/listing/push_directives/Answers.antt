-- Each directive is added after the others.
use Rattle.std.proofs.Common.{refl, rules}
use Rattle.yaml_round_answers.proofs.Directing.{none_put, next_put, last_put}
use Rattle.yaml_round_answers.proofs.listing.push_directives.Goals as goal

pub loop-directive-init : goal.loop-directive-init
loop-directive-init c = record { at = search rules; adds = none_put c.args.listing.now }

pub loop-directive-preserved : goal.loop-directive-preserved
loop-directive-preserved c = record {
  at = c.loop-directive.invariant.at;
  adds = next_put _ c.loop-directive.listing _ _ _ c.directive-item.result c.in_ok-record.record c.loop-directive-test.true c.directive-item.is
      c.loop-directive.invariant.adds c.in_ok-record.ensures c.in_ok-push.ensures.items refl;
}

pub returns : goal.returns
returns c =
    last_put _ _ c.args.directives.now c.loop-directive.directive-index _ c.loop-directive-test.false c.loop-directive.invariant.adds
    c.loop-directive.invariant.at refl
