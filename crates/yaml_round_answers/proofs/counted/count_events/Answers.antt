-- One more event is counted.
use Rattle.std.proofs.Common.{◌∙◌, ap, slice_set, arith}
use Rattle.std.proofs.lemmas.List.Edits.{map_over_more}
use Rattle.yaml_round_answers.specs.Counted.{event_counted}
use Rattle.yaml_round_answers.proofs.counted.count_events.Goals as goal

pub loop-i-preserved : goal.loop-i-preserved
loop-i-preserved c = record {
  counts = c.count_event.ensures.counts;
  done = ap (λ e. slice_set c.loop-i.events.items c.loop-i.i e) c.count_event.ensures.is
      ∙ map_over_more (event_counted c.args.text.now) c.args.events.now.items c.loop-i.events.items c.loop-i.i c.index_mut.result.now
      (omega (arith, c.loop-i-test.true)) c.loop-i.invariant.done c.index_mut.ensures.value;
}
