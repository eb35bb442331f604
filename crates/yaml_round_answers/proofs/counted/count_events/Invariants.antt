-- The first ones are counted, and the others are as they were.
use Rattle.std.proofs.Common.{◌≡◌, ◌++◌, map, take, drop}
use Rattle.yaml_round_answers.specs.Characters.{Counts}
use Rattle.yaml_round_answers.specs.Counted.{event_counted}
use Rattle.yaml_round_answers.proofs.counted.count_events.Given as goal

abbrev pub invariant-loop-i : goal.invariant-loop-i
invariant-loop-i l = record {
  counts : Counts l.text l.count;
  done : l.events.items ≡ map (event_counted l.text) (take l.i l.fn.events.items) ++ drop l.i l.fn.events.items;
}
