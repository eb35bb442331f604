use Rattle.std.proofs.Common.{◌≡◌, ◌≤◌, drop, length, None}
use Rattle.std.specs.Prelude.{IsSome}
use Rattle.yaml_round_answers.specs.Meaning.{events_meant}
use Rattle.yaml_round_answers.specs.Leading.{all_events, LeadsOnward}
use Rattle.yaml_round_answers.proofs.Giving.{LastGiven}
use Rattle.yaml_round_answers.proofs.emitter.give_all.Given as goal

-- the events of the records that are left are to come
abbrev pub invariant-loop-record : goal.invariant-loop-record
invariant-loop-record l = record {
  meant : IsSome (events_meant l.bytes l.list (drop l.record-index l.records));
  leads : LeadsOnward l.fn.emitter (all_events (events_meant l.bytes l.list l.records)) l.emitter
      (all_events (events_meant l.bytes l.list (drop l.record-index l.records)));
  last : l.emitter.fault ≡ None → LastGiven l.fn.emitter.held
      (all_events (events_meant l.bytes l.list l.records))
      (all_events (events_meant l.bytes l.list (drop l.record-index l.records))) l.emitter.held;
  few : length l.fn.emitter.held ≤ 3 → length l.emitter.held ≤ 3;
}
