-- What was read so far is the front of what was to come, and leaves room for the rest.
use Rattle.std.proofs.Common.{◌≡◌, ◌+◌, length}
use Rattle.std.specs.Io.KnownBytes.{Consumes}
use Rattle.yaml_round_device.specs.Counts.{counted}
use Rattle.yaml_round_device.proofs.reading.read_to_end.Given as goal

abbrev pub invariant-loop-count : goal.invariant-loop-count
invariant-loop-count g l = record {
  taken : Consumes (g.I.yaml_input_t.to_come l.fn.input) (g.I.yaml_input_t.to_come l.input)
      l.bytes.items;
  room : length l.bytes.items + l.room ≡ l.input_limit;
  count : g.I.yaml_input_t.given l.input
      ≡ counted (g.I.yaml_input_t.given l.fn.input) (length l.bytes.items);
  sound : g.I.yaml_input_t.has_failed l.input ≡ g.I.yaml_input_t.has_failed l.fn.input;
}

abbrev pub decreases-loop-count : goal.decreases-loop-count
decreases-loop-count g l = l.room
