-- The output received the text's front.
use Rattle.std.proofs.Common.{◌≡◌, ◌-◌, ◌≤◌, take, length}
use Rattle.std.specs.Io.KnownBytes.{Appends}
use Rattle.yaml_round_device.proofs.putting.put_all.Given as goal

abbrev pub invariant-loop-written : goal.invariant-loop-written
invariant-loop-written g l = record {
  within : l.written ≤ length l.text;
  front : Appends (g.O.yaml_output_t.received l.fn.output) (g.O.yaml_output_t.received l.output)
      (take l.written l.text);
  sound : g.O.yaml_output_t.has_failed l.output ≡ g.O.yaml_output_t.has_failed l.fn.output;
}

abbrev pub decreases-loop-written : goal.decreases-loop-written
decreases-loop-written g l = length l.text - l.written
