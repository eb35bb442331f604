-- A failed call leaves what the writer holds.
use Rattle.std.specs.Io.KnownBytes.{Keeps}
use Rattle.yaml_round_device.proofs.trying.write_tried_again.Given as goal

abbrev pub invariant-loop : goal.invariant-loop
invariant-loop g l = Keeps (g.W.Write.contents l.initial.writer) (g.W.Write.contents l.writer)
