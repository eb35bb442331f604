use Rattle.std.proofs.Common.{◌≡◌, take}
use Rattle.yaml_scan_runs.specs.Runs.{is_stop}
use Rattle.yaml_scan_runs.proofs.looks.is_among.Given as goal

abbrev pub invariant-stops : goal.invariant-stops
invariant-stops g l = l.found ≡ is_stop (take l.i l.stops) l.byte
