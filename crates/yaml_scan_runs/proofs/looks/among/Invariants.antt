use Rattle.std.proofs.Common.{◌≡◌, cond, map, take}
use Rattle.yaml_scan_runs.specs.Runs.{is_stop}
use Rattle.yaml_scan_runs.proofs.looks.among.Given as goal

abbrev pub invariant-stops : goal.invariant-stops
invariant-stops g l = l.found ≡ map (λ x. cond (is_stop (take l.i l.stops) x) 255 0) l.lanes
