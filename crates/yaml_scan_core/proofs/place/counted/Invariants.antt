use Rattle.std.proofs.Common.{◌≡◌, ◌≤◌, ◌-◌}
use Rattle.yaml_scan_model.specs.scan_types.Marks.{mark_at}
use Rattle.yaml_scan_core.proofs.place.counted.Given as goal

abbrev pub invariant-runs : goal.invariant-runs
invariant-runs l = record {
  mark : l.mark ≡ mark_at l.text l.mark.index;
  order : l.mark.index ≤ l.place;
}

abbrev pub decreases-runs : goal.decreases-runs
decreases-runs l = l.place - l.mark.index
