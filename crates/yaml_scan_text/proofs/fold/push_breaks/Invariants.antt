use Rattle.std.proofs.Common.{◌≡◌, ◌++◌, ◌-◌}
use Rattle.yaml_scan_text.specs.Folds.{feeds}
use Rattle.yaml_scan_text.specs.Refused.{Keeps}
use Rattle.yaml_scan_text.proofs.fold.push_breaks.Given as goal

abbrev pub invariant-breaks : goal.invariant-breaks
invariant-breaks l = record {
  value : l.out.items ++ feeds l.text l.at l.to ≡ l.fn.out.items ++ feeds l.text l.from l.to;
  kept : Keeps l.fn.out.items l.out.items;
}

abbrev pub decreases-breaks : goal.decreases-breaks
decreases-breaks l = l.to - l.at
