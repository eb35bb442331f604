use Rattle.std.proofs.Common.{◌≡◌, ◌≤◌, ◌-◌, length, true, false}
use Rattle.yaml_scan_history.specs.Between.{step_at, gap_at}
use Rattle.yaml_round_answers.proofs.tag.behind_gap.Given as goal

abbrev pub invariant-gap : goal.invariant-gap
invariant-gap l = record {
  inside : l.at ≤ length l.text;
  next : l.next ≡ (step_at true l.text l.at).place;
  rest : (gap_at true false l.text 0).place ≡ (gap_at true false l.text l.at).place;
}

abbrev pub decreases-gap : goal.decreases-gap
decreases-gap l = length l.text - l.at
