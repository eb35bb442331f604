-- What begins before the place is counted.
use Rattle.std.proofs.Common.{◌≡◌, ◌≤◌, take}
use Rattle.std.specs.List.{count_by}
use Rattle.yaml_scan_model.specs.scan_types.Marks.{starts as starts_of}
use Rattle.yaml_round_answers.proofs.counting.characters.Given as goal

abbrev pub invariant-loop-i : goal.invariant-loop-i
invariant-loop-i l = record {
  is : l.count ≡ count_by starts_of (take l.i l.text);
  most : l.count ≤ l.i;
}
