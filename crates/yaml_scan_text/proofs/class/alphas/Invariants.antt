use Rattle.std.proofs.Common.{◌-◌, ◌≤◌, length}
use Rattle.yaml_scan_text.proofs.NamesLemmas.{Alphas}
use Rattle.yaml_scan_text.proofs.class.alphas.Given as goal

abbrev pub invariant-bytes : goal.invariant-bytes
invariant-bytes l = record { run : Alphas l.text l.from l.at; inside : l.at ≤ length l.text }

abbrev pub decreases-bytes : goal.decreases-bytes
decreases-bytes l = length l.text - l.at
