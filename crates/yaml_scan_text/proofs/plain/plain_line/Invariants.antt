use Rattle.std.proofs.Common.{◌-◌, length}
use Rattle.yaml_scan_text.proofs.PlainLemmas.{IsSeen, Starts}
use Rattle.yaml_scan_text.proofs.plain.plain_line.Given as goal

abbrev pub invariant-pieces : goal.invariant-pieces
invariant-pieces l = record { seen : IsSeen l.flow l.text l.first l.at; narrow : Starts l.wide l.text l.first l.at }

abbrev pub decreases-pieces : goal.decreases-pieces
decreases-pieces l = length l.text - l.at
