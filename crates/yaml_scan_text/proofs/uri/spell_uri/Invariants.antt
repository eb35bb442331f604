use Rattle.std.proofs.Common.{◌-◌, length}
use Rattle.yaml_scan_text.proofs.NamesLemmas.{Spelled}
use Rattle.yaml_scan_text.proofs.uri.spell_uri.Given as goal

abbrev pub invariant-escapes : goal.invariant-escapes
invariant-escapes l = Spelled l.context l.wide l.text l.from l.fn.arena.items l.arena.items l.at l.due

abbrev pub decreases-escapes : goal.decreases-escapes
decreases-escapes l = length l.text - l.at
