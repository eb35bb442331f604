use Rattle.std.proofs.Common.{◌≡◌, true, take}
use Rattle.std.specs.List.{list_all}
use Rattle.yaml_scan_types.specs.Classes.{is_alpha_byte}
use Rattle.yaml_emit_core.proofs.alphas.are_alphas.Given as goal

abbrev pub invariant-loop-i : goal.invariant-loop-i
invariant-loop-i l = list_all is_alpha_byte (take l.i l.name) ≡ true
