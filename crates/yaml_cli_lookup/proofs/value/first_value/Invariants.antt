-- The pairs so far give none.
use Rattle.std.proofs.Common.{◌≡◌, drop}
use Rattle.yaml_cli_lookup.specs.Values.{first_value}
use Rattle.yaml_cli_lookup.proofs.value.first_value.Given as goal

abbrev pub invariant-loop-i : goal.invariant-loop-i
invariant-loop-i l = first_value l.document.nodes l.key l.pairs ≡ first_value l.document.nodes l.key (drop l.i l.pairs)
