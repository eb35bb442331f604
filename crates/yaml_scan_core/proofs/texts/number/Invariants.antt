use Rattle.std.proofs.Common.{◌≡◌, drop}
use Rattle.yaml_scan_core.specs.Shown.{number_of}
use Rattle.yaml_scan_core.proofs.texts.number.Given as goal

abbrev pub invariant-digits : goal.invariant-digits
invariant-digits l = number_of l.value (drop l.at l.digits) ≡ number_of 0 l.digits
