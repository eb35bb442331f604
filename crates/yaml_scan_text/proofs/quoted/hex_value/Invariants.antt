use Rattle.std.proofs.Common.{◌≡◌, ◌<◌, ◌^◌, Some}
use Rattle.yaml_scan_history.specs.Quoted.{hex_value}
use Rattle.yaml_scan_text.proofs.quoted.hex_value.Given as goal

abbrev pub invariant-digits : goal.invariant-digits
invariant-digits l = record {
  spelled : hex_value l.text l.from l.count ≡ Some l.value;
  small : l.value < 16 ^ l.count;
}
