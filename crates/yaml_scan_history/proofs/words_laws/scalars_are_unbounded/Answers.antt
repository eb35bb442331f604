use Rattle.yaml_scan_history.proofs.UnboundingScalars.{quoted_is, quoted_is_one, plain_is, plain_is_one}
use Rattle.yaml_scan_history.proofs.Digits.{digits_are_read, digits_stand_there, one_is_no_digit}
use Rattle.yaml_scan_history.proofs.words_laws.scalars_are_unbounded.Goals as goal

pub returns : goal.returns
returns c = record {
  quoted = quoted_is;
  one_quoted = quoted_is_one;
  plain = plain_is;
  one_plain = plain_is_one;
  digits = digits_are_read;
  spelled = digits_stand_there;
  no_digit = one_is_no_digit;
}
