use Rattle.std.proofs.Common.{◌∙◌, ap}
use Rattle.yaml_scan_types.specs.Classes.{is_digit_byte}
use Rattle.yaml_scan_types.proofs.class.IS_DIGIT.Goals as goal

pub returns : goal.returns
returns c = c.is_digit_of.ensures ∙ ap is_digit_byte c.byte_here.ensures
