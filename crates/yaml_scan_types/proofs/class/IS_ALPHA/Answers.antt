use Rattle.std.proofs.Common.{◌∙◌, ap}
use Rattle.yaml_scan_types.specs.Classes.{is_alpha_byte}
use Rattle.yaml_scan_types.proofs.class.IS_ALPHA.Goals as goal

pub returns : goal.returns
returns c = c.is_alpha_of.ensures ∙ ap is_alpha_byte c.byte_here.ensures
