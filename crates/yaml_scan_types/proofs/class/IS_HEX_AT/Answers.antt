use Rattle.std.proofs.Common.{◌∙◌, ap}
use Rattle.yaml_scan_types.specs.Classes.{is_hex_byte}
use Rattle.yaml_scan_types.proofs.class.IS_HEX_AT.Goals as goal

pub returns : goal.returns
returns c = c.is_hex_of.ensures ∙ ap is_hex_byte c.byte_here.ensures
