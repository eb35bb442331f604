use mir.Syntax.{w32}
use mir.Val.{SFits}
use Rattle.std.proofs.Common.{rules, ◌∙◌, ap, pos}
use Rattle.std.proofs.lemmas.Int.{to_z-of_z}
use Rattle.yaml_scan_types.specs.Classes.{hex_value_of}
use Rattle.yaml_scan_types.proofs.class.AS_HEX_AT.Goals as goal

pub returns : goal.returns
returns c =
    let fits : SFits w32 c.from.result = search rules in
    to_z-of_z w32 c.from.result fits ∙ c.from.ensures ∙ ap pos c.hex_digit_of.ensures ∙ ap (λ b. pos (hex_value_of b)) c.byte_here.ensures
