use mir.Syntax.{w32}
use mir.Val.{SFits}
use Rattle.std.proofs.Common.{rules, ◌∙◌, ◌-◌, ap, pos}
use Rattle.std.proofs.lemmas.Int.{to_z-of_z}
use Rattle.yaml_scan_types.proofs.class.AS_DIGIT.Goals as goal

pub returns : goal.returns
returns c =
    let fits : SFits w32 c.from.result = search rules in
    to_z-of_z w32 c.from.result fits ∙ c.from.ensures ∙ ap (λ b. pos (b - 48)) c.byte_here.ensures
