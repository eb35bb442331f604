use Rattle.std.proofs.Common.{◌-◌, arith}
use Rattle.yaml_scan_core.proofs.GapsLemmas.{continuing_over}
use Rattle.yaml_scan_core.proofs.text.continuing.Goals as goal

pub returns : goal.returns
returns c =
    let order = c.requires.order in
    let inside = c.requires.inside in
    rw c.continuing.ensures (continuing_over c.args.text.now c.args.from (c.args.to - c.args.from) (omega (arith, order, inside)))
