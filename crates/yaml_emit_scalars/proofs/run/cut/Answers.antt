use Rattle.std.proofs.Common.{◌≡◌, ◌-◌, arith}
use Rattle.yaml_emit_scalars.proofs.RunLemmas.{cut_letters}
use Rattle.yaml_emit_scalars.proofs.run.cut.Goals as goal

pub returns-clause-letters : goal.returns-clause-letters
returns-clause-letters c =
    let front : c.args.count - 0 ≡ c.args.count = omega arith in
    rw (c.range-run.ensures.value, c.range_from-rest.ensures.value, front) (cut_letters c.args.count _ c.utf8.left c.requires)
