use Rattle.yaml_emit_scalars.specs.Calm.{is_quiet}
use Rattle.yaml_emit_scalars.proofs.Calm.{quiet_silent}
use Rattle.yaml_emit_scalars.proofs.Styles.{calm_behind, look_calm, last_calm}
use Rattle.yaml_emit_scalars.proofs.style.past_calm.Goals as goal

pub cut-requires : goal.cut-requires
cut-requires c = c.calm_length.ensures.whole

pub returns-clause-seen : goal.returns-clause-seen
returns-clause-seen c =
    let unicode = c.args.unicode in
    let next = calm_behind _ _ _ _ c.cut.ensures.run c.cut.ensures.rest c.cut.ensures.utf8.1 c.calm_length.ensures.next in
    look_calm unicode (is_quiet unicode) (quiet_silent unicode) _ _ _ _ _ (rw (← c.cut.ensures.run) at c.calm_length.ensures.quiet) next c.cut.ensures.letters c.last_of.ensures

pub returns-clause-last : goal.returns-clause-last
returns-clause-last c = last_calm _ _ _ _ _ c.cut.ensures.letters c.last_of.ensures
