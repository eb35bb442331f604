use Rattle.std.proofs.Common.{◌∙◌, sym}
use Rattle.yaml_emit_output.proofs.Settling.{holds_on}
use Rattle.yaml_emit_layout.specs.Layout.{stay}
use Rattle.yaml_emit_core.proofs.Laying.{starved, starved_core, stop_puts, not_going}
use Rattle.yaml_emit_core.proofs.Noting.{starves_stopped}
use Rattle.yaml_emit_core.proofs.emitter.Core.starve.Goals as goal

pub settle-requires : goal.settle-requires
settle-requires c = λ f.
    let g = sym c.status.ensures ∙ c.is_going.ensures.going c.if-is_going.true in
    let stop = c.stop.ensures in
    holds_on c.self.inside.output _ _ (stop_puts c.self.inside c.stop.new.self g stop.text stop.limit stop.encoding stop.stopped stay).grows (c.self.invariant.holds f)

pub invariant_of-self : goal.invariant_of-self
invariant_of-self c =
    let g = sym c.status.ensures ∙ c.is_going.ensures.going c.if-is_going.true in
    let stop = c.stop.ensures in
    starved_core c.self.inside _ _ _ c.self.invariant g (stop_puts c.self.inside c.stop.new.self g stop.text stop.limit stop.encoding stop.stopped stay) stop.set c.settle.ensures.settles c.settle.ensures.keeps c.settle.ensures.utf8

pub returns-then-is_going : goal.returns-then-is_going
returns-then-is_going c =
    let g = sym c.status.ensures ∙ c.is_going.ensures.going c.if-is_going.true in
    let stop = c.stop.ensures in
    rw (← c.self.view_is) (starved c.self.inside _ _ _ c.self.invariant g (stop_puts c.self.inside c.stop.new.self g stop.text stop.limit stop.encoding stop.stopped) (not_going _ stop.stopped) c.settle.ensures.settles c.settle.ensures.keeps)

pub returns-else-is_going : goal.returns-else-is_going
returns-else-is_going c = rw (← c.self.view_is) (starves_stopped _ (λ g. c.is_going.ensures.stopped c.if-is_going.false (c.status.ensures ∙ g)))
