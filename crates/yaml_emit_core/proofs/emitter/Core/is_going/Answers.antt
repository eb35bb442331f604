use Rattle.std.proofs.Common.{◌∙◌, sym}
use Rattle.yaml_emit_core.proofs.Laying.{goes_some, goes_none}
use Rattle.yaml_emit_core.proofs.emitter.Core.is_going.Goals as goal

pub returns-in-Some : goal.returns-in-Some
returns-in-Some c = rw (← c.self.view_is) (goes_some c.self.inside.refused _ _ _ c.in-Some.is)

pub returns-in-None : goal.returns-in-None
returns-in-None c =
    let s = c.self.inside in
    rw (← c.self.view_is) (goes_none _ s.refused _ s.levels.state s.unended c.in-None.is (λ e. sym c.status.ensures ∙ c.is_going.ensures.going e) (λ e g. c.is_going.ensures.stopped e (c.status.ensures ∙ g)))
