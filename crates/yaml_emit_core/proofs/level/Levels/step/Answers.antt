use Rattle.std.proofs.Common.{◌∙◌, ap, sym}
use Rattle.yaml_emit_core.specs.Levels.{phase_of}
use Rattle.yaml_emit_core.proofs.Stacks.{step_is, behind_none}
use Rattle.yaml_emit_core.proofs.level.Levels.step.Goals as goal

pub invariant_of-self : goal.invariant_of-self
invariant_of-self c =
    let s = c.self.invariant in
    record { plain = λ e. s.plain (behind_none c.self.inside.top.state c.args.simple (ap phase_of (sym c.behind-self-inside.ensures) ∙ e)); outside = λ e. s.outside (behind_none c.self.inside.top.state c.args.simple (ap phase_of (sym c.behind-self-inside.ensures) ∙ e)); narrow = s.narrow; narrow_outer = s.narrow_outer }

pub returns : goal.returns
returns c = let t = c.self.inside.top in rw (← c.self.view_is) (step_is t.state _ t.flow t.indent c.args.simple c.self.inside.outer.items c.behind-self-inside.ensures)
