use Rattle.yaml_emit_core.proofs.Stacks.{outside_none, outside_is}
use Rattle.yaml_emit_core.proofs.level.Levels.turn.Goals as goal

pub invariant_of-self : goal.invariant_of-self
invariant_of-self c =
    let outside = rw (← c.self.view_is) at c.requires.outside in
    let top = c.self.inside.top in
    let s = c.self.invariant in
    record { plain = λ _. s.plain (outside_none top.state top.flow top.indent _ outside); outside = λ _. s.outside (outside_none top.state top.flow top.indent _ outside); narrow = s.narrow; narrow_outer = s.narrow_outer }

pub returns : goal.returns
returns c = outside_is c.args.state _ _ _ c.requires.outer
