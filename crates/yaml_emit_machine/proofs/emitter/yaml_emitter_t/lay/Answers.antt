use Rattle.yaml_emit_machine.proofs.Blaming.{inside_held, inside_took}
use Rattle.yaml_emit_machine.proofs.emitter.yaml_emitter_t.lay.Goals as goal

pub invariant_of-self : goal.invariant_of-self
invariant_of-self c =
    let fr = rw (← c.self.view_is) at c.requires.begun in
    inside_held c.self.inside c.hold_or_lay.new.core c.hold_or_lay.new.held _ _ c.self.invariant fr c.note.ensures c.hold_or_lay.ensures

pub returns : goal.returns
returns c =
    let fr = rw (← c.self.view_is) at c.requires.begun in
    let none = rw (← c.self.view_is) at c.requires.right in
    rw (← c.self.view_is) (inside_took c.self.inside c.hold_or_lay.new.core c.hold_or_lay.new.held _ _ c.self.invariant fr none c.hold_or_lay.ensures)
