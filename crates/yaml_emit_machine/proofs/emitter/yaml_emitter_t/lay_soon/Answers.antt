use Rattle.yaml_emit_machine.proofs.Blaming.{inside_waits, inside_soon}
use Rattle.yaml_emit_machine.proofs.emitter.yaml_emitter_t.lay_soon.Goals as goal

pub invariant_of-self : goal.invariant_of-self
invariant_of-self c =
    let fr = rw (← c.self.view_is) at c.requires.begun in
    inside_waits c.self.inside c.lay_soon.new.core c.lay_soon.new.held _ _ c.self.invariant fr c.note.ensures c.lay_soon.ensures

pub returns : goal.returns
returns c =
    let fr = rw (← c.self.view_is) at c.requires.begun in
    let none = rw (← c.self.view_is) at c.requires.right in
    rw (← c.self.view_is) (inside_soon c.self.inside c.lay_soon.new.core c.lay_soon.new.held _ _ c.self.invariant fr none c.note.ensures c.lay_soon.ensures)
