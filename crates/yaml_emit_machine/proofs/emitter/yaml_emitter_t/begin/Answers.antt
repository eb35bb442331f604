use Rattle.yaml_emit_machine.proofs.Taking.{inside_begins}
use Rattle.yaml_emit_machine.proofs.emitter.yaml_emitter_t.begin.Goals as goal

pub returns : goal.returns
returns c =
    let fr = rw (← c.self.view_is) at c.requires in
    record {
      begins = rw (← c.self.view_is) (inside_begins c.self.inside c.new.result _ _ _ c.self.invariant fr c.settled-settings.ensures c.stream_encoding.ensures c.new.ensures.fresh c.new.ensures.limit);
    }
