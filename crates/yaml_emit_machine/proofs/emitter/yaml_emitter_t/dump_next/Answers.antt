use Rattle.yaml_emit_machine.proofs.Dumped.{dumps_done, dumps_starved, dumps_event}
use Rattle.yaml_emit_machine.proofs.emitter.yaml_emitter_t.dump_next.Goals as goal

pub returns-in-Ok-false : goal.returns-in-Ok-false
returns-in-Ok-false c =
    let none = rw c.in-Ok-false.field-0-test at c.in-Ok-false.ensures in
    dumps_done c.args.document.now _ _ _ c.requires (none c.args.document.now)

pub returns-in-Ok-true : goal.returns-in-Ok-true
returns-in-Ok-true c =
    let g = rw c.in-Ok-true.field-0-test at c.in-Ok-true.ensures in
    let right = c.is_right.ensures in
    dumps_event c.args.document.now _ _ _ _ _ c.requires.right (g.0 c.args.document.now) g.1 (rw c.event.ensures.is at c.lay_soon.ensures) right.right right.faulty right.stuck

pub returns-in-Err : goal.returns-in-Err
returns-in-Err c = dumps_starved _ _ _ _ _ c.starve.ensures.dumps c.starve.ensures.stopped
