use Rattle.yaml_emit_core.proofs.Entries.{before_flow, before_block}
use Rattle.yaml_emit_core.proofs.before.put_lead.Goals as goal

pub returns-then-level : goal.returns-then-level
returns-then-level c =
    let l = c.args.level.now in
    before_flow c.args.settings.now l.state l.flow l.indent c.args.simple _ _ c.requires.entry c.if-level.true
    (rw (c.is_further.ensures, c.mark_of-mark.ensures.mark) at c.put_entry.ensures)

pub returns-else-level : goal.returns-else-level
returns-else-level c =
    let l = c.args.level.now in
    before_block c.args.settings.now l.state l.flow l.indent c.args.simple _ _ c.requires.entry c.if-level.false c.requires.on.line_break
    (rw c.mark_of-mark.ensures.mark at c.put_line.ensures)
