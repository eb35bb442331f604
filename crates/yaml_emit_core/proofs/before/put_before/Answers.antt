use Rattle.std.proofs.Common.{sym, ◌∙◌}
use Rattle.yaml_emit_core.proofs.Entries.{before_simple, before_none}
use Rattle.yaml_emit_core.proofs.before.put_before.Goals as goal

pub put_lead-requires-clause-entry : goal.put_lead-requires-clause-entry
put_lead-requires-clause-entry c = sym c.is_entry.ensures ∙ c.if-is_entry.true

pub returns-then-is_behind_simple : goal.returns-then-is_behind_simple
returns-then-is_behind_simple c =
    let l = c.args.level.now in
    before_simple c.args.settings.now l.state l.flow l.indent c.args.simple _ _ (sym c.is_behind_simple.ensures ∙ c.if-is_behind_simple.true) c.put_text.ensures

pub returns-else-is_behind_simple : goal.returns-else-is_behind_simple
returns-else-is_behind_simple c =
    let l = c.args.level.now in
    before_none c.args.settings.now l.state l.flow l.indent c.args.simple _ (sym c.is_entry.ensures ∙ c.if-is_entry.false) (sym c.is_behind_simple.ensures ∙ c.if-is_behind_simple.false)
