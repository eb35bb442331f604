use Rattle.std.proofs.Common.{sym, ◌∙◌, ap}
use Rattle.yaml_emit_layout.specs.Layout.{is_past}
use Rattle.yaml_emit_core.specs.Pages.{behind_comma}
use Rattle.yaml_emit_core.proofs.Entries.{entry_canonical, entry_past, entry_inline}
use Rattle.yaml_emit_core.proofs.before.put_entry.Goals as goal

pub returns-then-settings : goal.returns-then-settings
returns-then-settings c = entry_canonical c.args.settings.now _ _ c.args.comma c.args.indent c.args.mark c.if-settings.true c.requires.on.line_break c.put_line.ensures

pub returns-then-is_past : goal.returns-then-is_past
returns-then-is_past c =
    entry_past c.args.settings.now _ _ c.args.comma c.args.indent c.args.mark c.if-settings.false c.requires.on.line_break
    (ap (λ w. is_past w (behind_comma c.args.comma c.args.draft.now.output.cursor)) (sym c.requires.on.width) ∙ sym c.is_past.ensures ∙ c.if-is_past.true) c.put_line-then-is_past.ensures

pub returns-else-is_past : goal.returns-else-is_past
returns-else-is_past c =
    entry_inline c.args.settings.now _ _ c.args.comma c.args.indent c.args.mark c.if-settings.false
    (ap (λ w. is_past w (behind_comma c.args.comma c.args.draft.now.output.cursor)) (sym c.requires.on.width) ∙ sym c.is_past.ensures ∙ c.if-is_past.false) c.put_inline.ensures
