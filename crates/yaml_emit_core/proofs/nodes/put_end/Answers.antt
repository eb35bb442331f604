use Rattle.std.proofs.Common.{[], ap, ◌∙◌, refl, sym}
use Rattle.std.specs.Prelude.{◌&&◌}
use Rattle.std.proofs.lemmas.Str.Ascii.{IsAscii-cons, IsAscii-nil}
use Rattle.yaml_emit_core.proofs.Closings.{closer_due, closer_none, flow_due, flow_none, last_lays, one_lays}
use Rattle.yaml_emit_core.proofs.nodes.put_end.Goals as goal

pub put_text-requires-clause-ascii : goal.put_text-requires-clause-ascii
put_text-requires-clause-ascii c = IsAscii-cons c.args.bracket [] c.requires.bracket.1 IsAscii-nil

pub returns-then-settings-is_further : goal.returns-then-settings-is_further
returns-then-settings-is_further c =
    let s = c.args.settings.now in
    flow_due _ _ _ _ c.if-level.true (closer_due s c.args.level.now.indent c.args.bracket _ _ _ _ (sym (ap (λ z. s.canonical && z) c.is_further.ensures) ∙ c.if-settings-is_further.true) c.requires.on.line_break (rw c.saturating_sub-indent.ensures at (last_lays _ _ c.saturating_sub-indent.result c.args.bracket _ _ c.requires.bracket.0 refl c.put_line.ensures)))

pub returns-else-settings-is_further : goal.returns-else-settings-is_further
returns-else-settings-is_further c =
    let s = c.args.settings.now in
    flow_due _ _ _ _ c.if-level.true (closer_none s c.args.level.now.indent c.args.bracket _ _ _ (sym (ap (λ z. s.canonical && z) c.is_further.ensures) ∙ c.if-settings-is_further.false) (one_lays c.args.bracket _ _ c.put_text.ensures))

pub returns-else-level : goal.returns-else-level
returns-else-level c = flow_none _ _ _ c.if-level.false
