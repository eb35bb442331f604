use Rattle.std.proofs.Common.{[], ◌∷◌, arith}
use Rattle.std.specs.Str.{chars}
use Rattle.yaml_emit_layout.specs.Layout.{when, word}
use Rattle.yaml_emit_layout.specs.Scalars.{scalar_text}
use Rattle.yaml_emit_core.proofs.Texts.{calm_puts, deep_stops}
use Rattle.yaml_emit_core.proofs.content.put_inside.Goals as goal

pub returns-then-page-gt-DEEPEST : goal.returns-then-page-gt-DEEPEST
returns-then-page-gt-DEEPEST c =
    let deep = c.if-page-gt-DEEPEST.true in
    deep_stops _ _ c.args.page.indentation _ _ _ (omega (arith, deep)) c.put_sign_if.ensures c.stop_deep.ensures.puts c.stop_deep.ensures.set c.stop_deep.ensures.stopped

pub returns-else-page-gt-DEEPEST : goal.returns-else-page-gt-DEEPEST
returns-else-page-gt-DEEPEST c =
    let few = c.if-page-gt-DEEPEST.false in
    let m = c.args.manner in
    calm_puts (when m.marked (word (33 ∷ []))) (scalar_text c.args.page m.digit m.flow m.style (chars c.args.scalar.now.value.now)) c.args.page.indentation _ _ (omega (arith, few)) c.put_value.ensures
