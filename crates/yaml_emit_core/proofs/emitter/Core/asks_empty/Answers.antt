use Rattle.std.proofs.Common.{◌∙◌, false, sym}
use Rattle.yaml_parse_model.specs.Events.{borrowed_body}
use Rattle.yaml_emit_layout.specs.Content.{emitter_event}
use Rattle.yaml_emit_layout.specs.State.{position_of}
use Rattle.yaml_emit_core.specs.Levels.{level_of}
use Rattle.yaml_emit_core.specs.Steps.{settings_of, state_of}
use Rattle.yaml_emit_core.specs.Views.{core_of}
use Rattle.yaml_emit_core.proofs.Emptiness.{event_unasked, some_asked}
use Rattle.yaml_emit_core.proofs.emitter.Core.asks_empty.Goals as goal

pub returns-clause-some : goal.returns-clause-some
returns-clause-some c = λ on.
    let top = c.top.result.now in
    rw (← c.self.view_is) (some_asked c.self.inside.settings.canonical top.state (position_of (level_of top) false).flow (emitter_event (borrowed_body c.args.event.now)) (sym c.asks_empty.ensures ∙ on))

pub returns-clause-same : goal.returns-clause-same
returns-clause-same c = λ off v w.
    let top = c.top.result.now in
    let s = core_of c.self.inside in
    rw (← c.self.view_is) (event_unasked (settings_of s) top.state top.flow top.indent (state_of s) (emitter_event (borrowed_body c.args.event.now)) v w c.top.ensures.level (sym c.asks_empty.ensures ∙ off))
