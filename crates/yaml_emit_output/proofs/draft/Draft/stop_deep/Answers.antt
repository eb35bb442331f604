use Rattle.yaml_emit_layout.specs.Layout.{too_deep}
use Rattle.yaml_emit_layout.proofs.Sinks.{puts_stopped}
use Rattle.yaml_emit_output.proofs.Pages.{deep_puts}
use Rattle.yaml_emit_output.proofs.draft.Draft.stop_deep.Goals as goal

pub returns-then-is_going-clause-puts : goal.returns-then-is_going-clause-puts
returns-then-is_going-clause-puts c = let s = c.self.inside in rw (← c.self.view_is) (deep_puts s c.truncate.new.self.items (c.is_going.ensures.going c.if-is_going.true) c.truncate.ensures.items)

pub returns-else-is_going-clause-puts : goal.returns-else-is_going-clause-puts
returns-else-is_going-clause-puts c = rw (← c.self.view_is) (puts_stopped _ too_deep (c.is_going.ensures.stopped c.if-is_going.false))
