use Rattle.yaml_emit_layout.specs.Layout.{stay}
use Rattle.yaml_emit_layout.proofs.Sinks.{puts_starved}
use Rattle.yaml_emit_output.proofs.draft.Draft.grow.Goals as goal

pub returns-in-Err-clause-puts : goal.returns-in-Err-clause-puts
returns-in-Err-clause-puts c = rw (← c.self.view_is) (puts_starved _ _ stay (rw c.in-Err.ensures.items at c.stop.ensures.text) c.stop.ensures.stopped (c.is_going.ensures.going c.if-not-is_going.false) c.stop.ensures.encoding c.stop.ensures.limit)
