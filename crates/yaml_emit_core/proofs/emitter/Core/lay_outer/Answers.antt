use Rattle.yaml_emit_core.proofs.Outer.{no_opening}
use Rattle.yaml_emit_core.proofs.emitter.Core.lay_outer.Goals as goal

pub lay_bare-requires-clause-other : goal.lay_bare-requires-clause-other
lay_bare-requires-clause-other c = no_opening c.args.event.now c.in_default.not-DocumentStart

pub returns-in-DocumentStart : goal.returns-in-DocumentStart
returns-in-DocumentStart c = λ empty. rw c.in-DocumentStart.is (c.lay_document_start.ensures empty)

pub returns-in_default : goal.returns-in_default
returns-in_default c = c.lay_bare.ensures
