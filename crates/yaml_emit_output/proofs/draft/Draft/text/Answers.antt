use Rattle.yaml_emit_output.proofs.draft.Draft.text.Goals as goal

pub returns-clause-status : goal.returns-clause-status
returns-clause-status c = rw (← c.self.view_is) c.self.invariant.unlimited
