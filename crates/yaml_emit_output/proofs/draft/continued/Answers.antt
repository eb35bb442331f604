use Rattle.yaml_emit_output.proofs.Parts.{all_counted, none_counted, some_leads}
use Rattle.yaml_emit_output.proofs.draft.continued.Goals as goal

pub returns-then-wide-clause-size : goal.returns-then-wide-clause-size
returns-then-wide-clause-size c = all_counted _ _ c.utf8.text (rw c.as_bytes.ensures.value at c.continuing.ensures)

pub returns-then-wide-clause-less : goal.returns-then-wide-clause-less
returns-then-wide-clause-less c = some_leads _ _ c.requires.some c.utf8.text (all_counted _ _ c.utf8.text (rw c.as_bytes.ensures.value at c.continuing.ensures))

pub returns-else-wide-clause-size : goal.returns-else-wide-clause-size
returns-else-wide-clause-size c = none_counted _ (c.requires.narrow c.if-wide.false)
