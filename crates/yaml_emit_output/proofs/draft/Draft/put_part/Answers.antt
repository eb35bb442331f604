use Rattle.std.proofs.Common.{◌∙◌, sym}
use Rattle.yaml_emit_output.proofs.Parts.{lays_none}
use Rattle.yaml_emit_output.proofs.draft.Draft.put_part.Goals as goal

pub returns-then-not-is_empty : goal.returns-then-not-is_empty
returns-then-not-is_empty c = rw c.as_bytes.ensures.value at c.put_letters.ensures

pub returns-else-not-is_empty : goal.returns-else-not-is_empty
returns-else-not-is_empty c = lays_none _ _ (sym c.is_empty.ensures ∙ c.if-not-is_empty.false)
