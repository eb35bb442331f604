use Rattle.std.proofs.Common.{refl, sym, ◌∙◌}
use Rattle.yaml_emit_scalars.specs.declared.run.Body.TheVariants.{Open}
use Rattle.yaml_emit_scalars.proofs.Words.{run_width, due_letters, plain_lays, nothing_lays}
use Rattle.yaml_emit_scalars.proofs.word.put_plain_word.Goals as goal

pub put_word-requires-clause-ascii : goal.put_word-requires-clause-ascii
put_word-requires-clause-ascii c = (c.is_run.ensures.run c.if-not-is_run.false).ascii

pub returns-then-flow-is_empty-clause-whole : goal.returns-then-flow-is_empty-clause-whole
returns-then-flow-is_empty-clause-whole c = λ _.
    let run = rw c.as_bytes-text.ensures.value at (c.is_run.ensures.run c.if-not-is_run.false) in
    plain_lays c.args.page c.args.flow _ _ _ (due_letters c.args.flow _ run.ascii (rw (c.is_empty.ensures, c.as_bytes-text.ensures.value) at c.if-flow-is_empty.true))
    (run_width Open Open c.args.page.cuts _ _ _ _ refl c.requires.on.width run) (rw c.as_bytes-text.ensures.value at c.put_word.ensures)

pub returns-else-flow-is_empty-clause-whole : goal.returns-else-flow-is_empty-clause-whole
returns-else-flow-is_empty-clause-whole c = λ _. nothing_lays c.args.page c.args.flow _ _ _ (rw (c.is_empty.ensures, c.as_bytes-text.ensures.value) at c.if-flow-is_empty.false) c.set_after_text.ensures

pub returns-then-not-is_run-clause-is : goal.returns-then-not-is_run-clause-is
returns-then-not-is_run-clause-is c = sym c.if-not-is_run.true ∙ rw c.as_bytes-text.ensures.value at c.is_run.ensures.is

pub returns-then-flow-is_empty-clause-is : goal.returns-then-flow-is_empty-clause-is
returns-then-flow-is_empty-clause-is c = sym c.if-not-is_run.false ∙ rw c.as_bytes-text.ensures.value at c.is_run.ensures.is

pub returns-else-flow-is_empty-clause-is : goal.returns-else-flow-is_empty-clause-is
returns-else-flow-is_empty-clause-is c = sym c.if-not-is_run.false ∙ rw c.as_bytes-text.ensures.value at c.is_run.ensures.is
