use Rattle.std.proofs.Common.{sym, ◌∙◌}
use Rattle.yaml_emit_scalars.proofs.Words.{quotes_lay}
use Rattle.yaml_emit_scalars.proofs.word.put_quoted.Goals as goal

pub is_run-requires : goal.is_run-requires
is_run-requires c = rw c.as_bytes-text.ensures.value c.requires

pub put_word-requires-clause-ascii : goal.put_word-requires-clause-ascii
put_word-requires-clause-ascii c = (c.is_run.ensures.run c.if-not-is_run.false).ascii

pub returns-clause-run : goal.returns-clause-run
returns-clause-run c = λ _. rw c.as_bytes-text.ensures.value at (c.is_run.ensures.run c.if-not-is_run.false)

pub returns-clause-whole : goal.returns-clause-whole
returns-clause-whole c = λ _. rw (c.as_bytes-text.ensures.value, c.quote_of-quote.ensures.quote) at (quotes_lay c.args.marked c.quote_of-quote.result _ _ c.as_bytes-text.result.now c.quote_of-quote.ensures.ascii.0 c.put_word.ensures)

pub returns-then-not-is_run-clause-is : goal.returns-then-not-is_run-clause-is
returns-then-not-is_run-clause-is c = sym c.if-not-is_run.true ∙ rw c.as_bytes-text.ensures.value at c.is_run.ensures.is

pub returns-clause-is : goal.returns-clause-is
returns-clause-is c = sym c.if-not-is_run.false ∙ rw c.as_bytes-text.ensures.value at c.is_run.ensures.is
