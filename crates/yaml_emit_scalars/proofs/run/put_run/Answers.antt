use Rattle.yaml_emit_scalars.proofs.RunWalks.{run_put}
use Rattle.yaml_emit_scalars.proofs.run.put_run.Goals as goal

pub cut-requires : goal.cut-requires
cut-requires c = c.run_of-run.ensures.whole

pub put_part-requires : goal.put_part-requires
put_part-requires c = record { narrow = rw (← c.cut.ensures.run) at c.run_of-run.ensures.narrow }

pub returns-clause-text : goal.returns-clause-text
returns-clause-text c = λ walk keeps.
    run_put _ walk _ _ _ _ _ _ _ keeps (rw (← c.cut.ensures.run) at c.run_of-run.ensures.pass) c.cut.ensures.letters c.last_of.ensures c.put_part.ensures
