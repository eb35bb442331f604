-- The value of the first document's root, or the error that is due.
use Rattle.yaml_cli_lookup.specs.Input.{IsFirstDocument}
use Rattle.yaml_cli_lookup.proofs.Finding.{found, copy_due, load_due}
use Rattle.yaml_cli_lookup.proofs.load.lookup.Goals as goal

pub returns-in-Err-clause-ok : goal.returns-in-Err-clause-ok
returns-in-Err-clause-ok c = tt

pub returns-in-Err-clause-err : goal.returns-in-Err-clause-err
returns-in-Err-clause-err c = load_due (IsFirstDocument c.args.encoding c.args.input.now) c.args.key.now c.in-Err.error c.in-Err.ensures.err

pub returns-in-Ok-clause-ok : goal.returns-in-Ok-clause-ok
returns-in-Ok-clause-ok c = found _ _ _ _ _ c.in-Ok.ensures.ok c.value_of.ensures c.copied-found.ensures.ok

pub returns-in-Ok-clause-err : goal.returns-in-Ok-clause-err
returns-in-Ok-clause-err c = copy_due (IsFirstDocument c.args.encoding c.args.input.now) c.args.key.now _ _ _ c.in-Ok.ensures.ok c.value_of.ensures c.copied-found.ensures.err
