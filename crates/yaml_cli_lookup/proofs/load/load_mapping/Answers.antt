-- The first document, or that its root is no mapping, or the error that its fault is.
use Rattle.std.proofs.Common.{◌∙◌, sym}
use Rattle.yaml_cli_lookup.specs.Input.{IsFirstDocument}
use Rattle.yaml_cli_lookup.proofs.Loading.{due}
use Rattle.yaml_cli_lookup.proofs.load.load_mapping.Goals as goal

pub returns-in-Err-clause-ok : goal.returns-in-Err-clause-ok
returns-in-Err-clause-ok c = tt

pub returns-in-Err-clause-err : goal.returns-in-Err-clause-err
returns-in-Err-clause-err c = due (IsFirstDocument c.args.encoding c.args.input.now) c.in-Err.fault _ c.error_of.ensures c.in-Err.ensures

pub returns-then-has_mapping-clause-ok : goal.returns-then-has_mapping-clause-ok
returns-then-has_mapping-clause-ok c = record { first = c.in-Ok.ensures; mapping = sym c.has_mapping.ensures ∙ c.if-has_mapping.true }

pub returns-else-has_mapping-clause-err : goal.returns-else-has_mapping-clause-err
returns-else-has_mapping-clause-err c = (c.in-Ok.document, c.in-Ok.ensures, sym c.has_mapping.ensures ∙ c.if-has_mapping.false)
