use Rattle.yaml_scan_laws.proofs.HeldForward.{few_are_held, few_wait}
use Rattle.yaml_scan_laws.proofs.laws.few_are_held.Goals as goal

pub returns-clause-all : goal.returns-clause-all
returns-clause-all c = few_are_held

pub returns-clause-before : goal.returns-clause-before
returns-clause-before c = few_wait
