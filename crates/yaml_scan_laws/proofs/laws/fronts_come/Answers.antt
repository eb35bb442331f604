use Rattle.yaml_scan_laws.proofs.RemainingForward.{settled_comes, last_comes, ends_token, fault_comes, end_comes}
use Rattle.yaml_scan_laws.proofs.laws.fronts_come.Goals as goal

pub returns-clause-settled : goal.returns-clause-settled
returns-clause-settled c = settled_comes

pub returns-clause-last : goal.returns-clause-last
returns-clause-last c = last_comes

pub returns-clause-ends : goal.returns-clause-ends
returns-clause-ends c = ends_token

pub returns-clause-fault : goal.returns-clause-fault
returns-clause-fault c = fault_comes

pub returns-clause-nothing : goal.returns-clause-nothing
returns-clause-nothing c = end_comes
