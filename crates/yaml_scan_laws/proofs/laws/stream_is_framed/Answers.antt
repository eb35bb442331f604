use Rattle.yaml_scan_laws.proofs.StreamForward.{stream_starts, stream_ends, fault_ends_none}
use Rattle.yaml_scan_laws.proofs.laws.stream_is_framed.Goals as goal

pub returns-clause-starts : goal.returns-clause-starts
returns-clause-starts c = stream_starts

pub returns-clause-ends : goal.returns-clause-ends
returns-clause-ends c = stream_ends

pub returns-clause-none : goal.returns-clause-none
returns-clause-none c = fault_ends_none
