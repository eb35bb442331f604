-- What was listed is what C receives.
use Rattle.yaml_round_answers.proofs.ScanTelling.{scan_ends, scan_fails}
use Rattle.yaml_round_answers.proofs.scanning.scanned_in.Goals as goal

pub returns-in-Ok : goal.returns-in-Ok
returns-in-Ok c =
    let e = rw c.in-Ok.is at c.list_input-end.ensures in
    scan_ends _ _ _ _ _ _ _ c.is_starved.ensures c.in-Ok.is c.requires c.blocks_unless.ensures c.said.ensures e

pub returns-in-Err : goal.returns-in-Err
returns-in-Err c =
    let e = rw c.in-Err.is at c.list_input-end.ensures in
    scan_fails _ _ _ _ c.in-Err.fault _ _ _ _ c.is_starved.ensures c.in-Err.is c.requires c.blocks_unless.ensures c.refused_in.ensures e
