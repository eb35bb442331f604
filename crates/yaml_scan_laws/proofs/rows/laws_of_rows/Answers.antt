use Rattle.yaml_scan_laws.proofs.TextsInRow.{blocks_are_read, keys_are_read}
use Rattle.yaml_scan_laws.proofs.rows.laws_of_rows.Goals as goal

pub returns-clause-blocks_are_read : goal.returns-clause-blocks_are_read
returns-clause-blocks_are_read c = blocks_are_read

pub returns-clause-keys_are_read : goal.returns-clause-keys_are_read
returns-clause-keys_are_read c = keys_are_read
