use Rattle.yaml_scan_laws.proofs.TokensSpelled.{remaining_spelled}
use Rattle.yaml_scan_laws.proofs.Inputs.{scanned_spelled}
use Rattle.yaml_scan_laws.proofs.names_laws.laws_of_names.Goals as goal

pub returns-clause-tokens_are_spelled : goal.returns-clause-tokens_are_spelled
returns-clause-tokens_are_spelled c = remaining_spelled

pub returns-clause-scanned_are_spelled : goal.returns-clause-scanned_are_spelled
returns-clause-scanned_are_spelled c = scanned_spelled
