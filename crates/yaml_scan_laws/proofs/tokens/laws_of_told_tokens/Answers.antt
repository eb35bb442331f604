use Rattle.yaml_scan_laws.proofs.Ending.{word_tells, level_tells, key_tells}
use Rattle.yaml_scan_laws.proofs.tokens.laws_of_told_tokens.Goals as goal

pub returns-clause-word_tells : goal.returns-clause-word_tells
returns-clause-word_tells c = word_tells

pub returns-clause-level_tells : goal.returns-clause-level_tells
returns-clause-level_tells c = level_tells

pub returns-clause-key_tells : goal.returns-clause-key_tells
returns-clause-key_tells c = key_tells
