-- The numbers as they are there, and what they mean.
use Rattle.std.proofs.Common.{refl}
use Rattle.yaml_round_answers.specs.Numbers.{is_set, break_meant}
use Rattle.yaml_round_answers.specs.Settings.{output_meant}
use Rattle.yaml_round_c.proofs.settings.yaml_c_defaults.Goals as goal

pub returns-clause-engine : goal.returns-clause-engine
unfolding is_set output_meant break_meant
returns-clause-engine c = refl

pub returns-clause-numbers : goal.returns-clause-numbers
returns-clause-numbers c = refl
