-- The fields as they are there.
use Rattle.std.proofs.Common.{refl}
use Rattle.yaml_round_device.proofs.std_device.yaml_std_input_t.new.Goals as goal

pub returns-clause-sound : goal.returns-clause-sound
returns-clause-sound g c = refl
