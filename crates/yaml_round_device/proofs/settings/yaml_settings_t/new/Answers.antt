-- The settings as they are there.
use Rattle.std.proofs.Common.{refl}
use Rattle.yaml_round_device.proofs.settings.yaml_settings_t.new.Goals as goal

pub returns : goal.returns
returns c = refl
