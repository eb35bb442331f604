-- What a clause reads of the devices that carry a `Read` or a `Write` of std.
use Rattle.std.specs.Prelude.{ℕ, Bool}
use Rattle.yaml_round_device.specs.declared.std_device.yaml_std_input_t.{yaml_std_input_t}
use Rattle.yaml_round_device.specs.declared.std_device.yaml_std_output_t.{yaml_std_output_t}

-- `d.into_inner()`
abbrev pub input_inner : {R : Type 0} → yaml_std_input_t R → R
input_inner d = d.inner

-- how many bytes it has given, of which 2^64 - 1 are counted
abbrev pub input_given : {R : Type 0} → yaml_std_input_t R → ℕ
input_given d = d.given

-- whether a call has answered an `Err`
abbrev pub input_failed : {R : Type 0} → yaml_std_input_t R → Bool
input_failed d = d.has_failed

-- `d.into_inner()`
abbrev pub output_inner : {W : Type 0} → yaml_std_output_t W → W
output_inner d = d.inner

-- whether a call has answered an `Err`
abbrev pub output_failed : {W : Type 0} → yaml_std_output_t W → Bool
output_failed d = d.has_failed

-- whether the last call was a flush that succeeded
abbrev pub output_finished : {W : Type 0} → yaml_std_output_t W → Bool
output_finished d = d.is_finished
