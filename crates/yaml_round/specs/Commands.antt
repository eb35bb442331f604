-- What a run of a command answers.
use Rattle.std.specs.Prelude.{◌≡◌, ℕ, Bool, false, List, Option, None, Some, Result, Ok, Err}
use Rattle.yaml_scan_model.specs.declared.name.yaml_encoding_t.{yaml_encoding_t}
use Rattle.yaml_scan_model.specs.declared.fault.yaml_origin_t.{yaml_origin_t}
use Rattle.yaml_scan_model.specs.scan_types.Faults.{Fault}
use Rattle.yaml_round_device.specs.declared.yaml_settings_t.{yaml_settings_t}
use Rattle.yaml_round_device.specs.declared.form.yaml_form_t.{yaml_form_t}
use Rattle.yaml_round_device.specs.declared.form.yaml_form_t.TheVariants.{Canonical}
use Rattle.yaml_round_device.specs.declared.form.yaml_command_t.{yaml_command_t}
use Rattle.yaml_round_device.specs.declared.form.yaml_command_t.TheVariants.{Fmt, Docs, Events}
use Rattle.yaml_round_device.specs.declared.run_fault.yaml_run_fault_t.{yaml_run_fault_t}
use Rattle.yaml_round_device.specs.declared.run_fault.yaml_run_fault_t.TheVariants.{Read, TooLong, Yaml, Write}
use Rattle.yaml_round_engine.specs.Answers.{IsReformatted, IsListed}
use Rattle.yaml_round_engine.specs.Reload.{IsReloaded}
use Rattle.yaml_round_engine.specs.Layers.{list_layers, reformat_layers, reload_layers}

-- the layers in which memory may run out
abbrev pub run_layers : yaml_command_t → List yaml_origin_t
run_layers Fmt = reformat_layers
run_layers Docs = reload_layers
run_layers Events = list_layers

-- a run of the command may answer this
abbrev pub IsRunAnswer : yaml_command_t → yaml_encoding_t → yaml_settings_t → List ℕ
    → Result (List ℕ × Option yaml_form_t) Fault → Type 0
IsRunAnswer Fmt from settings input (Ok (text, Some form)) = IsReformatted from settings input
    (Ok (text, form))
IsRunAnswer Fmt from settings input (Ok (text, None)) = ⊥
IsRunAnswer Fmt from settings input (Err fault) = IsReformatted from settings input (Err fault)
IsRunAnswer Docs from settings input (Ok (text, form)) = (form ≡ Some Canonical)
    × IsReloaded from settings input (Ok text)
IsRunAnswer Docs from settings input (Err fault) = IsReloaded from settings input (Err fault)
IsRunAnswer Events from settings input (Ok (text, form)) = (form ≡ None)
    × IsListed from input (Ok text)
IsRunAnswer Events from settings input (Err fault) = IsListed from input (Err fault)

-- after a failed write the output isn't finished
abbrev pub EndsUnfinished : yaml_run_fault_t → Bool → Type 0
EndsUnfinished Read finished = Unit {0}
EndsUnfinished TooLong finished = Unit {0}
EndsUnfinished (Yaml fault) finished = Unit {0}
EndsUnfinished (Write written) finished = finished ≡ false
