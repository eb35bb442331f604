-- What a run has done, by its answer.
use Rattle.std.proofs.Common.{◌≡◌, ◌⊎◌, ◌≤◌, ℕ, Bool, List, length, take, Option, Ok, Err, refl, inl, inr, rules}
use Rattle.std.specs.Io.KnownBytes.{Appends}
use Rattle.std.proofs.KnownBytes.{Keeps-refl}
use Rattle.yaml_scan_model.specs.declared.name.yaml_encoding_t.{yaml_encoding_t}
use Rattle.yaml_scan_model.specs.declared.fault.yaml_fault_t.{yaml_fault_t}
use Rattle.yaml_scan_model.specs.declared.fault.yaml_origin_t.TheVariants.{Reader}
use Rattle.yaml_scan_model.specs.scan_types.Faults.{Fault, fault_of, memory_fault, IsMemoryFault}
use Rattle.yaml_round_device.specs.declared.yaml_settings_t.{yaml_settings_t}
use Rattle.yaml_round_device.specs.declared.form.yaml_form_t.{yaml_form_t}
use Rattle.yaml_round_device.specs.declared.form.yaml_command_t.{yaml_command_t}
use Rattle.yaml_round_device.specs.declared.form.yaml_command_t.TheVariants.{Fmt, Docs, Events}
use Rattle.yaml_round_device.specs.declared.run_fault.yaml_run_fault_t.{yaml_run_fault_t}
use Rattle.yaml_round_device.specs.declared.run_fault.yaml_run_fault_t.TheVariants as fault
use Rattle.yaml_round_device.specs.Run.{GivesWholeInput, IsReadFault, TakesFew, RunTakes, Work, Runs, FailsBy}
use Rattle.yaml_round.specs.Commands.{IsRunAnswer, run_layers, EndsUnfinished}

abbrev pub work_of : yaml_command_t → yaml_encoding_t → yaml_settings_t → ℕ
    → Work (Option yaml_form_t)
work_of command from settings limit = record { limit = limit; layers = run_layers command; IsAnswer = IsRunAnswer command from settings }

of_reader : (command : yaml_command_t) (f : Fault) → f ≡ memory_fault Reader
    → IsMemoryFault (run_layers command) f
of_reader Fmt f e = search rules
of_reader Docs f e = search rules
of_reader Events f e = search rules

-- the input wasn't read to its end
pub unread : (command : yaml_command_t) (from : yaml_encoding_t) (settings : yaml_settings_t)
    (limit : ℕ) (to_come left received : Option (List ℕ)) (before after : Bool)
    (why : yaml_run_fault_t)
    → IsReadFault to_come before after limit why
    → Runs (work_of command from settings limit) (record { to_come = to_come; received = received })
    (record { to_come = left; received = received }) (Err why)
unread command from settings limit to_come left received before after fault.Read h = Keeps-refl received
unread command from settings limit to_come left received before after fault.TooLong h = (Keeps-refl received, h.1)
unread command from settings limit to_come left received before after (fault.Yaml f) h = (Keeps-refl received, inl (of_reader command (fault_of f) h.1))
unread command from settings limit to_come left received before after (fault.Write written) h = absurd h

pub unread_failures : (to_come : Option (List ℕ)) (limit : ℕ) (before after output : Bool)
    (why : yaml_run_fault_t) → IsReadFault to_come before after limit why
    → FailsBy {F = Option yaml_form_t} (record { input = before; output = output })
    (record { input = after; output = output }) (Err why)
unread_failures to_come limit before after output fault.Read h = (h, refl)
unread_failures to_come limit before after output fault.TooLong h = (h.0, refl)
unread_failures to_come limit before after output (fault.Yaml f) h = (h.0, refl)
unread_failures to_come limit before after output (fault.Write written) h = absurd h

pub unread_taken : (before after limit : ℕ) (why : yaml_run_fault_t)
    → TakesFew before after limit why
    → RunTakes {F = Option yaml_form_t} before after limit (Err why)
unread_taken before after limit fault.Read h = h
unread_taken before after limit fault.TooLong h = h
unread_taken before after limit (fault.Yaml f) h = h
unread_taken before after limit (fault.Write written) h = h

pub unread_unfinished : (to_come : Option (List ℕ)) (limit : ℕ) (before after finished : Bool)
    (why : yaml_run_fault_t) → IsReadFault to_come before after limit why
    → EndsUnfinished why finished
unread_unfinished to_come limit before after finished fault.Read h = tt
unread_unfinished to_come limit before after finished fault.TooLong h = tt
unread_unfinished to_come limit before after finished (fault.Yaml f) h = tt
unread_unfinished to_come limit before after finished (fault.Write written) h = absurd h

-- the input was refused
pub refused : (command : yaml_command_t) (from : yaml_encoding_t) (settings : yaml_settings_t)
    (limit : ℕ) (to_come left received : Option (List ℕ)) (input : List ℕ) (f : yaml_fault_t)
    → GivesWholeInput to_come left limit input
    → IsMemoryFault (run_layers command) (fault_of f)
    ⊎ IsRunAnswer command from settings input (Err (fault_of f))
    → Runs (work_of command from settings limit) (record { to_come = to_come; received = received })
    (record { to_come = left; received = received }) (Err (fault.Yaml f))
refused command from settings limit to_come left received input f all said =
    (Keeps-refl received, elim said [ inl m ↦ inl m | inr k ↦ inr record { input = input; all = all; answered = k } ])

-- the answer was written
pub told : (command : yaml_command_t) (from : yaml_encoding_t) (settings : yaml_settings_t)
    (limit : ℕ) (to_come left old new : Option (List ℕ)) (input text : List ℕ)
    (form : Option yaml_form_t)
    → GivesWholeInput to_come left limit input → IsRunAnswer command from settings input (Ok (text, form))
    → Appends old new text
    → Runs (work_of command from settings limit) (record { to_come = to_come; received = old })
    (record { to_come = left; received = new }) (Ok form)
told command from settings limit to_come left old new input text form all said appends = (text, record { input = input; all = all; answered = said }, appends)

-- a front of it was
pub told_in_part : (command : yaml_command_t) (from : yaml_encoding_t) (settings : yaml_settings_t)
    (limit : ℕ) (to_come left old new : Option (List ℕ)) (input text : List ℕ)
    (form : Option yaml_form_t) (written : ℕ)
    → GivesWholeInput to_come left limit input → IsRunAnswer command from settings input (Ok (text, form))
    → written ≤ length text → Appends old new (take written text)
    → Runs (work_of command from settings limit) (record { to_come = to_come; received = old })
    (record { to_come = left; received = new }) (Err (fault.Write written))
told_in_part command from settings limit to_come left old new input text form written all said within front = (text, form, record { input = input; all = all; answered = said }, within, front)
