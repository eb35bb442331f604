-- What a call answers of what was found in slots.
use Rattle.std.specs.Prelude.{◌≡◌, Result, Ok, Err}
use Rattle.yaml_scan_model.specs.declared.fault.yaml_fault_t.{yaml_fault_t}
use Rattle.yaml_scan_model.specs.scan_types.Faults.{Fault, fault_of}
use Rattle.yaml_parse_model.specs.declared.yaml_event_t.{yaml_event_t}
use Rattle.yaml_parse_model.specs.Events.{Event, event_of, no_event}
use Rattle.yaml_parse.specs.declared.found.yaml_found_t.{yaml_found_t}
use Rattle.yaml_parse.specs.declared.found.yaml_found_t.TheVariants as found

-- the event in its slot, the fault in its own, or after the end the empty event
abbrev pub HandsOut : yaml_found_t → Event → Fault → Result yaml_event_t yaml_fault_t → Type 0
HandsOut found.Event e f (Ok given) = event_of given ≡ e
HandsOut found.Event e f (Err told) = ⊥
HandsOut found.Refused e f (Ok given) = ⊥
HandsOut found.Refused e f (Err told) = fault_of told ≡ f
HandsOut found.End e f (Ok given) = event_of given ≡ no_event
HandsOut found.End e f (Err told) = ⊥
