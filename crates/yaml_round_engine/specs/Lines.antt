-- The lines of the events of an input.
use Rattle.std.specs.Prelude.{◌≡◌, ◌⊎◌, ℕ, List, ◌++◌, Some, None, Result, Ok, Err}
use Rattle.std.specs.List.{flat_map}
use Rattle.yaml_parse.specs.declared.yaml_fault_t.{yaml_fault_t}
use Rattle.yaml_scan_types.specs.Faults.{fault_of, IsMemoryFault}
use Rattle.yaml_parse.specs.Resolve.{Told}
use Rattle.yaml_parse.specs.Remaining.{ParserRemaining}
use Rattle.yaml_round_reading.specs.EventLine.{event_line}
use Rattle.yaml_round_engine.specs.Layers.{list_layers}

-- a line for each event
abbrev pub event_lines : List Told → List ℕ
event_lines es = flat_map (λ (t : Told). event_line t.0.body) es

-- a line for each event was added, where no fault ends them
abbrev pub AddsLines : ParserRemaining → List ℕ → Result (Unit {0}) yaml_fault_t → List ℕ → Type 0
AddsLines reading old (Ok done) new = (reading.ending ≡ None)
    × (new ≡ old ++ event_lines reading.events)
AddsLines reading old (Err f) new = IsMemoryFault list_layers (fault_of f)
    ⊎ (reading.ending ≡ Some (fault_of f))
