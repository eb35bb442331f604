-- From what readings say to what is said of their inputs.
use Rattle.std.proofs.Common.{◌≡◌, ◌⊎◌, ◌∙◌, ◌++◌, inl, inr, ap, sym, ℕ, List, [], None, Some, Result, Ok, Err}
use Rattle.yaml_parse.specs.declared.yaml_encoding_t.{yaml_encoding_t}
use Rattle.yaml_parse.specs.declared.yaml_fault_t.{yaml_fault_t}
use Rattle.yaml_scan_types.specs.Faults.{fault_of, IsMemoryFault, parse_layers, Answers}
use Rattle.yaml_parse.specs.Remaining.{ParserRemaining}
use Rattle.yaml_round_device.specs.declared.yaml_settings_t.{yaml_settings_t}
use Rattle.yaml_round_engine.specs.Layers.{reformat_layers, list_layers}
use Rattle.yaml_round_reading.specs.Reading.{IsFaultOf, EndsWith}
use Rattle.yaml_round_engine.specs.Lines.{event_lines}
use Rattle.yaml_round_engine.specs.declared.writing.Form.{Form}
use Rattle.yaml_round_content.specs.Input.{ReadsInput, ending_of}
use Rattle.yaml_round_reading.proofs.Plain.{faulty, faulty_ending, fault_met, right, has_events}
use Rattle.yaml_round_reading.specs.Answers.{IsFaulty}
use Rattle.yaml_round_engine.specs.Answers.{IsJudged, IsWrittenPast, HasLines}

-- ---- one input

pub judged : (from : yaml_encoding_t) (input : List ℕ) (r : ParserRemaining)
    (result : Result (Unit {0}) yaml_fault_t) → ReadsInput from input r → EndsWith r.ending result
    → Answers parse_layers (λ (done : Unit {0}). done) (IsJudged from input) result
judged from input r (Ok done) h e = right from input (sym h.ending ∙ e)
judged from input r (Err f) h e = fault_met from input r (fault_of f) h e

pub listed : (from : yaml_encoding_t) (input : List ℕ) (r : ParserRemaining) (lines : List ℕ)
    (old : List ℕ) → ReadsInput from input r → old ≡ [] → r.ending ≡ None
    → lines ≡ old ++ event_lines r.events
    → HasLines from input lines
listed from input r lines old h none e l = record {
  events = r.events;
  of_input = has_events from input r.events (sym h.ending ∙ e) h.events;
  are = l ∙ ap (λ (z : List ℕ). z ++ event_lines r.events) none;
}

-- a fault of the input ends them
pub not_listed : (from : yaml_encoding_t) (input : List ℕ) (r : ParserRemaining) (f : yaml_fault_t)
    → ReadsInput from input r → IsMemoryFault list_layers (fault_of f) ⊎ (r.ending ≡ Some (fault_of f))
    → IsMemoryFault list_layers (fault_of f) ⊎ IsFaulty from input (fault_of f)
not_listed from input r f h e = elim e [ inl m ↦ inl m | inr k ↦ inr (faulty from input (fault_of f) (sym h.ending ∙ k)) ]

-- ---- writing

-- the fault that another reading met is this one's
pub met_again : (from : yaml_encoding_t) (input : List ℕ) (f : yaml_fault_t)
    → IsMemoryFault parse_layers (fault_of f) ⊎ IsFaulty from input (fault_of f)
    → IsFaultOf (ending_of from input) (fault_of f)
met_again from input f h = elim h [ inl m ↦ inl m | inr k ↦ inr (faulty_ending from input (fault_of f) k) ]

pub not_written : (w : Form) (from : yaml_encoding_t) (settings : yaml_settings_t) (input : List ℕ)
    (r : ParserRemaining) (f : yaml_fault_t) → ReadsInput from input r → IsFaultOf r.ending (fault_of f)
    → IsMemoryFault reformat_layers (fault_of f)
    ⊎ (IsFaulty from input (fault_of f) ⊎ IsWrittenPast w from settings input (fault_of f))
not_written w from settings input r f h e = elim (fault_met from input r (fault_of f) h e) [ inl m ↦ inl (inr (inr m)) | inr q ↦ inr (inl q) ]
