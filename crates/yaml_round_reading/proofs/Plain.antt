-- What the machine reads of an input is its plain reading.
use Rattle.std.proofs.Common.{◌≡◌, ◌⊎◌, ◌∙◌, inl, inr, sym, refl, ℕ, List, Some, None, Ok}
use Rattle.yaml_parse.specs.declared.yaml_encoding_t.{yaml_encoding_t}
use Rattle.yaml_parse.specs.scan_types.Faults.{Fault, IsMemoryFault, parse_layers}
use Rattle.yaml_parse.specs.Remaining.{ParserRemaining}
use Rattle.yaml_parse.specs.Resolve.{Told}
use Rattle.yaml_round_reading.specs.Reading.{contents, IsFaultOf}
use Rattle.yaml_round_content.specs.Input.{ReadsInput, events_of, ending_of}
use Rattle.yaml_round_content.specs.Said.{HasContent}
use Rattle.yaml_round_content.specs.TreeContent.{tree_content}
use Rattle.yaml_round_content.specs.Reading.{PlainReading, HasEvents}
use Rattle.yaml_round_content.proofs.Joining.{refused_read, read_refused, said_read, read_said, events_of_tree}
use Rattle.yaml_round_content.proofs.ContentInputs.{have_content}
use Rattle.yaml_round_content.proofs.OfText.{plain_reading}
use Rattle.yaml_round_content.proofs.Told.{tree_events_of}
use Rattle.yaml_round_reading.specs.Answers.{IsRight, IsFaulty, SameContent}

-- ---- one input

-- An input whose reading ends in a fault is faulty by it.
pub faulty : (from : yaml_encoding_t) (input : List ℕ) (f : Fault) → ending_of from input ≡ Some f
    → IsFaulty from input f
unfolding IsFaulty
faulty from input f e = refused_read from input f e

-- The fault of a faulty input ends its reading.
pub faulty_ending : (from : yaml_encoding_t) (input : List ℕ) (f : Fault) → IsFaulty from input f
    → ending_of from input ≡ Some f
unfolding IsFaulty
faulty_ending from input f h = read_refused from input f h

-- An input whose reading ends in no fault is right.
pub right : (from : yaml_encoding_t) (input : List ℕ) → ending_of from input ≡ None
    → IsRight from input
unfolding IsRight
right from input e = let h = have_content from input e in (h.0, said_read from input h.0 h.1)

-- The reading of a right input ends in no fault.
pub right_ending : (from : yaml_encoding_t) (input : List ℕ) → IsRight from input
    → ending_of from input ≡ None
unfolding IsRight
right_ending from input h = (read_said from input h.0 h.1).right

-- the fault that a reading has met
pub fault_met : (from : yaml_encoding_t) (input : List ℕ) (r : ParserRemaining) (f : Fault)
    → ReadsInput from input r → IsFaultOf r.ending f
    → IsMemoryFault parse_layers f ⊎ IsFaulty from input f
fault_met from input r f h e = elim e [ inl m ↦ inl m | inr k ↦ inr (faulty from input f (sym h.ending ∙ k)) ]

-- ---- its events

-- The computed events of an input without a fault are its events.
pub has_events : (from : yaml_encoding_t) (input : List ℕ) (es : List Told)
    → ending_of from input ≡ None → es ≡ events_of from input → HasEvents from input es
has_events from input es e p =
    let h = have_content from input e in
    let r : PlainReading from input (Ok h.0) = said_read from input h.0 h.1 in
    tree_events_of from input es r.of_tokens.sentence (p ∙ events_of_tree from input r.of_tokens.sentence)

-- Events of an input are the ones that the definitions compute.
pub events_are : (from : yaml_encoding_t) (input : List ℕ) (es : List Told)
    → HasEvents from input es → es ≡ events_of from input
events_are from input es h = h.are ∙ sym (events_of_tree from input h.sentence)

-- An input with events is right.
pub events_right : (from : yaml_encoding_t) (input : List ℕ) (es : List Told)
    → HasEvents from input es → IsRight from input
unfolding IsRight
events_right from input es h = (
  tree_content h.sentence.tree,
  plain_reading from input (Ok (tree_content h.sentence.tree)) (record { sentence = h.sentence; content = refl }),
)

-- ---- two inputs

-- Inputs without faults whose events have the same contents have the same content.
pub same_content : (a_from b_from : yaml_encoding_t) (a b : List ℕ) → ending_of a_from a ≡ None
    → ending_of b_from b ≡ None → contents (events_of a_from a) ≡ contents (events_of b_from b)
    → SameContent a_from a b_from b
same_content a_from b_from a b p q e =
    let h = have_content a_from a p in
    let k : HasContent b_from b h.0 = record { right = q; says = sym e ∙ h.1.says } in
    record { content = h.0; first = said_read a_from a h.0 h.1; second = said_read b_from b h.0 k }

-- Inputs of the same content have events of the same contents.
pub content_same : (a_from b_from : yaml_encoding_t) (a b : List ℕ) → SameContent a_from a b_from b
    → contents (events_of a_from a) ≡ contents (events_of b_from b)
content_same a_from b_from a b h = (read_said a_from a h.content h.first).says ∙ sym (read_said b_from b h.content h.second).says

pub second_right : (a_from b_from : yaml_encoding_t) (a b : List ℕ) → SameContent a_from a b_from b
    → IsRight b_from b
unfolding IsRight
second_right a_from b_from a b h = (h.content, h.second)
