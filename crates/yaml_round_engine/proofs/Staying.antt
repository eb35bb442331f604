-- What is laid out in pretty form reads back, unless the input begins with nothing.
use Rattle.std.proofs.Common.{◌≡◌, ◌∙◌, ℕ, Bool, true, false, List, Ok, sym, subst, refl}
use Rattle.yaml_parse.specs.declared.yaml_encoding_t.{yaml_encoding_t}
use Rattle.yaml_parse.specs.declared.yaml_encoding_t.TheVariants.{YAML_ANY_ENCODING}
use Rattle.yaml_parse.specs.Resolve.{Told}
use Rattle.yaml_emit.specs.Streams.{IsStream}
use Rattle.yaml_emit.specs.Text.{encode}
use Rattle.yaml_round_content.specs.Stays.{SaysInput}
use Rattle.yaml_round_content.specs.Input.{events_of}
use Rattle.yaml_round_content.specs.Flags.{begins_with_nothing}
use Rattle.yaml_round_content.proofs.Theorem.{pretty_reads_back}
use Rattle.yaml_round_device.specs.declared.yaml_settings_t.{yaml_settings_t}
use Rattle.yaml_round_reading.specs.Reading.{emitter_events}
use Rattle.yaml_round_engine.specs.declared.writing.Form.TheVariants as form
use Rattle.yaml_round_engine.specs.Writing.{requested_under}
use Rattle.yaml_round_reading.specs.Answers.{IsRight, ReadsBack}
use Rattle.yaml_round_engine.specs.declared.beginning.Beginning.TheVariants as known
use Rattle.yaml_round_engine.specs.Beginning.{nothing_comes}
use Rattle.yaml_round_engine.proofs.Starting.{from_start}
use Rattle.yaml_round_engine.specs.Answers.{IsLaidOut, IsWrittenOut, IsInPrettyForm}
use Rattle.yaml_round_reading.proofs.Plain.{right_ending, events_are, same_content}
use Rattle.yaml_round_engine.proofs.Laying.{laid_right, laid_in}

-- ---- the answer in pretty form

reads : (from : yaml_encoding_t) (input text bytes : List ℕ) → IsRight from input → text ≡ bytes
    → SaysInput from input bytes → ReadsBack from input text
reads from input text bytes is e h = subst (λ (t : List ℕ). ReadsBack from input t) (sym e) (same_content from YAML_ANY_ENCODING input bytes (right_ending from input is) h.0 (sym h.1))

-- the layout is that of the input's events
pub laid_stream : (from : yaml_encoding_t) (input : List ℕ) (settings : yaml_settings_t)
    (text : List ℕ) (laid : IsLaidOut from input settings false text)
    → IsStream (requested_under settings false) laid.layout.encoding
    (emitter_events false (events_of from input)) laid.layout.whole
laid_stream from input settings text laid =
    subst (λ (es : List Told). IsStream (requested_under settings false) laid.layout.encoding (emitter_events false es) laid.layout.whole) (events_are from input laid.events laid.of_input) laid.layout.stream

stays : (from : yaml_encoding_t) (input : List ℕ) (settings : yaml_settings_t) (text : List ℕ)
    → IsLaidOut from input settings false text
    → begins_with_nothing (emitter_events false (events_of from input)) ≡ false
    → ReadsBack from input text
stays from input settings text laid some =
    let l = laid.layout in
    let w = requested_under settings false in
    reads from input text (encode l.encoding l.whole) (laid_right from input settings false text laid) l.is
    (pretty_reads_back w refl from input some l.encoding l.whole (laid_stream from input settings text laid))

by_beginning : (from : yaml_encoding_t) (input : List ℕ) (settings : yaml_settings_t)
    (text : List ℕ) (nothing : Bool) → IsLaidOut from input settings false text
    → begins_with_nothing (emitter_events false (events_of from input)) ≡ nothing
    → IsInPrettyForm from settings input (Ok (text, nothing))
by_beginning from input settings text true laid e = (
  laid,
  record {
    events = laid.events;
    of_input = laid.of_input;
    begins = subst (λ (es : List Told). begins_with_nothing (emitter_events false es) ≡ true) (sym (events_are from input laid.events laid.of_input)) e;
  },
)
by_beginning from input settings text false laid e = (laid, stays from input settings text laid e)

pub in_pretty : (from : yaml_encoding_t) (input : List ℕ) (settings : yaml_settings_t)
    (text : List ℕ) (nothing : Bool)
    → IsWrittenOut (form.Pretty known.Start) from settings input text
    → nothing_comes known.Start (emitter_events false (events_of from input)) ≡ nothing
    → IsInPrettyForm from settings input (Ok (text, nothing))
in_pretty from input settings text nothing h e =
    by_beginning from input settings text nothing (laid_in from input settings false text h.right h.each) (sym (from_start (emitter_events false (events_of from input))) ∙ e)
