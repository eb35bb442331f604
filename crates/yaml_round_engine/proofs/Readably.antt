-- What is laid out for an input with the styles that its content decides is the normal form that people read.
use Rattle.std.proofs.Common.{◌⊎◌, ◌∙◌, inl, inr, false, ℕ, List, Err, refl, sym, subst}
use Rattle.yaml_parse.specs.declared.yaml_encoding_t.{yaml_encoding_t}
use Rattle.yaml_parse.specs.declared.yaml_encoding_t.TheVariants.{YAML_ANY_ENCODING}
use Rattle.yaml_scan_types.specs.Faults.{Fault, IsMemoryFault}
use Rattle.yaml_emit.specs.Streams.{IsStream}
use Rattle.yaml_round_device.specs.declared.yaml_settings_t.{yaml_settings_t}
use Rattle.yaml_round_content.specs.Input.{events_of}
use Rattle.yaml_round_content.specs.Said.{Document, HasContent}
use Rattle.yaml_round_content.proofs.ContentInputs.{have_content}
use Rattle.yaml_round_content.proofs.Joining.{said_read, read_said}
use Rattle.yaml_round_content.specs.Restyled.{Before, readable_events}
use Rattle.yaml_round_content.proofs.ReadableJoining.{is_read, tells_inputs}
use Rattle.yaml_round_content.proofs.Restyling.{laid_out}
use Rattle.yaml_round_reading.specs.Reading.{contents}
use Rattle.yaml_round_reading.specs.Answers.{IsRight}
use Rattle.yaml_round_reading.proofs.Plain.{right_ending}
use Rattle.yaml_round_engine.specs.declared.styles.OpeningPosition.TheVariants as place
use Rattle.yaml_round_engine.specs.declared.writing.Form.TheVariants as form
use Rattle.yaml_round_engine.specs.Layers.{reformat_layers}
use Rattle.yaml_round_engine.specs.Writing.{requested_under}
use Rattle.yaml_round_engine.specs.Answers.{IsWrittenOut, IsWrittenPast, IsWrittenIn}
use Rattle.yaml_round_engine.specs.Readable.{readable_encoding, readable_layout, IsReadableForm, IsReadablePast, IsReadableAnswer}

-- the content of an input that is accepted
found : (from : yaml_encoding_t) (input : List ℕ) → IsRight from input
    → (c : List Document) × HasContent from input c
found from input h = have_content from input (right_ending from input h)

-- its layout is that of the input's events with these styles
stream : (from : yaml_encoding_t) (s : yaml_settings_t) (input : List ℕ) (c : List Document)
    → HasContent from input c
    → IsStream (requested_under s false) (readable_encoding s)
    (readable_events Before (contents (events_of from input))) (readable_layout s c)
stream from s input c h = laid_out (requested_under s false) refl from input c h

-- A text in the form that people read is one in readable form.
pub in_readable_form : (from : yaml_encoding_t) (s : yaml_settings_t) (input text : List ℕ)
    → IsWrittenOut (form.Readable place.Before) from s input text → IsReadableForm from s input text
in_readable_form from s input text h =
    let w = requested_under s false in
    let (c, said) = found from input h.right in
    let t = h.each (readable_encoding s) (readable_layout s c) (stream from s input c said) in
    let back : HasContent YAML_ANY_ENCODING text c = subst (λ (z : List ℕ). HasContent YAML_ANY_ENCODING z c) (sym t.is) (is_read from input c said w refl) in
    record {
      content = c;
      of_input = said_read from input c said;
      of_text = said_read YAML_ANY_ENCODING text c back;
      is = t.is;
      only = λ other source d p e. tells_inputs w refl other from source input d c (read_said other source d p) said (e ∙ t.is);
      again = record { content = c; of_input = said_read YAML_ANY_ENCODING text c back; is = t.is; fits = t.fits };
    }

past_readable : (from : yaml_encoding_t) (s : yaml_settings_t) (input : List ℕ) (f : Fault)
    → IsWrittenPast (form.Readable place.Before) from s input f → IsReadablePast from s input f
past_readable from s input f h =
    let (c, said) = found from input h.right in
    record {
      content = c;
      of_input = said_read from input c said;
      passes = h.each (readable_encoding s) (readable_layout s c) (stream from s input c said);
    }

-- A fault of the readable form is out of memory, or an answer by its contract.
pub not_readable : (from : yaml_encoding_t) (s : yaml_settings_t) (input : List ℕ) (f : Fault)
    → IsMemoryFault reformat_layers f
    ⊎ IsWrittenIn (form.Readable place.Before) from s input (Err f)
    → IsMemoryFault reformat_layers f ⊎ IsReadableAnswer from s input (Err f)
not_readable from s input f h = elim h [ inl m ↦ inl m | inr k ↦ inr (elim k [ inl q ↦ inl q | inr p ↦ inr (past_readable from s input f p) ]) ]
