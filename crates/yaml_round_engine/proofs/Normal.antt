-- What is laid out in canonical form for an input is a normal form of what the input says.
use Rattle.std.proofs.Common.{◌≡◌, ℕ, Bool, true, List, refl, sym, ap, subst, ◌∙◌}
use Rattle.yaml_parse.specs.declared.yaml_encoding_t.{yaml_encoding_t}
use Rattle.yaml_parse.specs.declared.yaml_encoding_t.TheVariants.{YAML_ANY_ENCODING}
use Rattle.yaml_emit.specs.Text.{Item, encode}
use Rattle.yaml_emit.specs.Within.{Fits}
use Rattle.yaml_emit.specs.emit_layout.declared.Encoding.{Encoding}
use Rattle.yaml_parse.specs.Resolve.{Told}
use Rattle.yaml_round_content.specs.Input.{events_of}
use Rattle.yaml_round_content.specs.Said.{Document, HasContent}
use Rattle.yaml_round_content.specs.Canon.{canon_items, canon_encoding}
use Rattle.yaml_round_content.specs.ContentLaws.{IsSet, AreCanonical}
use Rattle.yaml_round_content.proofs.ContentInputs.{have_content}
use Rattle.yaml_round_content.proofs.ReadBack.{inputs_read_back, tells_inputs, layout_is_of_input, is_laid_out_again}
use Rattle.yaml_round_device.specs.declared.yaml_settings_t.{yaml_settings_t}
use Rattle.yaml_round_device.specs.declared.form.yaml_output_encoding_t.{yaml_output_encoding_t}
use Rattle.yaml_round_device.specs.declared.form.yaml_output_encoding_t.TheVariants.{Utf8, Utf16Le, Utf16Be}
use Rattle.yaml_round_reading.specs.Reading.{emitter_events}
use Rattle.yaml_round_engine.specs.declared.writing.Form.TheVariants as form
use Rattle.yaml_round_engine.specs.Writing.{encoding_under, requested_under}
use Rattle.yaml_round_engine.specs.Answers.{IsLayout, IsLaidOut, IsWrittenOut, IsNormalForm, canonical_text}
use Rattle.yaml_round_engine.proofs.Laying.{laid_in}
use Rattle.yaml_round_reading.proofs.Plain.{right_ending, has_events, events_are, events_right}
use Rattle.yaml_round_content.proofs.Joining.{said_read, read_said}

set_under : (e : yaml_output_encoding_t) → IsSet (encoding_under e)
set_under Utf8 = tt
set_under Utf16Le = tt
set_under Utf16Be = tt

pub canonical_under : (s : yaml_settings_t) → AreCanonical (requested_under s true)
canonical_under s = record { canonical = refl; set = set_under s.encoding }

-- ---- what is laid out

-- it is the text of the input's content
pub text_is : (from : yaml_encoding_t) (input : List ℕ) (s : yaml_settings_t) (c : List Document)
    (text : List ℕ) → HasContent from input c
    → IsLayout (requested_under s true) s.limit (emitter_events true (events_of from input)) text
    → text ≡ canonical_text s c
text_is from input s c text h laid =
    let p = layout_is_of_input (requested_under s true) (canonical_under s) from input c h laid.encoding laid.whole laid.stream in
    laid.is ∙ ap (λ (x : Encoding). encode x laid.whole) p.0 ∙ ap (encode (canon_encoding (requested_under s true))) p.1

-- and that passes no limit
pub text_fits : (from : yaml_encoding_t) (input : List ℕ) (s : yaml_settings_t) (c : List Document)
    (text : List ℕ) → HasContent from input c
    → IsLayout (requested_under s true) s.limit (emitter_events true (events_of from input)) text
    → Fits s.limit (canon_encoding (requested_under s true))
    (canon_items (requested_under s true) c)
text_fits from input s c text h laid =
    let w = requested_under s true in
    let p = layout_is_of_input w (canonical_under s) from input c h laid.encoding laid.whole laid.stream in
    subst (λ (x : List Item). Fits s.limit (canon_encoding w) x) p.1 (subst (λ (x : Encoding). Fits s.limit x laid.whole) p.0 laid.fits)

-- what is laid out, of the events that the machine reads
pub laid_of : (from : yaml_encoding_t) (s : yaml_settings_t) (input text : List ℕ)
    (canonical : Bool) → IsLaidOut from input s canonical text
    → IsLayout (requested_under s canonical) s.limit
    (emitter_events canonical (events_of from input)) text
laid_of from s input text canonical laid =
    subst (λ (es : List Told). IsLayout (requested_under s canonical) s.limit (emitter_events canonical es) text) (events_are from input laid.events laid.of_input) laid.layout

-- ---- normal forms

normal : (from : yaml_encoding_t) (s : yaml_settings_t) (input text : List ℕ)
    → IsLaidOut from input s true text → IsNormalForm from s input text
normal from s input text laid =
    let w = requested_under s true in
    let found = have_content from input (right_ending from input (events_right from input laid.events laid.of_input)) in
    let layout = laid_of from s input text true laid in
    let c = found.0 in
    let h = found.1 in
    let is : text ≡ canonical_text s c = text_is from input s c text h layout in
    let of_text : HasContent YAML_ANY_ENCODING (canonical_text s c) c = inputs_read_back from input c h w refl in
    record {
      content = c;
      of_input = said_read from input c h;
      of_text = said_read YAML_ANY_ENCODING text c (subst (λ (t : List ℕ). HasContent YAML_ANY_ENCODING t c) (sym is) of_text);
      is = is;
      only = λ other source d k e. tells_inputs w refl other from source input d c (read_said other source d k) h (e ∙ is);
      again = subst (λ (t : List ℕ). IsLaidOut YAML_ANY_ENCODING t s true t) (sym is) (record {
        events = events_of YAML_ANY_ENCODING (canonical_text s c);
        of_input = has_events YAML_ANY_ENCODING (canonical_text s c) (events_of YAML_ANY_ENCODING (canonical_text s c)) of_text.right refl;
        layout = record {
          encoding = canon_encoding w;
          whole = canon_items w c;
          stream = is_laid_out_again from input c h w (canonical_under s);
          is = refl;
          fits = text_fits from input s c text h layout;
        };
      });
    }

-- A text in canonical form is laid out, and is its content's normal form.
pub in_normal_form : (from : yaml_encoding_t) (s : yaml_settings_t) (input text : List ℕ)
    → IsWrittenOut form.Canonical from s input text
    → IsLaidOut from input s true text × IsNormalForm from s input text
in_normal_form from s input text h = let laid = laid_in from input s true text h.right h.each in (laid, normal from s input text laid)
