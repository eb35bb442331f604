-- From what a reading and an emitter say to what is said of the input.
use Rattle.std.proofs.Common.{◌≡◌, ◌⊎◌, ◌∙◌, inl, inr, refl, ap, sym, subst, ℕ, List, [], Bool, true, false, None, Result, Ok, Err, Vec}
use Rattle.std.specs.Prelude.{IfOk}
use Rattle.std.specs.Global.{Global}
use Rattle.yaml_parse.specs.declared.yaml_encoding_t.{yaml_encoding_t}
use Rattle.yaml_parse.specs.declared.yaml_fault_t.{yaml_fault_t}
use Rattle.yaml_scan_types.specs.Faults.{Fault, fault_of, IsMemoryFault, emit_layers, Answers}
use Rattle.yaml_parse.specs.Remaining.{ParserRemaining}
use Rattle.yaml_parse.specs.Resolve.{Told}
use Rattle.yaml_emit.specs.Content.{Event}
use Rattle.yaml_emit.specs.Streams.{IsStream}
use Rattle.yaml_emit.specs.Emitter.{Emitter, Completes, CompletesBy, IsLimited, IsWhole, Passes}
use Rattle.yaml_emit.specs.Within.{IsWithin}
use Rattle.yaml_emit.specs.Text.{Item, encode, is_deep}
use Rattle.yaml_emit.specs.emit_layout.declared.Encoding.{Encoding}
use Rattle.yaml_emit.specs.emit_layout.declared.RequestedSettings.{RequestedSettings}
use Rattle.yaml_round_device.specs.declared.yaml_settings_t.{yaml_settings_t}
use Rattle.yaml_round_engine.specs.Layers.{reformat_layers}
use Rattle.yaml_round_reading.specs.Reading.{emitter_events}
use Rattle.yaml_round_engine.specs.declared.beginning.Beginning.{Beginning}
use Rattle.yaml_round_engine.specs.declared.writing.Form.{Form}
use Rattle.yaml_round_engine.specs.declared.writing.Form.TheVariants as form
use Rattle.yaml_round_engine.specs.Writing.{IsUnder, LeadsOn, FinishesText, requested_under, requested_in, given_in, comes_to_nothing, IsText, IsEachLayout, IsPastEach}
use Rattle.yaml_round_content.specs.Input.{ReadsInput, events_of, ending_of}
use Rattle.yaml_round_engine.specs.Answers.{IsLayout, IsPast, IsLaidOut, IsTooLong, IsWritten, IsWrittenIn, bytes_of}
use Rattle.yaml_round_reading.proofs.Plain.{has_events, events_right, right, right_ending}
use Rattle.yaml_round_reading.specs.Answers.{IsRight}
use Rattle.yaml_round_content.specs.emit_laws.StreamsLaws.{HasText}
use Rattle.yaml_round_engine.proofs.Streams.{input_text}

-- a fresh emitter completes the streams of its settings
starts_at : (b : Bool) (e : Emitter) (w : RequestedSettings) (x : Encoding) (es : List Event)
    (whole : List Item) → b ≡ true → e.requested_settings ≡ w → IsStream w x es whole
    → CompletesBy b e x es whole
starts_at b e w x es whole h k s = subst (λ (c : Bool). CompletesBy c e x es whole) (sym h) (subst (λ (v : RequestedSettings). IsStream v x es whole) (sym k) s)

pub starts : (e : Emitter) (w : RequestedSettings) (limit : ℕ) (x : Encoding) (es : List Event)
    (whole : List Item) → IsUnder e w limit → IsStream w x es whole → Completes e x es whole
unfolding Completes
starts e w limit x es whole h s = starts_at e.fresh e w x es whole h.fresh h.requested_settings s

-- The emitter was fresh, and what was given to it led to what it is now: it completes the streams of these events.
abbrev pub Led : RequestedSettings → ℕ → List Event → Emitter → List Event → Type 0
Led w limit es e left = (e.limit ≡ limit) × ((x : Encoding) (whole : List Item) → IsStream w x es whole → Completes e x left whole)

pub layout : (w : RequestedSettings) (limit : ℕ) (es : List Event) (e : Emitter) (text : List ℕ)
    → Led w limit es e []
    → ((x : Encoding) (whole : List Item) → Completes e x [] whole → IsText e.limit x whole text)
    → IsEachLayout w limit es text
layout w limit es e text l f = λ x whole s. subst (λ (n : ℕ). IsText n x whole text) l.0 (f x whole (l.1 x whole s))

-- a fault is out of memory, or a limit that the layout passes
pub past : (w : RequestedSettings) (limit : ℕ) (es : List Event) (e : Emitter) (left : List Event)
    (f : yaml_fault_t) → Led w limit es e left → IsLimited e (fault_of f)
    → IsMemoryFault emit_layers (fault_of f) ⊎ IsPastEach w limit es (fault_of f)
past w limit es e left f l h = elim h [
  | inl m ↦ inl m
  | inr p ↦ inr (λ x whole s. subst (λ (n : ℕ). Passes n (encode x whole) (is_deep whole) (fault_of f)) l.0 (p x left whole (l.1 x whole s)))
]

-- the emitter's text, where it is whole
pub whole_text : (e : Emitter) (text : Vec ℕ Global) → e.fault ≡ None → IsWhole e text.items
    → IsWithin e → FinishesText e (Ok text)
whole_text e text none w k = (none, λ x whole c. record { is = w none x whole c; fits = k none x whole c })

-- after the last event the form gives nothing
none_given : (v : Form) → given_in v [] ≡ []
none_given form.Canonical = refl
none_given (form.Pretty beginning) = refl
none_given (form.Readable at) = refl

-- all events of a reading
pub led : (from : yaml_encoding_t) (input : List ℕ) (settings : yaml_settings_t) (w v : Form)
    (r : ParserRemaining) (old new : Emitter)
    → ReadsInput from input r → IsUnder old (requested_in w settings) settings.limit
    → LeadsOn w old r.events v new []
    → Led (requested_in w settings) settings.limit (given_in w (events_of from input)) new []
led from input settings w v r old new h u l = (
  l.limit ∙ u.limit,
  λ x whole s. subst (λ (es : List Event). Completes new x es whole) (none_given v) (l.completes x whole
      (starts old (requested_in w settings) settings.limit x (given_in w r.events) whole u
      (subst (λ (es : List Told). IsStream (requested_in w settings) x (given_in w es) whole) (sym h.events) s))),
)

-- and whether they come to nothing
pub began : (from : yaml_encoding_t) (input : List ℕ) (w v : Form) (r : ParserRemaining)
    (old new : Emitter) → ReadsInput from input r → LeadsOn w old r.events v new []
    → comes_to_nothing w (events_of from input) ≡ comes_to_nothing v []
began from input w v r old new h l = sym (ap (comes_to_nothing w) h.events) ∙ l.beginning

-- what is said of an answer in place of a refusal
pub where_ok : {P : Type 0} (result : Result (Vec ℕ Global) yaml_fault_t) → P
    → IfOk result (λ text. P)
where_ok (Ok text) h = h
where_ok (Err f) h = tt

-- ---- what is laid out is of an input that is accepted

pub laid_right : (from : yaml_encoding_t) (input : List ℕ) (settings : yaml_settings_t)
    (canonical : Bool) (text : List ℕ) → IsLaidOut from input settings canonical text
    → IsRight from input
laid_right from input settings canonical text h = events_right from input h.events h.of_input

-- ---- the one layout

pub one_layout : (w : RequestedSettings) (limit : ℕ) (es : List Event) (text : List ℕ)
    → HasText w es → IsEachLayout w limit es text → IsLayout w limit es text
one_layout w limit es text h l =
    let t : IsText limit h.encoding h.whole text = l h.encoding h.whole h.is in
    record { encoding = h.encoding; whole = h.whole; stream = h.is; is = t.is; fits = t.fits }

pub one_past : (w : RequestedSettings) (limit : ℕ) (es : List Event) (f : Fault) → HasText w es
    → IsPastEach w limit es f → IsPast w limit es f
one_past w limit es f h p = record { encoding = h.encoding; whole = h.whole; stream = h.is; passes = p h.encoding h.whole h.is }

emits : (f : yaml_fault_t) → IsMemoryFault emit_layers (fault_of f)
    → IsMemoryFault reformat_layers (fault_of f)
emits f m = elim m [ inl e ↦ inl e | inr w ↦ inr (inl w) ]

pub wrote : (from : yaml_encoding_t) (input : List ℕ) (settings : yaml_settings_t) (a b : Form)
    (r : ParserRemaining) (old new : Emitter) (result : Result (Vec ℕ Global) yaml_fault_t)
    → ReadsInput from input r → IsUnder old (requested_in a settings) settings.limit
    → (r.ending ≡ None) × LeadsOn a old r.events b new [] → FinishesText new result
    → Answers reformat_layers bytes_of (IsWrittenIn a from settings input) result
wrote from input settings a b r old new (Ok text) h u l f = record {
  right = right from input (sym h.ending ∙ l.0);
  each = layout (requested_in a settings) settings.limit (given_in a (events_of from input)) new text.items (led from input settings a b r old new h u l.1) f.1;
}
wrote from input settings a b r old new (Err f) h u l e =
    elim (past (requested_in a settings) settings.limit (given_in a (events_of from input)) new [] f (led from input settings a b r old new h u l.1) e) [
      | inl m ↦ inl (emits f m)
      | inr p ↦ inr (inr (record { right = right from input (sym h.ending ∙ l.0); each = p }))
    ]

-- ---- canonical form and pretty form

pub laid_in : (from : yaml_encoding_t) (input : List ℕ) (settings : yaml_settings_t)
    (canonical : Bool) (text : List ℕ) → IsRight from input
    → IsEachLayout (requested_under settings canonical) settings.limit
    (emitter_events canonical (events_of from input)) text
    → IsLaidOut from input settings canonical text
laid_in from input settings canonical text h each =
    let w : RequestedSettings = requested_under settings canonical in
    let none : ending_of from input ≡ None = right_ending from input h in
    record {
      events = events_of from input;
      of_input = has_events from input (events_of from input) none refl;
      layout = one_layout w settings.limit (emitter_events canonical (events_of from input)) text (input_text from input w none) each;
    }

past_in : (from : yaml_encoding_t) (input : List ℕ) (settings : yaml_settings_t) (canonical : Bool)
    (f : Fault) → IsRight from input
    → IsPastEach (requested_under settings canonical) settings.limit
    (emitter_events canonical (events_of from input)) f → IsTooLong from input settings canonical f
past_in from input settings canonical f h each =
    let w : RequestedSettings = requested_under settings canonical in
    let none : ending_of from input ≡ None = right_ending from input h in
    record {
      events = events_of from input;
      of_input = has_events from input (events_of from input) none refl;
      past = one_past w settings.limit (emitter_events canonical (events_of from input)) f (input_text from input w none) each;
    }

-- what is refused in one of these forms
pub refused_in_canonical : (from : yaml_encoding_t) (input : List ℕ) (settings : yaml_settings_t)
    (f : Fault)
    → IsMemoryFault reformat_layers f ⊎ IsWrittenIn form.Canonical from settings input (Err f)
    → IsMemoryFault reformat_layers f ⊎ IsWritten from input settings true (Err f)
refused_in_canonical from input settings f h = elim h [ inl m ↦ inl m | inr k ↦ inr (elim k [ inl q ↦ inl q | inr p ↦ inr (past_in from input settings true f p.right p.each) ]) ]

pub refused_in_pretty : (from : yaml_encoding_t) (input : List ℕ) (settings : yaml_settings_t)
    (b : Beginning) (f : Fault)
    → IsMemoryFault reformat_layers f ⊎ IsWrittenIn (form.Pretty b) from settings input (Err f)
    → IsMemoryFault reformat_layers f ⊎ IsWritten from input settings false (Err f)
refused_in_pretty from input settings b f h = elim h [ inl m ↦ inl m | inr k ↦ inr (elim k [ inl q ↦ inl q | inr p ↦ inr (past_in from input settings false f p.right p.each) ]) ]
