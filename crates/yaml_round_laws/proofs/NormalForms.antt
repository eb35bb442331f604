-- From normal forms to answers of two calls.
use Rattle.std.proofs.Common.{◌≡◌, ◌∙◌, inl, inr, ℕ, List, Result, Ok, Err, sym, ap, subst, false}
use Rattle.yaml_round.specs.declared.yaml_encoding_t.{yaml_encoding_t}
use Rattle.yaml_round.specs.declared.yaml_encoding_t.TheVariants.{YAML_ANY_ENCODING}
use Rattle.yaml_emit_laws.specs.scan_types.Faults.{Fault}
use Rattle.yaml_emit_layout.specs.Text.{is_deep, encode}
use Rattle.yaml_emit_machine.specs.Emitter.{Passes}
use Rattle.yaml_round_content.specs.Said.{Document, HasContent}
use Rattle.yaml_round_content.specs.Reading.{PlainReading}
use Rattle.yaml_round.specs.declared.yaml_settings_t.{yaml_settings_t}
use Rattle.yaml_round_engine.specs.Answers.{SameContent}
use Rattle.yaml_round_engine.specs.Readable.{IsReadableForm, IsReadablePast, IsReadableAnswer, readable_text, readable_layout, readable_encoding}
use Rattle.yaml_round_content.proofs.Joining.{read_said, said_read}
use Rattle.yaml_round_laws.proofs.Comparing.{one_content}
use Rattle.yaml_round_laws.proofs.Rewriting.{none_is_past, no_fault}
use Rattle.yaml_round_laws.specs.NormalForms.{NormalFormsTellContents, NormalizingIsStill}
use Rattle.yaml_emit_layout.specs.declared.RequestedSettings.{RequestedSettings}
use Rattle.yaml_emit_layout.specs.Streams.{IsStream}
use Rattle.yaml_parse_grammar.specs.Resolve.{Told}
use Rattle.yaml_round_content.specs.Stays.{SaysInput}
use Rattle.yaml_round_content.specs.Canon.{canonical_layout}
use Rattle.yaml_round_content.specs.Events.{emitter_events}
use Rattle.yaml_round_content.specs.Input.{events_of}
use Rattle.yaml_round_content.specs.Flags.{begins_with_nothing}
use Rattle.yaml_round_content.proofs.ReadBack.{inputs_read_back, tells_inputs}
use Rattle.yaml_round.proofs.Plain.{events_are}
use Rattle.yaml_round_content.proofs.Theorem.{pretty_reads_back, pretty_is_lost}
use Rattle.yaml_round_laws.specs.Plain.{CanonicalTextReadsBack, CanonicalTextTellsContents, IsPrettyText, PrettyTextReadsBack, PrettyTextIsLost}

told_apart : (s : yaml_settings_t) (a_from b_from : yaml_encoding_t) (a b t u : List ℕ)
    → IsReadableForm a_from s a t → IsReadableForm b_from s b u → t ≡ u
    → SameContent a_from a b_from b
told_apart s a_from b_from a b t u p q e = record {
  content = p.content;
  first = p.of_input;
  second = subst (λ (c : List Document). PlainReading b_from b (Ok c)) (p.only b_from b q.content q.of_input (sym q.is ∙ sym e)) q.of_input;
}

told_equal : (s : yaml_settings_t) (a_from b_from : yaml_encoding_t) (a b t u : List ℕ)
    → IsReadableForm a_from s a t → IsReadableForm b_from s b u → SameContent a_from a b_from b
    → t ≡ u
told_equal s a_from b_from a b t u p q same =
    p.is
    ∙ ap (readable_text s) (one_content a_from a p.content same.content p.of_input same.first ∙ one_content b_from b same.content q.content same.second q.of_input)
    ∙ sym q.is

pub tell : NormalFormsTellContents
tell s a_from b_from a b t u p q = (told_apart s a_from b_from a b t u p q, told_equal s a_from b_from a b t u p q)

-- a text that fits is past no limit
not_past : (from : yaml_encoding_t) (s : yaml_settings_t) (input text : List ℕ) (f : Fault)
    → IsReadableForm from s input text → IsReadablePast YAML_ANY_ENCODING s text f → ⊥
not_past from s input text f n k =
    let fits = n.again.fits in
    let one = one_content YAML_ANY_ENCODING text k.content n.again.content k.of_input n.again.of_input in
    let passes = subst (λ (c : List Document). Passes s.limit (readable_text s c) (is_deep (readable_layout s c)) f) one k.passes in
    none_is_past s.limit (readable_encoding s) (readable_layout s n.again.content) f fits passes

still_from : (from : yaml_encoding_t) (s : yaml_settings_t) (input text : List ℕ)
    (result : Result (List ℕ) Fault) → IsReadableForm from s input text
    → IsReadableAnswer YAML_ANY_ENCODING s text result → result ≡ Ok text
still_from from s input text (Ok u) n k =
    ap (λ (x : List ℕ). Ok x) (k.is ∙ ap (readable_text s) (one_content YAML_ANY_ENCODING text k.content n.content k.of_input n.of_text) ∙ sym n.is)
still_from from s input text (Err f) n k =
    absurd (elim k [
      | inl q ↦ no_fault YAML_ANY_ENCODING text f (read_said YAML_ANY_ENCODING text n.content n.of_text).right q
      | inr p ↦ not_past from s input text f n p
    ])

pub still : NormalizingIsStill
still from s input text result h k = still_from from s input text result h k

-- ==== The laws beneath, said of plain readings.

pub reads_back : CanonicalTextReadsBack
reads_back from input c h w canonical = said_read YAML_ANY_ENCODING (canonical_layout w c) c (inputs_read_back from input c (read_said from input c h) w canonical)

pub tells : CanonicalTextTellsContents
tells w canonical a_from b_from a b c e h k = tells_inputs w canonical a_from b_from a b c e (read_said a_from a c h) (read_said b_from b e k)

-- the same stream, of the events that the machine gives
stream_of : (w : RequestedSettings) (from : yaml_encoding_t) (input : List ℕ) (c : List Document)
    (es : List Told) (text : List ℕ) → (p : IsPrettyText w from input c es text)
    → IsStream w p.encoding (emitter_events false (events_of from input)) p.whole
stream_of w from input c es text p =
    subst (λ (xs : List Told). IsStream w p.encoding (emitter_events false xs) p.whole) (events_are from input es p.events) p.stream

begins : (w : RequestedSettings) (from : yaml_encoding_t) (input : List ℕ) (c : List Document)
    (es : List Told) (text : List ℕ) → (p : IsPrettyText w from input c es text)
    → begins_with_nothing (emitter_events false (events_of from input))
    ≡ begins_with_nothing (emitter_events false es)
begins w from input c es text p = ap (λ (xs : List Told). begins_with_nothing (emitter_events false xs)) (sym (events_are from input es p.events))

pub pretty_back : PrettyTextReadsBack
pretty_back w from input c es text p no_beginning =
    let said : SaysInput from input (encode p.encoding p.whole) =
    pretty_reads_back w p.pretty from input (begins w from input c es text p ∙ no_beginning) p.encoding p.whole (stream_of w from input c es text p) in
    let h : HasContent from input c = read_said from input c p.content in
    let k : HasContent YAML_ANY_ENCODING (encode p.encoding p.whole) c = record { right = said.0; says = said.1 ∙ h.says } in
    subst (λ (t : List ℕ). PlainReading YAML_ANY_ENCODING t (Ok c)) (sym p.is) (said_read YAML_ANY_ENCODING (encode p.encoding p.whole) c k)

pub pretty_lost : PrettyTextIsLost
pretty_lost w from input c es text p beginning back =
    let h : HasContent from input c = read_said from input c p.content in
    let k : HasContent YAML_ANY_ENCODING (encode p.encoding p.whole) c = read_said YAML_ANY_ENCODING (encode p.encoding p.whole) c (subst (λ (t : List ℕ). PlainReading YAML_ANY_ENCODING t (Ok c)) p.is back) in
    let said : SaysInput from input (encode p.encoding p.whole) = (k.right, k.says ∙ sym h.says) in
    pretty_is_lost w p.pretty from input (begins w from input c es text p ∙ beginning) p.encoding p.whole (stream_of w from input c es text p) said
