-- From normal forms, and pretty texts that read back, to answers of two calls.
use Rattle.std.proofs.lemmas.Bool.Decides.{nat_tests}
use Rattle.std.proofs.Common.{◌≡◌, inl, inr, ℕ, true, List, Some, None, Result, Ok, Err, sym, ap, subst, ◌∙◌, arith, true≢false, Bool, false}
use Rattle.yaml_round.specs.declared.yaml_encoding_t.{yaml_encoding_t}
use Rattle.yaml_round.specs.declared.yaml_encoding_t.TheVariants.{YAML_ANY_ENCODING}
use Rattle.yaml_emit_laws.specs.scan_types.Faults.{Fault}
use Rattle.yaml_emit_layout.specs.Text.{Item, encode, is_deep}
use Rattle.yaml_emit_machine.specs.Within.{Fits}
use Rattle.yaml_emit_machine.specs.Emitter.{Passes}
use Rattle.yaml_emit_layout.specs.declared.Encoding.{Encoding}
use Rattle.yaml_round_content.specs.Input.{ending_of, events_of}
use Rattle.yaml_round_content.specs.Said.{Document, HasContent}
use Rattle.yaml_parse_grammar.specs.Resolve.{Told}
use Rattle.yaml_round_content.specs.Reading.{PlainReading}
use Rattle.yaml_round_content.specs.Canon.{canon_items, canon_encoding}
use Rattle.yaml_round.specs.declared.yaml_settings_t.{yaml_settings_t}
use Rattle.yaml_round.specs.declared.yaml_form_t.{yaml_form_t}
use Rattle.yaml_round.specs.declared.yaml_form_t.TheVariants.{Canonical, Pretty}
use Rattle.yaml_round.specs.round_reading.Reading.{emitter_events}
use Rattle.yaml_round_engine.specs.Writing.{requested_under}
use Rattle.yaml_round_engine.specs.Answers.{IsReformatted, IsNormalForm, IsFaulty, IsTooLong, IsLayout, IsPast, SameContent, canonical_text, IsCanonicalDue}
use Rattle.yaml_round_engine.proofs.Normal.{canonical_under, text_is, text_fits, laid_of}
use Rattle.yaml_round.proofs.Plain.{faulty_ending, events_are}
use Rattle.yaml_round_content.proofs.Joining.{read_said}
use Rattle.yaml_round_content.proofs.ReadBack.{layout_is_of_input}
use Rattle.yaml_round_laws.proofs.Comparing.{one_content, turned, equivalence}
use Rattle.yaml_round_laws.specs.Laws.{AnswersReadBack, SettingsDoNotMatter, CanonicalAnswersTellContents, RewritingIsStill, asking, JsonStaysPretty}
use Rattle.yaml_round_content.specs.KeptLaws.{IsJsonInput}
use Rattle.yaml_round_content.proofs.JsonInputs.{json_begins}
use Rattle.yaml_round_laws.proofs.Beginning.{begins_so}

-- ---- reading back

pub answer_reads_back : AnswersReadBack
unfolding IsReformatted
answer_reads_back from s input text Canonical h = record { content = h.1.1.content; first = h.1.1.of_input; second = h.1.1.of_text }
answer_reads_back from s input text Pretty h = h.1.1

pub no_matter : SettingsDoNotMatter
no_matter from s z input t u f g h k =
    equivalence.transitive YAML_ANY_ENCODING from YAML_ANY_ENCODING t input u (turned from YAML_ANY_ENCODING input t (answer_reads_back from s input t f h)) (answer_reads_back from z input u g k)

-- ---- canonical answers

normal_of : (from : yaml_encoding_t) (s : yaml_settings_t) (input text : List ℕ)
    → IsReformatted from s input (Ok (text, Canonical)) → IsNormalForm from s input text
unfolding IsReformatted
normal_of from s input text h = h.1.1

told_apart : (s : yaml_settings_t) (a_from b_from : yaml_encoding_t) (a b t u : List ℕ)
    → IsNormalForm a_from s a t → IsNormalForm b_from s b u → t ≡ u → SameContent a_from a b_from b
told_apart s a_from b_from a b t u p q e = record {
  content = p.content;
  first = p.of_input;
  second = subst (λ (c : List Document). PlainReading b_from b (Ok c)) (p.only b_from b q.content q.of_input (sym q.is ∙ sym e)) q.of_input;
}

told_equal : (s : yaml_settings_t) (a_from b_from : yaml_encoding_t) (a b t u : List ℕ)
    → IsNormalForm a_from s a t → IsNormalForm b_from s b u → SameContent a_from a b_from b → t ≡ u
told_equal s a_from b_from a b t u p q same =
    p.is
    ∙ ap (canonical_text s) (one_content a_from a p.content same.content p.of_input same.first ∙ one_content b_from b same.content q.content same.second q.of_input)
    ∙ sym q.is

pub tell : CanonicalAnswersTellContents
tell s a_from b_from a b t u h k =
    let p = normal_of a_from s a t h in
    let q = normal_of b_from s b u k in
    (told_apart s a_from b_from a b t u p q, told_equal s a_from b_from a b t u p q)

-- ---- again

pub none_is_past : (limit : ℕ) (x : Encoding) (whole : List Item) (f : Fault) → Fits limit x whole
    → Passes limit (encode x whole) (is_deep whole) f → ⊥
none_is_past limit x whole f fits h5 = grind (arith, nat_tests, true≢false)

pub no_fault : (from : yaml_encoding_t) (input : List ℕ) (f : Fault) → ending_of from input ≡ None
    → IsFaulty from input f → ⊥
no_fault from input f h k = let bad : None ≡ Some f = sym h ∙ faulty_ending from input f k in absurd cc

-- a text that is laid out and fits is past no limit
not_too_long : (s : yaml_settings_t) (text : List ℕ) (c : List Document) (f : Fault)
    → HasContent YAML_ANY_ENCODING text c
    → IsLayout (requested_under s true) s.limit
    (emitter_events true (events_of YAML_ANY_ENCODING text)) text
    → IsPast (requested_under s true) s.limit
    (emitter_events true (events_of YAML_ANY_ENCODING text)) f → ⊥
not_too_long s text c f h laid past =
    let w = requested_under s true in
    let p = layout_is_of_input w (canonical_under s) YAML_ANY_ENCODING text c h past.encoding past.whole past.stream in
    let passes = subst (λ (x : List Item). Passes s.limit (encode (canon_encoding w) x) (is_deep x) f) p.1
    (subst (λ (x : Encoding). Passes s.limit (encode x past.whole) (is_deep past.whole) f) p.0 past.passes) in
    none_is_past s.limit (canon_encoding w) (canon_items w c) f (text_fits YAML_ANY_ENCODING text s c text h laid) passes

-- past a limit, of the events that the machine reads
past_of : (s : yaml_settings_t) (text : List ℕ) (f : Fault)
    → IsTooLong YAML_ANY_ENCODING text (asking s) true f
    → IsPast (requested_under s true) s.limit
    (emitter_events true (events_of YAML_ANY_ENCODING text)) f
past_of s text f h = subst (λ (es : List Told). IsPast (requested_under s true) s.limit (emitter_events true es) f) (events_are YAML_ANY_ENCODING text h.events h.of_input) h.past

still_from : (from : yaml_encoding_t) (s : yaml_settings_t) (input text : List ℕ)
    (result : Result (List ℕ × yaml_form_t) Fault) → IsNormalForm from s input text
    → IsReformatted YAML_ANY_ENCODING (asking s) text result → result ≡ Ok (text, Canonical)
unfolding IsReformatted
still_from from s input text (Ok (u, Canonical)) n k = ap (λ (x : List ℕ). Ok (x, Canonical)) (text_is YAML_ANY_ENCODING text (asking s) n.content u (read_said YAML_ANY_ENCODING text n.content n.of_text) (laid_of YAML_ANY_ENCODING (asking s) text u true k.1.0) ∙ sym n.is)
still_from from s input text (Ok (u, Pretty)) n k = absurd (true≢false k.0)
still_from from s input text (Err f) n k =
    absurd (elim k [
      | inl q ↦ no_fault YAML_ANY_ENCODING text f (read_said YAML_ANY_ENCODING text n.content n.of_text).right q
      | inr p ↦ elim p [
        | inl a ↦ true≢false a.0
        | inr b ↦ not_too_long s text n.content f (read_said YAML_ANY_ENCODING text n.content n.of_text) (laid_of YAML_ANY_ENCODING s text text true n.again) (past_of s text f b.1)
      ]
    ])

pub still : RewritingIsStill
still from s input text result h k = still_from from s input text result (normal_of from s input text h) k

-- ==== Inputs shaped as JSON are answered in pretty form: they begin with something.

never_due : (b : Bool) → b ≡ false → (from : yaml_encoding_t) (s : yaml_settings_t) (input : List ℕ)
    → IsJsonInput from input → IsCanonicalDue b from s input → ⊥
never_due true e from s input is due = true≢false e
never_due false e from s input is due = true≢false (sym (begins_so from input due.0) ∙ json_begins from input is)

pub shaped_stay : JsonStaysPretty
unfolding IsReformatted
shaped_stay from s input h3 e is h = grind (arith, nat_tests, never_due)
