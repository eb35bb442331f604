-- Where canonical form isn't asked for, the form says whether the input begins with nothing.
use Rattle.std.proofs.lemmas.Bool.Decides.{nat_tests}
use Rattle.std.proofs.Common.{◌≡◌, sym, ap, subst, refl, ℕ, Bool, true, false, true≢false, List, arith}
use Rattle.yaml_round.specs.declared.yaml_encoding_t.{yaml_encoding_t}
use Rattle.yaml_round.specs.declared.yaml_encoding_t.TheVariants.{YAML_ANY_ENCODING}
use Rattle.yaml_round.specs.declared.yaml_settings_t.{yaml_settings_t}
use Rattle.yaml_round.specs.declared.yaml_form_t.{yaml_form_t}
use Rattle.yaml_round.specs.declared.yaml_form_t.TheVariants.{Canonical, Pretty}
use Rattle.yaml_parse_grammar.specs.Resolve.{Told}
use Rattle.yaml_round_content.specs.Input.{events_of}
use Rattle.yaml_round.specs.round_reading.Reading.{emitter_events}
use Rattle.yaml_round_content.specs.Flags.{begins_with_nothing}
use Rattle.yaml_round_engine.specs.Writing.{requested_under}
use Rattle.yaml_round_engine.specs.Answers.{IsReformatted, IsCanonicalDue, IsLaidOut, BeginsWithNothing, ReadsBack}
use Rattle.yaml_round_content.specs.Stays.{SaysInput}
use Rattle.yaml_round.proofs.Plain.{events_are, content_same, second_right, right_ending}
use Rattle.yaml_round_engine.proofs.Staying.{laid_stream}
use Rattle.yaml_round_content.proofs.Theorem.{pretty_is_lost}
use Rattle.yaml_round_laws.specs.Laws.{FormTellsBeginning}

pub begins_so : (from : yaml_encoding_t) (input : List ℕ) → BeginsWithNothing from input
    → begins_with_nothing (emitter_events false (events_of from input)) ≡ true
begins_so from input n = subst (λ (es : List Told). begins_with_nothing (emitter_events false es) ≡ true) (events_are from input n.events n.of_input) n.begins

due_begins : (b : Bool) (from : yaml_encoding_t) (s : yaml_settings_t) (input : List ℕ) → b ≡ false
    → IsCanonicalDue b from s input → BeginsWithNothing from input
due_begins b from s input e due = grind (arith, nat_tests, true≢false)

-- pretty text that reads back is of an input that begins with something
lost : (from : yaml_encoding_t) (s : yaml_settings_t) (input text : List ℕ)
    → IsLaidOut from input s false text → ReadsBack from input text → BeginsWithNothing from input
    → ⊥
lost from s input text laid back n =
    let l = laid.layout in
    let says : SaysInput from input text = (right_ending YAML_ANY_ENCODING text (second_right from YAML_ANY_ENCODING input text back), sym (content_same from YAML_ANY_ENCODING input text back)) in
    pretty_is_lost (requested_under s false) refl from input (begins_so from input n) l.encoding l.whole (laid_stream from input s text laid) (subst (λ (t : List ℕ). SaysInput from input t) l.is says)

abbrev is_canonical : yaml_form_t → Bool
is_canonical Canonical = true
is_canonical Pretty = false

pub tells : FormTellsBeginning
unfolding IsReformatted
tells from s input text Canonical e h = (λ same. due_begins s.canonical from s input e h.0, λ n. refl)
tells from s input text Pretty e h = (λ same. absurd (true≢false (sym (ap is_canonical same))), λ n. absurd (lost from s input text h.1.0 h.1.1 n))
