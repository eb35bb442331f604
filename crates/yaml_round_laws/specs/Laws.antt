-- What follows from the definitions of answers.
use Rattle.std.specs.Prelude.{◌≡◌, ◌↔◌, ◌⊎◌, ℕ, Bool, true, false, List, Result, Ok, Err}
use Rattle.yaml_round.specs.declared.yaml_encoding_t.{yaml_encoding_t}
use Rattle.yaml_round.specs.declared.yaml_encoding_t.TheVariants.{YAML_ANY_ENCODING}
use Rattle.yaml_emit_laws.specs.scan_types.Faults.{Fault}
use Rattle.yaml_round.specs.declared.yaml_settings_t.{yaml_settings_t}
use Rattle.yaml_round.specs.declared.yaml_form_t.{yaml_form_t}
use Rattle.yaml_round.specs.declared.yaml_form_t.TheVariants.{Canonical, Pretty}
use Rattle.yaml_round_engine.specs.Answers.{IsRight, IsReformatted, IsLaidOut, IsFaulty, IsTooLong, IsCompared, BeginsWithNothing, ReadsBack, SameContent}
use Rattle.yaml_round_content.specs.KeptLaws.{IsJsonInput}

-- ---- rewriting

-- What is answered, in either form, is accepted with its encoding detected, and has the input's content.
abbrev pub AnswersReadBack : Type 0
AnswersReadBack = (from : yaml_encoding_t) (s : yaml_settings_t) (input text : List ℕ)
    (form : yaml_form_t) → IsReformatted from s input (Ok (text, form))
    → ReadsBack from input text

-- Two answers to one input have the same content, whatever the settings and the forms.
abbrev pub SettingsDoNotMatter : Type 0
SettingsDoNotMatter = (from : yaml_encoding_t) (s z : yaml_settings_t) (input t u : List ℕ)
    (f g : yaml_form_t) → IsReformatted from s input (Ok (t, f))
    → IsReformatted from z input (Ok (u, g)) → SameContent YAML_ANY_ENCODING t YAML_ANY_ENCODING u

-- Two canonical answers under the same settings are equal exactly where the contents of their inputs are.
abbrev pub CanonicalAnswersTellContents : Type 0
CanonicalAnswersTellContents = (s : yaml_settings_t) (a_from b_from : yaml_encoding_t)
    (a b t u : List ℕ) → IsReformatted a_from s a (Ok (t, Canonical))
    → IsReformatted b_from s b (Ok (u, Canonical)) → (t ≡ u) ↔ SameContent a_from a b_from b

-- the settings with canonical form asked for
abbrev pub asking : yaml_settings_t → yaml_settings_t
asking s = record s { canonical = true }

-- A canonical answer, given in under the same settings with canonical form asked for, has itself as its only answer.
abbrev pub RewritingIsStill : Type 0
RewritingIsStill = (from : yaml_encoding_t) (s : yaml_settings_t) (input text : List ℕ)
    (result : Result (List ℕ × yaml_form_t) Fault)
    → IsReformatted from s input (Ok (text, Canonical))
    → IsReformatted YAML_ANY_ENCODING (asking s) text result → result ≡ Ok (text, Canonical)

-- ---- the form

-- Where canonical form isn't asked for, an answer is in canonical form exactly if its input begins with nothing.
abbrev pub FormTellsBeginning : Type 0
FormTellsBeginning = (from : yaml_encoding_t) (s : yaml_settings_t) (input text : List ℕ)
    (form : yaml_form_t) → s.canonical ≡ false → IsReformatted from s input (Ok (text, form))
    → (form ≡ Canonical) ↔ BeginsWithNothing from input

-- ---- text shaped as JSON

-- The pretty layout of the input; or its fault, or the limit that this layout passes.
abbrev pub IsPrettyAnswer : yaml_encoding_t → yaml_settings_t → List ℕ
    → Result (List ℕ × yaml_form_t) Fault → Type 0
IsPrettyAnswer from s input (Ok (text, Canonical)) = ⊥
IsPrettyAnswer from s input (Ok (text, Pretty)) = IsLaidOut from input s false text
IsPrettyAnswer from s input (Err fault) = IsFaulty from input fault
    ⊎ IsTooLong from input s false fault

-- Where canonical form isn't asked for, an input shaped as JSON is answered in pretty form, unless its
-- pretty layout passes a limit.
abbrev pub JsonStaysPretty : Type 0
JsonStaysPretty = (from : yaml_encoding_t) (s : yaml_settings_t) (input : List ℕ)
    (result : Result (List ℕ × yaml_form_t) Fault) → s.canonical ≡ false → IsJsonInput from input
    → IsReformatted from s input result → IsPrettyAnswer from s input result

-- ---- comparing

-- Each input that is accepted has its own content; of two that have the same content each has the other's; and content passes on.
pub record SameContentIsAnEquivalence : Type 0 where
  pub reflexive : (from : yaml_encoding_t) (a : List ℕ) → IsRight from a
      → SameContent from a from a
  pub symmetric : (a_from b_from : yaml_encoding_t) (a b : List ℕ) → SameContent a_from a b_from b
      → SameContent b_from b a_from a
  pub transitive : (a_from b_from c_from : yaml_encoding_t) (a b c : List ℕ)
      → SameContent a_from a b_from b → SameContent b_from b c_from c
      → SameContent a_from a c_from c

-- Comparisons of the same inputs answer the same, in this order and in the other one.
pub record ComparisonsAgree : Type 0 where
  pub again : (a_from b_from : yaml_encoding_t) (a b : List ℕ) (x y : Bool)
      → IsCompared a_from a b_from b x → IsCompared a_from a b_from b y → x ≡ y
  pub turned : (a_from b_from : yaml_encoding_t) (a b : List ℕ) (x y : Bool)
      → IsCompared a_from a b_from b x → IsCompared b_from b a_from a y → x ≡ y
