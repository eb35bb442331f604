-- From texts in either form to what a rewriting answers.
use Rattle.std.proofs.Common.{◌≡◌, ◌⊎◌, inl, inr, ℕ, List, Bool, true, false, Result, Ok, Err, Vec}
use Rattle.std.specs.Global.{Global}
use Rattle.yaml_parse.specs.declared.yaml_encoding_t.{yaml_encoding_t}
use Rattle.yaml_parse.specs.declared.yaml_fault_t.{yaml_fault_t}
use Rattle.yaml_scan_types.specs.Faults.{Fault, fault_of, IsMemoryFault, Answers}
use Rattle.yaml_round_device.specs.declared.yaml_settings_t.{yaml_settings_t}
use Rattle.yaml_round_device.specs.declared.form.yaml_form_t.{yaml_form_t}
use Rattle.yaml_round_device.specs.declared.form.yaml_form_t.TheVariants.{Canonical, Pretty}
use Rattle.yaml_round_engine.specs.Layers.{reformat_layers}
use Rattle.yaml_round_reading.specs.Answers.{ReadsBack}
use Rattle.yaml_round_engine.specs.Answers.{IsLaidOut, IsWritten, BeginsWithNothing, IsCanonicalDue, IsInCanonicalForm, IsReformatted, text_and_form}

in_form : (from : yaml_encoding_t) (settings : yaml_settings_t) (input text : List ℕ)
    (form : yaml_form_t) → IsCanonicalDue settings.canonical from settings input
    → IsInCanonicalForm from settings input (Ok (text, form))
    → IsReformatted from settings input (Ok (text, form))
unfolding IsReformatted
in_form from settings input text Canonical n h = (n, h)
in_form from settings input text Pretty n h = absurd h

canonical_fault : (from : yaml_encoding_t) (settings : yaml_settings_t) (input : List ℕ) (f : Fault)
    → IsCanonicalDue settings.canonical from settings input
    → IsInCanonicalForm from settings input (Err f) → IsReformatted from settings input (Err f)
unfolding IsReformatted
canonical_fault from settings input f n h = elim h [ inl q ↦ inl q | inr p ↦ inr (inr (n, p)) ]

canonical_answer : (from : yaml_encoding_t) (settings : yaml_settings_t) (input : List ℕ)
    (result : Result (Vec ℕ Global × yaml_form_t) yaml_fault_t)
    → IsCanonicalDue settings.canonical from settings input
    → Answers reformat_layers text_and_form (IsInCanonicalForm from settings input) result
    → Answers reformat_layers text_and_form (IsReformatted from settings input) result
canonical_answer from settings input (Ok a) n h = in_form from settings input a.0.items a.1 n h
canonical_answer from settings input (Err f) n h = elim h [ inl m ↦ inl m | inr k ↦ inr (canonical_fault from settings input (fault_of f) n k) ]

-- what is due where a test says so
pub due_true : (b : Bool) (from : yaml_encoding_t) (settings : yaml_settings_t) (input : List ℕ)
    → b ≡ true → IsCanonicalDue b from settings input
due_true true from settings input e = tt
due_true false from settings input e = absurd (cc)

due_false : (b : Bool) (from : yaml_encoding_t) (settings : yaml_settings_t) (input pretty : List ℕ)
    → b ≡ false → IsLaidOut from input settings false pretty → BeginsWithNothing from input
    → IsCanonicalDue b from settings input
due_false true from settings input pretty e l n = absurd (cc)
due_false false from settings input pretty e l n = (n, (pretty, l))

-- What is in canonical form is what was asked for, where canonical form was.
pub asked_for : (from : yaml_encoding_t) (settings : yaml_settings_t) (input : List ℕ)
    (result : Result (Vec ℕ Global × yaml_form_t) yaml_fault_t) → settings.canonical ≡ true
    → Answers reformat_layers text_and_form (IsInCanonicalForm from settings input) result
    → Answers reformat_layers text_and_form (IsReformatted from settings input) result
asked_for from settings input result c h = canonical_answer from settings input result (due_true settings.canonical from settings input c) h

-- the input begins with nothing
pub fallen_back : (from : yaml_encoding_t) (settings : yaml_settings_t) (input : List ℕ)
    (result : Result (Vec ℕ Global × yaml_form_t) yaml_fault_t) (pretty : List ℕ)
    → settings.canonical ≡ false → IsLaidOut from input settings false pretty
    → BeginsWithNothing from input
    → Answers reformat_layers text_and_form (IsInCanonicalForm from settings input) result
    → Answers reformat_layers text_and_form (IsReformatted from settings input) result
fallen_back from settings input result pretty c l n h = canonical_answer from settings input result (due_false settings.canonical from settings input pretty c l n) h

-- the pretty form reads back
pub pretty_answered : (from : yaml_encoding_t) (settings : yaml_settings_t) (input text : List ℕ)
    → settings.canonical ≡ false
    → IsLaidOut from input settings false text → ReadsBack from input text
    → IsReformatted from settings input (Ok (text, Pretty))
unfolding IsReformatted
pretty_answered from settings input text c l d = (c, (l, d))

-- a refusal of the pretty form
pub pretty_refused : (from : yaml_encoding_t) (settings : yaml_settings_t) (input : List ℕ)
    (f : yaml_fault_t) → settings.canonical ≡ false
    → IsMemoryFault reformat_layers (fault_of f)
    ⊎ IsWritten from input settings false (Err (fault_of f))
    → IsMemoryFault reformat_layers (fault_of f)
    ⊎ IsReformatted from settings input (Err (fault_of f))
unfolding IsReformatted
pretty_refused from settings input f c h = elim h [ inl m ↦ inl m | inr k ↦ inr (elim k [ inl q ↦ inl q | inr p ↦ inr (inl (c, p)) ]) ]
