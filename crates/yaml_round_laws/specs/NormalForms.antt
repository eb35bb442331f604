-- What follows for users from what normalizing answers.
use Rattle.std.specs.Prelude.{◌≡◌, ◌↔◌, ℕ, List, Result, Ok}
use Rattle.yaml_round.specs.declared.yaml_encoding_t.{yaml_encoding_t}
use Rattle.yaml_round.specs.declared.yaml_encoding_t.TheVariants.{YAML_ANY_ENCODING}
use Rattle.yaml_emit_laws.specs.scan_types.Faults.{Fault}
use Rattle.yaml_round.specs.declared.yaml_settings_t.{yaml_settings_t}
use Rattle.yaml_round_engine.specs.Answers.{SameContent}
use Rattle.yaml_round_engine.specs.Readable.{IsReadableAnswer}

-- Two normal forms under the same settings are equal exactly where the contents of their inputs are.
abbrev pub NormalFormsTellContents : Type 0
NormalFormsTellContents = (s : yaml_settings_t) (a_from b_from : yaml_encoding_t)
    (a b t u : List ℕ) → IsReadableAnswer a_from s a (Ok t) → IsReadableAnswer b_from s b (Ok u)
    → (t ≡ u) ↔ SameContent a_from a b_from b

-- A normal form, given in under the same settings, has itself as its only answer.
abbrev pub NormalizingIsStill : Type 0
NormalizingIsStill = (from : yaml_encoding_t) (s : yaml_settings_t) (input text : List ℕ)
    (result : Result (List ℕ) Fault) → IsReadableAnswer from s input (Ok text)
    → IsReadableAnswer YAML_ANY_ENCODING s text result → result ≡ Ok text
