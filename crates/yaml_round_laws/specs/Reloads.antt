-- What follows from the definitions of answers, for loaded documents.
use Rattle.std.specs.Prelude.{◌≡◌, ◌↔◌, ℕ, List, Ok}
use Rattle.yaml_round.specs.declared.yaml_encoding_t.{yaml_encoding_t}
use Rattle.yaml_round.specs.declared.yaml_encoding_t.TheVariants.{YAML_ANY_ENCODING}
use Rattle.yaml_round.specs.parse_model.Documents.{Document}
use Rattle.yaml_round_content.specs.PlainLoading.{PlainLoading}
use Rattle.yaml_round_content.specs.Said as content
use Rattle.yaml_round_content.specs.Reading.{PlainReading}
use Rattle.yaml_round_content.specs.Agree.{Agrees}
use Rattle.yaml_round_content.specs.Renamed.{Renaming, renamed, AreOneToOne}
use Rattle.yaml_round.specs.declared.yaml_settings_t.{yaml_settings_t}
use Rattle.yaml_round.specs.declared.yaml_form_t.{yaml_form_t}
use Rattle.yaml_round_engine.specs.Answers.{IsReformatted}
use Rattle.yaml_round_engine.specs.Reload.{IsReloaded}

-- Two answers under the same settings are equal exactly where the documents of their inputs agree.
abbrev pub ReloadsTellDocuments : Type 0
ReloadsTellDocuments = (s : yaml_settings_t) (a_from b_from : yaml_encoding_t) (a b t u : List ℕ)
    → IsReloaded a_from s a (Ok t) → IsReloaded b_from s b (Ok u)
    → (ds es : List Document) → PlainLoading a_from a (Ok ds) → PlainLoading b_from b (Ok es)
    → (t ≡ u) ↔ Agrees ds es

-- Both texts, each read as its byte order mark shows, load without a fault, and documents that agree.
pub record LoadAgreeing (t u : List ℕ) : Type 0 where
  pub documents : List Document
  pub others : List Document
  pub first : PlainLoading YAML_ANY_ENCODING t (Ok documents)
  pub second : PlainLoading YAML_ANY_ENCODING u (Ok others)
  pub agree : Agrees documents others

-- What is answered to one input, by either call and under any settings, loads documents that agree.
abbrev pub AnswersAndReloadsAgree : Type 0
AnswersAndReloadsAgree = (from : yaml_encoding_t) (s z : yaml_settings_t) (input t u : List ℕ)
    (form : yaml_form_t) → IsReformatted from s input (Ok (t, form))
    → IsReloaded from z input (Ok u) → LoadAgreeing t u

-- Inputs with one content except for the names of each document's anchors, no two names becoming one, have one answer.
abbrev pub NamesLeaveReloads : Type 0
NamesLeaveReloads = (s : yaml_settings_t) (r : ℕ → Renaming) (c : List content.Document)
    → AreOneToOne r c
    → (a_from b_from : yaml_encoding_t) (a b t u : List ℕ)
    → PlainReading a_from a (Ok c) → PlainReading b_from b (Ok (renamed r c))
    → IsReloaded a_from s a (Ok t) → IsReloaded b_from s b (Ok u) → t ≡ u
