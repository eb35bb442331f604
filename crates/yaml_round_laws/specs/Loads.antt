-- What `yaml_reload` answers, said of what its input loads.
use Rattle.std.specs.Prelude.{◌≡◌, ◌↔◌, ◌⊎◌, ℕ, List, Some, None, Result, Ok, Err}
use Rattle.yaml_round.specs.declared.yaml_encoding_t.{yaml_encoding_t}
use Rattle.yaml_round.specs.declared.yaml_encoding_t.TheVariants.{YAML_ANY_ENCODING}
use Rattle.yaml_emit_laws.specs.scan_types.Faults.{Fault}
use Rattle.yaml_round_content.specs.Loads.{loads_of}
use Rattle.yaml_round_content.specs.Agree.{Agrees}
use Rattle.yaml_round_content.specs.DumpsEvents.{trees_of_dumps}
use Rattle.yaml_round.specs.declared.yaml_settings_t.{yaml_settings_t}
use Rattle.yaml_round_engine.specs.Answers.{canonical_text}
use Rattle.yaml_round_engine.specs.Reload.{IsDumped, IsNormalOfDocuments, IsReloaded}

-- No fault ends the loads of the input's events, and the documents are laid out, or a limit is passed.
abbrev pub LaysOutLoads : yaml_encoding_t → yaml_settings_t → List ℕ → Result (List ℕ) Fault
    → Type 0
LaysOutLoads from settings input r = ((loads_of from input).fault ≡ None)
    × IsDumped settings (loads_of from input).documents r

-- The documents that the input loads, laid out, a normal form of them; the fault that ends them; or, where none does, a limit that
-- the layout passes.
abbrev pub AreLoadsReloaded : yaml_encoding_t → yaml_settings_t → List ℕ
    → Result (List ℕ) Fault → Type 0
AreLoadsReloaded from settings input (Ok text) = LaysOutLoads from settings input (Ok text)
    × IsNormalOfDocuments settings (loads_of from input).documents text
AreLoadsReloaded from settings input (Err fault) = ((loads_of from input).fault ≡ Some fault)
    ⊎ LaysOutLoads from settings input (Err fault)

-- It is what the call's contract says of the plain loading.
abbrev pub ReloadsAreOfLoads : Type 0
ReloadsAreOfLoads = (from : yaml_encoding_t) (settings : yaml_settings_t) (input : List ℕ)
    (r : Result (List ℕ) Fault)
    → IsReloaded from settings input r ↔ AreLoadsReloaded from settings input r

-- The normal form, said of what events load: the text gives the documents that a source loads before a fault, too.
pub record IsNormalOfLoads (from : yaml_encoding_t) (settings : yaml_settings_t)
    (input text : List ℕ) : Type 0 where
  pub is : text ≡ canonical_text settings (trees_of_dumps (loads_of from input).documents)
  pub right : (loads_of YAML_ANY_ENCODING text).fault ≡ None
  pub agree : Agrees (loads_of from input).documents
      (loads_of YAML_ANY_ENCODING text).documents
  pub only : (other : yaml_encoding_t) (source : List ℕ)
      → canonical_text settings (trees_of_dumps (loads_of other source).documents) ≡ text
      → Agrees (loads_of from input).documents (loads_of other source).documents
  pub again : IsDumped settings (loads_of YAML_ANY_ENCODING text).documents (Ok text)

-- So is what is answered.
abbrev pub ReloadsAreNormalOfLoads : Type 0
ReloadsAreNormalOfLoads = (from : yaml_encoding_t) (settings : yaml_settings_t)
    (input text : List ℕ) → IsReloaded from settings input (Ok text)
    → IsNormalOfLoads from settings input text
