-- Which inputs are refused for columns in canonical form.
use Rattle.std.specs.Prelude.{◌≡◌, ◌↔◌, ℕ, true, List, map, Ok, Err}
use Rattle.yaml_round.specs.declared.yaml_encoding_t.{yaml_encoding_t}
use Rattle.yaml_round.specs.parse_model.Documents as documents
use Rattle.yaml_emit_layout.specs.Settings.{settled_indent}
use Rattle.yaml_emit_machine.specs.Emitter.{too_deep}
use Rattle.yaml_round.specs.emit_graph.Graph.{graph_content}
use Rattle.yaml_round_content.specs.Said.{Document}
use Rattle.yaml_round_content.specs.Canon.{written_documents}
use Rattle.yaml_round_content.specs.Reading.{PlainReading}
use Rattle.yaml_round_content.specs.PlainLoading.{PlainLoading}
use Rattle.yaml_round.specs.declared.yaml_settings_t.{yaml_settings_t}
use Rattle.yaml_round.specs.declared.yaml_form_t.TheVariants.{Canonical}
use Rattle.yaml_round_engine.specs.Answers.{IsTooLong, IsReformatted}
use Rattle.yaml_round_engine.specs.Reload.{IsReloaded}
use Rattle.yaml_emit_laws.specs.Depths.{IsTooDeep}

-- Under the indent in force, 2 to 9, some node of the content that is no alias is too deep.
abbrev pub IsContentTooDeep : yaml_settings_t → List Document → Type 0
IsContentTooDeep s c = IsTooDeep (settled_indent s.indent) (written_documents c)

-- And some node of what is dumped of the documents: at each later visit of a node, an alias.
abbrev pub AreDumpsTooDeep : yaml_settings_t → List documents.Document → Type 0
AreDumpsTooDeep s ds = IsTooDeep (settled_indent s.indent) (map graph_content ds)

-- ---- rewriting

-- Of an accepted input, canonical form passes the columns exactly where its content is too deep.
abbrev pub CanonicalFormPassesColumns : Type 0
CanonicalFormPassesColumns = (from : yaml_encoding_t) (s : yaml_settings_t) (input : List ℕ)
    (c : List Document) → PlainReading from input (Ok c)
    → IsTooLong from input s true too_deep ↔ IsContentTooDeep s c

-- With canonical form asked for, an accepted input may be refused for columns exactly where its content is too deep.
abbrev pub ReformatsNameColumns : Type 0
ReformatsNameColumns = (from : yaml_encoding_t) (s : yaml_settings_t) (input : List ℕ)
    (c : List Document) → PlainReading from input (Ok c) → s.canonical ≡ true
    → IsReformatted from s input (Err too_deep) ↔ IsContentTooDeep s c

-- Canonical text is answered only where it isn't.
abbrev pub CanonicalAnswersKeepColumns : Type 0
CanonicalAnswersKeepColumns = (from : yaml_encoding_t) (s : yaml_settings_t) (input text : List ℕ)
    (c : List Document) → PlainReading from input (Ok c)
    → IsReformatted from s input (Ok (text, Canonical)) → ¬ IsContentTooDeep s c

-- ---- reloading

-- Documents that load may be refused for columns exactly where their dumps are too deep.
abbrev pub ReloadsNameColumns : Type 0
ReloadsNameColumns = (from : yaml_encoding_t) (s : yaml_settings_t) (input : List ℕ)
    (ds : List documents.Document) → PlainLoading from input (Ok ds)
    → IsReloaded from s input (Err too_deep) ↔ AreDumpsTooDeep s ds

-- A text is answered only where they aren't.
abbrev pub ReloadsKeepColumns : Type 0
ReloadsKeepColumns = (from : yaml_encoding_t) (s : yaml_settings_t) (input text : List ℕ)
    (ds : List documents.Document) → PlainLoading from input (Ok ds)
    → IsReloaded from s input (Ok text) → ¬ AreDumpsTooDeep s ds
