-- Which limits suffice: by a content, for its canonical form, and by the input's length, for every form.
use Rattle.std.specs.Prelude.{ℕ, ◌≤◌, true, List, map, Ok, Err}
use Rattle.yaml_round.specs.declared.yaml_encoding_t.{yaml_encoding_t}
use Rattle.yaml_round.specs.declared.yaml_encoding_t.TheVariants.{YAML_ANY_ENCODING}
use Rattle.yaml_round.specs.parse_model.Documents as documents
use Rattle.yaml_emit_machine.specs.Emitter.{write_error}
use Rattle.yaml_round.specs.emit_graph.Graph.{graph_content}
use Rattle.yaml_emit_layout.specs.Settings.{settled, settled_indent}
use Rattle.yaml_round_content.specs.Said.{Document}
use Rattle.yaml_round_content.specs.Canon.{written_documents, canon_encoding}
use Rattle.yaml_round_content.specs.Reading.{PlainReading}
use Rattle.yaml_round_content.specs.PlainLoading.{PlainLoading}
use Rattle.yaml_round.specs.declared.yaml_settings_t.{yaml_settings_t}
use Rattle.yaml_round_engine.specs.Writing.{requested_under}
use Rattle.yaml_round_engine.specs.Answers.{IsTooLong, IsReformatted}
use Rattle.yaml_round_engine.specs.Readable.{IsReadableAnswer}
use Rattle.yaml_round_engine.specs.Reload.{IsReloaded}
use Rattle.yaml_emit_laws.specs.Sizes.{most_bytes}
use Rattle.yaml_round_laws.specs.SizesLaws.{read_bytes, most_of_read}

-- the most bytes of a content's canonical text under the settings of a call
abbrev pub most_of_content : yaml_settings_t → List Document → ℕ
most_of_content s c = most_bytes (settled (requested_under s true) YAML_ANY_ENCODING)
    (written_documents c)

-- A limit of at least the bound of the content: canonical form, asked for or due, isn't refused for
-- its length.
abbrev pub LimitsOfContentSuffice : Type 0
LimitsOfContentSuffice = (from : yaml_encoding_t) (s : yaml_settings_t) (input : List ℕ)
    (c : List Document) → PlainReading from input (Ok c) → most_of_content s c ≤ s.limit
    → ¬ IsTooLong from input s true write_error

-- the most bytes of what is dumped of documents
abbrev pub most_of_dumps : yaml_settings_t → List documents.Document → ℕ
most_of_dumps s ds = most_bytes (settled (requested_under s true) YAML_ANY_ENCODING)
    (map graph_content ds)

-- Of documents that load so, too.
abbrev pub ReloadsFitDocuments : Type 0
ReloadsFitDocuments = (from : yaml_encoding_t) (s : yaml_settings_t) (input : List ℕ)
    (ds : List documents.Document) → PlainLoading from input (Ok ds) → most_of_dumps s ds ≤ s.limit
    → ¬ IsReloaded from s input (Err write_error)

-- ---- by the input's length

-- Twice the indent in force times the square of the input's bytes and eight, of which an input in UTF-16 counts twice; and all that
-- twice for an answer in UTF-16.
abbrev pub most_of_answer : yaml_settings_t → yaml_encoding_t → List ℕ → ℕ
most_of_answer s from input = most_of_read (canon_encoding (requested_under s true))
    (settled_indent s.indent) (read_bytes from input)

-- Under a limit of as much no accepted input is refused for the answer's length: rewritten, in either form,
abbrev pub ReformatsFit : Type 0
ReformatsFit = (from : yaml_encoding_t) (s : yaml_settings_t) (input : List ℕ)
    (c : List Document) → PlainReading from input (Ok c) → most_of_answer s from input ≤ s.limit
    → ¬ IsReformatted from s input (Err write_error)

-- or normalized.
abbrev pub NormalFormsFit : Type 0
NormalFormsFit = (from : yaml_encoding_t) (s : yaml_settings_t) (input : List ℕ)
    (c : List Document) → PlainReading from input (Ok c) → most_of_answer s from input ≤ s.limit
    → ¬ IsReadableAnswer from s input (Err write_error)
