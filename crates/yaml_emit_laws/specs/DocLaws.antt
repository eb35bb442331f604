-- Documents in pretty form: their text is read as their tokens.
use Rattle.std.specs.Prelude.{◌≡◌, ◌≤◌, false, List, ◌∷◌}
use Rattle.yaml_emit_layout.specs.scan_model.declared.name.yaml_encoding_t.{yaml_encoding_t}
use Rattle.yaml_emit_layout.specs.scan_types.Indents.{least_indent, most_indent}
use Rattle.yaml_emit_layout.specs.scan_types.Tokens.{stream_start}
use Rattle.yaml_emit_layout.specs.declared.Settings.{Settings}
use Rattle.yaml_emit_layout.specs.Content.{Document}
use Rattle.yaml_emit_laws.specs.TextLaws.{text_of_documents, IsReadAs}
use Rattle.yaml_emit_laws.specs.Writable.{AreWritable}
use Rattle.yaml_emit_laws.specs.NodeBodies.{stream_bodies}
use Rattle.yaml_emit_laws.specs.Nodes.{NodesAreWalked}

-- The pretty text of documents that may be written is read as their tokens, whatever encoding is
-- named.
abbrev pub PrettyTextIsRead : Type 0
PrettyTextIsRead = (s : Settings) → s.canonical ≡ false → least_indent ≤ s.indent
    → s.indent ≤ most_indent
    → (x : yaml_encoding_t) (ds : List Document) → AreWritable ds
    → IsReadAs (record { encoding = x; text = text_of_documents s ds })
    (stream_start x ∷ stream_bodies s ds)

-- It is where nodes are walked.
abbrev pub DocumentsAreRead : Type 0
DocumentsAreRead = NodesAreWalked → PrettyTextIsRead
