-- Canonical text is words, and they are read as the tokens of its documents.
use Rattle.std.specs.Prelude.{◌≡◌, ℕ, ◌<◌, true, false, List, ◌∷◌, map, None}
use Rattle.yaml_emit_layout.specs.scan_model.declared.name.yaml_encoding_t.{yaml_encoding_t}
use Rattle.yaml_emit_layout.specs.scan_types.Tokens.{TokenBody, Token, stream_start}
use Rattle.yaml_scan_history.specs.Remaining.{SpelledText, offline}
use Rattle.yaml_emit_layout.specs.declared.Cursor.{Cursor}
use Rattle.yaml_emit_layout.specs.declared.Settings.{Settings}
use Rattle.yaml_emit_layout.specs.declared.Encoding.TheVariants.{Utf8}
use Rattle.yaml_emit_layout.specs.Text.{encode}
use Rattle.yaml_emit_layout.specs.Layout.{Rest, written}
use Rattle.yaml_emit_layout.specs.declared.level.NodePosition.{NodePosition}
use Rattle.yaml_emit_layout.specs.Content.{Node, Opening, Document}
use Rattle.yaml_emit_layout.specs.Nodes.{context_of, is_simple_part, node_layout, documents_layout}
use Rattle.yaml_emit_laws.specs.Canonical.{node_kinds}
use Rattle.yaml_emit_laws.specs.Bodies.{node_bodies, documents_bodies}
use Rattle.yaml_emit_laws.specs.Writable.{IsWritable, IsWritableOpening, AreWritable}
use Rattle.yaml_emit_laws.specs.Walk.{Walks, Parts}

-- Wherever a text goes on as the canonical layout of a node that may be written, it goes on with
-- the node's words. The node is no simple key, which canonical form doesn't have, and a comma or a
-- break comes after it.
abbrev pub NodesAreWords : Type 0
NodesAreWords = (s : Settings) → s.canonical ≡ true → 0 < s.indent → (o : Opening)
    → IsWritableOpening o → (n : Node) → IsWritable n
    → (at : NodePosition) → is_simple_part at.part ≡ false → (d : ℕ) (c : Cursor) (rest : Rest)
    → Parts rest
    → Walks (node_layout (context_of s o.directives) at n) (node_kinds n)
    (node_bodies o.directives n) d d c rest

-- the text of a stream, the mark aside
abbrev pub text_of_documents : Settings → List Document → List ℕ
text_of_documents s ds = encode Utf8 (written (documents_layout s true false ds))

-- The stream is read as tokens with these bodies, without fault.
pub record IsReadAs (s : SpelledText) (bs : List TokenBody) : Type 0 where
  pub tokens : List Token
  pub read : offline s ≡ record { tokens = tokens; fault = None }
  pub same : map (λ (t : Token). t.body) tokens ≡ bs

-- The canonical text of documents that may be written is read as their tokens, whatever encoding is
-- named.
abbrev pub CanonicalTextIsRead : Type 0
CanonicalTextIsRead = (s : Settings) → s.canonical ≡ true → 0 < s.indent → (x : yaml_encoding_t)
    → (ds : List Document) → AreWritable ds
    → IsReadAs (record { encoding = x; text = text_of_documents s ds })
    (stream_start x ∷ documents_bodies false ds)
