-- Flags as a reader gives them, and the beginning for which no text is written.
use Rattle.std.specs.Prelude.{◌≡◌, ℕ, Bool, true, false, not, ◌&&◌, List, [], ◌∷◌, Option, Some, None}
use Rattle.yaml_emit_laws.specs.scan_model.declared.name.yaml_scalar_style_t.{yaml_scalar_style_t}
use Rattle.yaml_emit_laws.specs.scan_model.declared.name.yaml_scalar_style_t.TheVariants as asked
use Rattle.yaml_emit_laws.specs.emit_layout.Content.{Scalar, Document, Node, alias_node, scalar_node, sequence_node, mapping_node, Nodes, no_nodes, node, Pairs, no_pairs, pair, Event, stream_start, document_start, scalar}
use Rattle.yaml_emit_laws.specs.emit_layout.Grammar.{has}
use Rattle.yaml_emit_laws.specs.emit_layout.Nodes.{is_directed}
use Rattle.yaml_emit_laws.specs.NodeBodies.{is_bare, is_empty}

-- an untagged scalar has exactly one flag, a tagged one none
abbrev pub HasScalarFlags : Option (List ℕ) → Bool → Bool → Type 0
HasScalarFlags None plain quoted = quoted ≡ not plain
HasScalarFlags (Some t) plain quoted = (plain ≡ false) × (quoted ≡ false)

-- a collection's tag may be left out exactly where there is none
abbrev pub HasStartFlags : Option (List ℕ) → Bool → Type 0
HasStartFlags tag implicit = implicit ≡ not (has tag)

abbrev mutual
  pub HasFlags : Node → Type 0
  HasFlags (alias_node name) = Unit {0}
  HasFlags (scalar_node x) = HasScalarFlags x.tag x.plain x.quoted
  HasFlags (sequence_node o items) = HasStartFlags o.tag o.implicit × HaveFlags items
  HasFlags (mapping_node o pairs) = HasStartFlags o.tag o.implicit × PairsHaveFlags pairs

  pub HaveFlags : Nodes → Type 0
  HaveFlags no_nodes = Unit {0}
  HaveFlags (node x xs) = HasFlags x × HaveFlags xs

  pub PairsHaveFlags : Pairs → Type 0
  PairsHaveFlags no_pairs = Unit {0}
  PairsHaveFlags (pair k v ps) = HasFlags k × HasFlags v × PairsHaveFlags ps

abbrev pub HaveReaderFlags : List Document → Type 0
HaveReaderFlags [] = Unit {0}
HaveReaderFlags (d ∷ ds) = HasFlags d.root × HaveReaderFlags ds

-- ---- the beginning, by events

-- the styles for which plain is taken where it may be
abbrev pub is_asked_plain : yaml_scalar_style_t → Bool
is_asked_plain asked.YAML_ANY_SCALAR_STYLE = true
is_asked_plain asked.YAML_PLAIN_SCALAR_STYLE = true
is_asked_plain asked.YAML_SINGLE_QUOTED_SCALAR_STYLE = false
is_asked_plain asked.YAML_DOUBLE_QUOTED_SCALAR_STYLE = false
is_asked_plain asked.YAML_LITERAL_SCALAR_STYLE = false
is_asked_plain asked.YAML_FOLDED_SCALAR_STYLE = false

-- an empty plain scalar without anchor and tag
abbrev pub says_nothing : Scalar → Bool
says_nothing v = is_bare v.anchor v.tag && (is_empty v.value && (v.plain && is_asked_plain v.style))

-- the first document has no `---`, and nothing is written for its root
abbrev pub begins_with_nothing : List Event → Bool
begins_with_nothing (stream_start x ∷ document_start o ∷ scalar v ∷ es) =
    (o.implicit && not (is_directed o)) && says_nothing v
begins_with_nothing es = false
