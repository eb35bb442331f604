-- Two small texts, and their tokens.
use Rattle.std.specs.Prelude.{ℕ, List, [], ◌∷◌, codes}
use Rattle.yaml_scan_history.specs.scan_model.declared.name.yaml_encoding_t.{yaml_encoding_t}
use Rattle.yaml_scan_history.specs.scan_model.declared.name.yaml_scalar_style_t.TheVariants as styles
use Rattle.yaml_scan_history.specs.scan_types.Tokens as tokens
use Rattle.yaml_scan_history.specs.scan_types.Tokens.{TokenBody}
use Rattle.yaml_scan_laws.specs.Walks.{Done}

abbrev pub row_of_blocks : List ℕ
row_of_blocks = codes "&x k:\n- a\n- - b\nq: [c]\n"

abbrev pub row_of_keys : List ℕ
row_of_keys = codes "---\n? |\n  a\n: {b: c, ? d : e}\n...\n"

abbrev pub plain : List ℕ → TokenBody
plain v = tokens.scalar v styles.YAML_PLAIN_SCALAR_STYLE

-- A key of two words, a sequence at its column, in it one of its own, a further key, and brackets.
abbrev pub BlocksAreRead : Type 0
BlocksAreRead = (x : yaml_encoding_t) → Done x row_of_blocks (
    tokens.stream_start x ∷ tokens.block_mapping_start ∷ tokens.key ∷ tokens.anchor (codes "x")
    ∷ plain (codes "k") ∷ tokens.value ∷ tokens.block_entry ∷ plain (codes "a") ∷ tokens.block_entry
    ∷ tokens.block_sequence_start ∷ tokens.block_entry ∷ plain (codes "b") ∷ tokens.block_end
    ∷ tokens.key
    ∷ plain (codes "q") ∷ tokens.value ∷ tokens.flow_sequence_start ∷ plain (codes "c")
    ∷ tokens.flow_sequence_end ∷ tokens.block_end ∷ tokens.stream_end ∷ [])

-- Marks of a document, a `?` with a block scalar, its `:`, and in brackets a key of either kind.
abbrev pub KeysAreRead : Type 0
KeysAreRead = (x : yaml_encoding_t) → Done x row_of_keys (
    tokens.stream_start x ∷ tokens.document_start ∷ tokens.block_mapping_start ∷ tokens.key
    ∷ tokens.scalar (codes "a\n") styles.YAML_LITERAL_SCALAR_STYLE ∷ tokens.value
    ∷ tokens.flow_mapping_start ∷ tokens.key ∷ plain (codes "b") ∷ tokens.value ∷ plain (codes "c")
    ∷ tokens.flow_entry ∷ tokens.key ∷ plain (codes "d") ∷ tokens.value ∷ plain (codes "e")
    ∷ tokens.flow_mapping_end ∷ tokens.block_end ∷ tokens.document_end ∷ tokens.stream_end ∷ [])
