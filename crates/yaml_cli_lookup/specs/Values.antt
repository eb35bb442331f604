-- The value of a key in a document.
use Rattle.std.specs.Prelude.{ℕ, ℤ, pos, Bool, false, if◌then◌else◌, List, [], ◌∷◌, Option, Some, None, is_some}
use Rattle.std.specs.Option.{option_or}
use Rattle.std.specs.Str.{bytes_eq}
use Rattle.yaml_parse.specs.Documents.{Document, node_at}
use Rattle.yaml_parse.specs.Nodes.{Node, NodeBody}
use Rattle.yaml_parse.specs.Nodes as node
use Rattle.yaml_parse.specs.declared.yaml_node_pair_t.{yaml_node_pair_t}

-- the text of a scalar
abbrev pub text_in : NodeBody → Option (List ℕ)
text_in (node.scalar value style) = Some value
text_in _ = None

abbrev pub text_of : Option Node → Option (List ℕ)
text_of None = None
text_of (Some n) = text_in n.body

-- the text of the scalar under a number
abbrev pub scalar_at : List Node → ℤ → Option (List ℕ)
scalar_at nodes number = text_of (node_at nodes number)

-- a scalar that is the key, byte for byte
abbrev pub is_key : List ℕ → Option (List ℕ) → Bool
is_key key None = false
is_key key (Some text) = bytes_eq text key

-- the value that a pair gives the key: its key is that text, and its value a scalar
abbrev pub value_in : List Node → List ℕ → yaml_node_pair_t → Option (List ℕ)
value_in nodes key p = if is_key key (scalar_at nodes p.key) then scalar_at nodes p.value else None

-- the first of the pairs that gives one
unfoldable pub first_value : List Node → List ℕ → List yaml_node_pair_t → Option (List ℕ)
first_value nodes key [] = None
first_value nodes key (p ∷ ps) = option_or (value_in nodes key p) (first_value nodes key ps)

-- the pairs of a mapping
abbrev pub pairs_in : NodeBody → Option (List yaml_node_pair_t)
pairs_in (node.mapping pairs style) = Some pairs
pairs_in _ = None

abbrev pub pairs_of : Option Node → Option (List yaml_node_pair_t)
pairs_of None = None
pairs_of (Some n) = pairs_in n.body

-- the pairs of the root, where that is a mapping
abbrev pub root_pairs : Document → Option (List yaml_node_pair_t)
root_pairs d = pairs_of (node_at d.nodes (pos 1))

-- whether the root is a mapping
abbrev pub has_mapping : Document → Bool
has_mapping d = is_some (root_pairs d)

abbrev pub value_by : List Node → List ℕ → Option (List yaml_node_pair_t) → Option (List ℕ)
value_by nodes key None = None
value_by nodes key (Some pairs) = first_value nodes key pairs

-- the value that the root gives the key
abbrev pub value_of : Document → List ℕ → Option (List ℕ)
value_of d key = value_by d.nodes key (root_pairs d)
