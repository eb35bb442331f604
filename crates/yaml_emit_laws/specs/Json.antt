-- Documents shaped as JSON is: collections in brackets, keys that are scalars, and scalars that are
-- double quoted or plain.
use Rattle.std.specs.Prelude.{◌≡◌, ◌⊎◌, true, List, [], ◌∷◌, None}
use Rattle.yaml_emit_layout.specs.scan_model.declared.name.yaml_scalar_style_t.TheVariants.{YAML_PLAIN_SCALAR_STYLE, YAML_DOUBLE_QUOTED_SCALAR_STYLE}
use Rattle.yaml_emit_layout.specs.Content.{Scalar, Start, Node, alias_node, scalar_node, sequence_node, mapping_node, Nodes, no_nodes, node, Pairs, no_pairs, pair, Document}
use Rattle.yaml_scan_laws.specs.Values.{is_plain_value}

-- double quoted, without anchor and tag
pub record IsQuotedScalar (x : Scalar) : Type 0 where
  pub anchor : x.anchor ≡ None
  pub tag : x.tag ≡ None
  pub style : x.style ≡ YAML_DOUBLE_QUOTED_SCALAR_STYLE

-- plain, without anchor and tag; its value is of letters, digits and `+ - .`, and begins with a
-- letter or a digit, or with `-` before one
pub record IsPlainScalar (x : Scalar) : Type 0 where
  pub anchor : x.anchor ≡ None
  pub tag : x.tag ≡ None
  pub plain : x.plain ≡ true
  pub style : x.style ≡ YAML_PLAIN_SCALAR_STYLE
  pub value : is_plain_value x.value ≡ true

abbrev pub IsJsonScalar : Scalar → Type 0
IsJsonScalar x = IsQuotedScalar x ⊎ IsPlainScalar x

-- in brackets, without anchor and tag
pub record IsJsonStart (q : Start) : Type 0 where
  pub anchor : q.anchor ≡ None
  pub tag : q.tag ≡ None
  pub flow : q.flow ≡ true

abbrev pub IsJsonKey : Node → Type 0
IsJsonKey (alias_node name) = ⊥
IsJsonKey (scalar_node x) = IsJsonScalar x
IsJsonKey (sequence_node q items) = ⊥
IsJsonKey (mapping_node q pairs) = ⊥

abbrev mutual
  pub IsJsonNode : Node → Type 0
  IsJsonNode (alias_node name) = ⊥
  IsJsonNode (scalar_node x) = IsJsonScalar x
  IsJsonNode (sequence_node q items) = IsJsonStart q × AreJsonNodes items
  IsJsonNode (mapping_node q pairs) = IsJsonStart q × AreJsonPairs pairs

  pub AreJsonNodes : Nodes → Type 0
  AreJsonNodes no_nodes = Unit {0}
  AreJsonNodes (node x xs) = IsJsonNode x × AreJsonNodes xs

  pub AreJsonPairs : Pairs → Type 0
  AreJsonPairs no_pairs = Unit {0}
  AreJsonPairs (pair k v ps) = IsJsonKey k × IsJsonNode v × AreJsonPairs ps

-- no directive opens it
pub record IsJsonDocument (d : Document) : Type 0 where
  pub version : d.opening.version ≡ None
  pub directives : d.opening.directives ≡ []
  pub root : IsJsonNode d.root

-- what a stream says is one such document
abbrev pub IsJsonShaped : List Document → Type 0
IsJsonShaped [] = ⊥
IsJsonShaped (d ∷ []) = IsJsonDocument d
IsJsonShaped (d ∷ e ∷ ds) = ⊥
