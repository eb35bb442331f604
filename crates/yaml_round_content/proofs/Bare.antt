-- Canonical layout looks at no style and no flag but whether an untagged scalar may be quoted.
use Rattle.std.proofs.Common.{◌≡◌, ℕ, Bool, true, false, not, ◌&&◌, List, [], ◌∷◌, refl, sym, ap, ◌∙◌}
use Rattle.yaml_round_content.proofs.Words.{chars, YAML_ANY_SCALAR_STYLE, TagDirective, Settings, Layout, ◌▹◌, node_layout, when, word, opener, Scalar, Start, alias_node, scalar_node, has, Context, position, key_part, deeper, checked, properties_text, page_at, style_of, scalar_layout, is_simple, is_simple_scalar, is_simple_alias, is_simple_start, before_item, before_key, before_value, items_layout, pairs_layout}
use Rattle.yaml_emit_laws.specs.emit_layout.Scalars.{scalar_text}
use Rattle.yaml_emit_laws.specs.emit_layout.declared.Style.TheVariants as style
use Rattle.yaml_emit_laws.specs.emit_layout.declared.NodePosition.{NodePosition}
use Rattle.yaml_emit_laws.specs.emit_layout.declared.Part.TheVariants as part
use Rattle.yaml_emit_laws.specs.emit_layout.Content.{Node, sequence_node, mapping_node, Nodes, no_nodes, node, Pairs, no_pairs, pair}

-- the settings with canonical form
abbrev pub canonical_settings : Settings → Settings
canonical_settings s = record { encoding = s.encoding; canonical = true; indent = s.indent; width = s.width; unicode = s.unicode; line_break = s.line_break }

abbrev pub canonically : Settings → List TagDirective → Context
canonically s ds = record { settings = canonical_settings s; directives = ds }

-- of the flags that of an untagged scalar stays, whether it may be quoted
abbrev pub bare_scalar : Scalar → Scalar
bare_scalar x = record { anchor = x.anchor; tag = x.tag; value = x.value; plain = not (has x.tag) && not x.quoted; quoted = not (has x.tag) && x.quoted; style = YAML_ANY_SCALAR_STYLE }

abbrev pub bare_start : Start → Start
bare_start q = record { anchor = q.anchor; tag = q.tag; implicit = false; flow = false }

abbrev mutual
  pub bare_node : Node → Node
  bare_node (alias_node name) = alias_node name
  bare_node (scalar_node x) = scalar_node (bare_scalar x)
  bare_node (sequence_node q items) = sequence_node (bare_start q) (bare_nodes items)
  bare_node (mapping_node q pairs) = mapping_node (bare_start q) (bare_pairs pairs)

  pub bare_nodes : Nodes → Nodes
  bare_nodes no_nodes = no_nodes
  bare_nodes (node x xs) = node (bare_node x) (bare_nodes xs)

  pub bare_pairs : Pairs → Pairs
  bare_pairs no_pairs = no_pairs
  bare_pairs (pair k v ps) = pair (bare_node k) (bare_node v) (bare_pairs ps)

marks_same : (t q : Bool) → (not t && (not q && true)) ≡ (not t && (not (not t && q) && true))
marks_same true q = refl
marks_same false q = refl

scalar_same : (s : Settings) (ds : List TagDirective) (x : Scalar) (at : NodePosition)
    → scalar_layout (canonically s ds) at x ≡ scalar_layout (canonically s ds) at (bare_scalar x)
unfolding scalar_layout style_of
scalar_same s ds x at =
    let p = canonically s ds in
    let text = checked (deeper p.settings at.around) ▹ scalar_text (page_at p.settings at) p.settings.indent at.flow style.Double (chars x.value) in
    ap (λ (b : Bool). properties_text p x.anchor x.tag ▹ (when b (word (33 ∷ [])) ▹ text)) (marks_same (has x.tag) x.quoted)

not_simple : (s : Settings) (ds : List TagDirective) (n : Node)
    → is_simple (canonically s ds) n ≡ false
unfolding is_simple is_simple_scalar is_simple_alias is_simple_start
not_simple s ds (alias_node name) = refl
not_simple s ds _ = refl

mutual
  unfolding node_layout items_layout pairs_layout

  pub node_same : (s : Settings) (ds : List TagDirective) (n : Node) (at : NodePosition)
      → node_layout (canonically s ds) at n ≡ node_layout (canonically s ds) at (bare_node n)
  node_same s ds (alias_node name) at = refl
  node_same s ds (scalar_node x) at = scalar_same s ds x at
  node_same s ds (sequence_node q items) at =
      let p = canonically s ds in
      let n = deeper p.settings at.around in
      ap (λ (a : Layout). properties_text p q.anchor q.tag ▹ (opener 91 ▹ (checked n ▹ a))) (items_same s ds items n true)
  node_same s ds (mapping_node q pairs) at =
      let p = canonically s ds in
      let n = deeper p.settings at.around in
      ap (λ (a : Layout). properties_text p q.anchor q.tag ▹ (opener 123 ▹ (checked n ▹ a))) (pairs_same s ds pairs n true)

  items_same : (s : Settings) (ds : List TagDirective) (ns : Nodes) (n : ℕ) (fresh : Bool)
      → items_layout (canonically s ds) true n fresh ns
      ≡ items_layout (canonically s ds) true n fresh (bare_nodes ns)
  items_same s ds no_nodes n fresh = refl
  items_same s ds (node x xs) n fresh =
      let p = canonically s ds in
      ap (λ (a : Layout). before_item p.settings true n fresh ▹ (a ▹ items_layout p true n false xs)) (node_same s ds x (position true n part.Item))
      ∙ ap (λ (a : Layout). before_item p.settings true n fresh ▹ (node_layout p (position true n part.Item) (bare_node x) ▹ a)) (items_same s ds xs n false)

  pairs_same : (s : Settings) (ds : List TagDirective) (ps : Pairs) (n : ℕ) (fresh : Bool)
      → pairs_layout (canonically s ds) true n fresh ps
      ≡ pairs_layout (canonically s ds) true n fresh (bare_pairs ps)
  pairs_same s ds no_pairs n fresh = refl
  pairs_same s ds (pair k v ps) n fresh =
      let p = canonically s ds in
      let f : Bool → Layout → Layout → Layout → Layout = λ b x y z. before_key p.settings true n fresh b ▹ (x ▹ (before_value p.settings true n b ▹ (y ▹ z))) in
      let vs = position true n part.Value in
      ap (λ (b : Bool). f b (node_layout p (position true n (key_part b)) k) (node_layout p vs v) (pairs_layout p true n false ps)) (not_simple s ds k)
      ∙ ap (λ (a : Layout). f false a (node_layout p vs v) (pairs_layout p true n false ps)) (node_same s ds k (position true n part.Key))
      ∙ ap (λ (a : Layout). f false (node_layout p (position true n part.Key) (bare_node k)) a (pairs_layout p true n false ps)) (node_same s ds v vs)
      ∙ ap (λ (a : Layout). f false (node_layout p (position true n part.Key) (bare_node k)) (node_layout p vs (bare_node v)) a) (pairs_same s ds ps n false)
      ∙ sym (ap (λ (b : Bool). f b (node_layout p (position true n (key_part b)) (bare_node k)) (node_layout p vs (bare_node v)) (pairs_layout p true n false (bare_pairs ps))) (not_simple s ds (bare_node k)))
