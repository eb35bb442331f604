-- What canonical text takes at most, where every line is indented alike: as much as the deepest one.
use Rattle.std.proofs.Common.{ℕ, suc, ◌+◌, ◌*◌, ◌≤◌, true, List, [], ◌∷◌, arith, inl, inr, le_refl, suc-mul}
use Rattle.yaml_round_laws.proofs.SizesWords.{chars, Settings, alias_node, scalar_node, sequence_node, mapping_node, no_nodes, node, no_pairs, pair, Context, context_of, StandsAt, ItemStandsAt, PartStandsAt, RootStandsAt, value_grows, line_grows, ascii, text_bytes, properties_bytes, most_of_value, most_of_line, most_of_node, most_of_items, most_of_pairs, directives_bytes, most_of_documents}
use Rattle.yaml_emit_layout.specs.Content.{Node, Nodes, Pairs, Document}
use Rattle.yaml_emit_layout.specs.Grammar.{scalar_tag, start_tag}

abbrev mutual
  pub flat_node : Context → ℕ → Node → ℕ
  flat_node p i (alias_node name) = ascii p.settings 3 + text_bytes p.settings.encoding name
  flat_node p i (scalar_node x) = properties_bytes p x.anchor (scalar_tag true x) + ascii p.settings 5 + most_of_value p.settings i (chars x.value)
  flat_node p i (sequence_node q items) = properties_bytes p q.anchor (start_tag true q) + ascii p.settings 2 + flat_items p i items
  flat_node p i (mapping_node q pairs) = properties_bytes p q.anchor (start_tag true q) + ascii p.settings 2 + flat_pairs p i pairs

  pub flat_items : Context → ℕ → Nodes → ℕ
  flat_items p i no_nodes = most_of_line p.settings i
  flat_items p i (node x xs) = most_of_line p.settings i + flat_node p i x + flat_items p i xs

  pub flat_pairs : Context → ℕ → Pairs → ℕ
  flat_pairs p i no_pairs = most_of_line p.settings i
  flat_pairs p i (pair k v ps) = most_of_line p.settings i + flat_node p i k + most_of_line p.settings i + flat_node p i v + flat_pairs p i ps

abbrev pub flat_documents : Settings → ℕ → List Document → ℕ
flat_documents s i [] = 0
flat_documents s i (d ∷ ds) = ascii s 34 + directives_bytes s d.opening.directives + flat_node (context_of s d.opening.directives) i d.root + flat_documents s i ds

-- ---- no line is indented more

-- a step further in
inward : (n step i d : ℕ) → n + suc d * step ≤ i → (n + step) + d * step ≤ i
inward n step i d w = omega (arith, w, suc-mul d step)

outermost : (n step i : ℕ) → n + 0 * step ≤ i → n ≤ i
outermost n step i w = omega (arith, w)

mutual
  unfolding StandsAt ItemStandsAt PartStandsAt most_of_node most_of_items most_of_pairs

  pub flat_most : (p : Context) (i n : ℕ) (x : Node)
      → ((d : ℕ) → StandsAt d x → n + d * p.settings.indent ≤ i)
      → most_of_node p n x ≤ flat_node p i x
  flat_most p i n (alias_node name) h = le_refl _
  flat_most p i n (scalar_node x) h =
      let w = outermost n p.settings.indent i (h 0 tt) in
      omega (arith, value_grows p.settings n i (chars x.value) w)
  flat_most p i n (sequence_node q items) h =
      omega (arith, flat_items_most p i n items (outermost n p.settings.indent i (h 0 tt)) (λ d k. inward n p.settings.indent i d (h (suc d) k)))
  flat_most p i n (mapping_node q pairs) h =
      omega (arith, flat_pairs_most p i n pairs (outermost n p.settings.indent i (h 0 tt)) (λ d k. inward n p.settings.indent i d (h (suc d) k)))

  flat_items_most : (p : Context) (i n : ℕ) (xs : Nodes) → n ≤ i
      → ((d : ℕ) → ItemStandsAt d xs → (n + p.settings.indent) + d * p.settings.indent ≤ i)
      → most_of_items p n xs ≤ flat_items p i xs
  flat_items_most p i n no_nodes w h = line_grows p.settings n i w
  flat_items_most p i n (node x xs) w h =
      omega (arith, line_grows p.settings n i w, flat_most p i (n + p.settings.indent) x (λ d k. h d (inl k)), flat_items_most p i n xs w (λ d k. h d (inr k)))

  flat_pairs_most : (p : Context) (i n : ℕ) (ps : Pairs) → n ≤ i
      → ((d : ℕ) → PartStandsAt d ps → (n + p.settings.indent) + d * p.settings.indent ≤ i)
      → most_of_pairs p n ps ≤ flat_pairs p i ps
  flat_pairs_most p i n no_pairs w h = line_grows p.settings n i w
  flat_pairs_most p i n (pair k v ps) w h =
      omega (
        arith,
        line_grows p.settings n i w,
        flat_most p i (n + p.settings.indent) k (λ d q. h d (inl q)),
        flat_most p i (n + p.settings.indent) v (λ d q. h d (inr (inl q))),
        flat_pairs_most p i n ps w (λ d q. h d (inr (inr q))),
      )

pub flat_documents_most : (s : Settings) (i : ℕ) (ds : List Document)
    → ((d : ℕ) → RootStandsAt d ds → s.indent + d * s.indent ≤ i)
    → most_of_documents s ds ≤ flat_documents s i ds
unfolding RootStandsAt most_of_documents
flat_documents_most s i [] h = le_refl _
flat_documents_most s i (d ∷ ds) h =
    omega (arith, flat_most (context_of s d.opening.directives) i s.indent d.root (λ n k. h n (inl k)), flat_documents_most s i ds (λ n k. h n (inr k)))
