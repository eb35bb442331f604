-- The tokens of a tree weigh one and a half times the depth of each node of its content at least.
use Rattle.std.proofs.Common.{◌≡◌, ℕ, zero, suc, ◌+◌, ◌*◌, ◌≤◌, List, [], ◌∷◌, Option, Some, None, arith, inl, inr, le_refl}
use Rattle.yaml_round_laws.proofs.SizesWords.{Token, Wants, Properties, PropertyTokens, token_at, closing, properties_of, spell_properties, spell_node, spell_content, spell_maybe, spell_colon, spell_items, spell_more, spell_entries, spell_others, spell_pairs, spell_directives, spell_ends, spell_documents, spell_first, spell, TagDirective, node_of, with_content, maybe_of, colon_of, items_of, more_items_of, parts_of, more_parts_of, entries_of, others_of, pairs_of, tags_in, documents_of, behind_first, tree_content, written_node, written_nodes, written_pairs, written_documents, StandsAt, ItemStandsAt, PartStandsAt, RootStandsAt}
use Rattle.yaml_scan_history.specs.scan_types.Tokens as token
use Rattle.yaml_parse_grammar.specs.declared.Brackets.{Brackets}
use Rattle.yaml_parse_grammar.specs.declared.Brackets.TheVariants as brackets
use Rattle.yaml_parse_grammar.specs.Trees as tree
use Rattle.yaml_round_laws.proofs.Tokens.{count, weight}
use Rattle.yaml_round_laws.proofs.Weights.{Weight, weigh}

properties_count : (d : PropertyTokens) (rest : List Token)
    → count (spell_properties d rest) ≡ count rest
properties_count (tree.anchor a) rest = omega arith
properties_count _ rest = omega arith

-- ---- tokens before others

properties_grow : (w : Weight) (d : PropertyTokens) (rest : List Token)
    → weigh w rest ≤ weigh w (spell_properties d rest)
properties_grow w (tree.anchor a) rest = omega arith
properties_grow w _ rest = omega arith

mutual
  pub node_grows : (w : Weight) {k : Wants} (n : tree.Node k) (rest : List Token)
      → weigh w rest ≤ weigh w (spell_node n rest)
  node_grows w (tree.alias s name) rest = omega arith
  node_grows w (tree.only_properties d) rest = omega (arith, properties_grow w d rest)
  node_grows w (tree.with_properties d c) rest = omega (arith, properties_grow w d (spell_content c rest), content_grows w c rest)
  node_grows w (tree.bare c) rest = content_grows w c rest

  pub content_grows : (w : Weight) {k : Wants} (c : tree.Content k) (rest : List Token)
      → weigh w rest ≤ weigh w (spell_content c rest)
  content_grows w (tree.scalar s value style) rest = omega arith
  content_grows w (tree.flow b s items) rest = omega (arith, items_grow w b items rest)
  content_grows w (tree.block_sequence s entries) rest = omega (arith, entries_grow w entries rest)
  content_grows w (tree.block_mapping s pairs) rest = omega (arith, pairs_grow w pairs rest)
  content_grows w (tree.indentless s n others) rest = omega (arith, maybe_grows w n (spell_others others rest), others_grow w others rest)

  pub maybe_grows : (w : Weight) {k : Wants} (n : tree.Maybe k) (rest : List Token)
      → weigh w rest ≤ weigh w (spell_maybe n rest)
  maybe_grows w tree.left_out rest = le_refl _
  maybe_grows w (tree.there n) rest = node_grows w n rest

  pub colon_grows : (w : Weight) {k : Wants} (v : tree.Colon k) (rest : List Token)
      → weigh w rest ≤ weigh w (spell_colon v rest)
  colon_grows w tree.no_colon rest = le_refl _
  colon_grows w (tree.colon s n) rest = omega (arith, maybe_grows w n rest)

  pub items_grow : (w : Weight) (b : Brackets) (items : tree.Items) (rest : List Token)
      → w (closing b) + weigh w rest ≤ weigh w (spell_items b items rest)
  items_grow w b (tree.end_items s) rest = omega arith
  items_grow w b (tree.single n more) rest = omega (arith, node_grows w n (spell_more b more rest), more_grows w b more rest)
  items_grow w b (tree.pair s key value more) rest =
      let behind = spell_more b more rest in
      omega (arith, maybe_grows w key (spell_colon value behind), colon_grows w value behind, more_grows w b more rest)

  pub more_grows : (w : Weight) (b : Brackets) (more : tree.More) (rest : List Token)
      → w (closing b) + weigh w rest ≤ weigh w (spell_more b more rest)
  more_grows w b (tree.end_more s) rest = omega arith
  more_grows w b (tree.comma s items) rest = omega (arith, items_grow w b items rest)

  pub entries_grow : (w : Weight) (entries : tree.Entries) (rest : List Token)
      → weigh w rest ≤ weigh w (spell_entries entries rest)
  entries_grow w (tree.end_entries s) rest = omega arith
  entries_grow w (tree.entry s n entries) rest = omega (arith, maybe_grows w n (spell_entries entries rest), entries_grow w entries rest)

  pub others_grow : (w : Weight) (others : tree.Others) (rest : List Token)
      → weigh w rest ≤ weigh w (spell_others others rest)
  others_grow w tree.no_others rest = le_refl _
  others_grow w (tree.other s n others) rest = omega (arith, maybe_grows w n (spell_others others rest), others_grow w others rest)

  pub pairs_grow : (w : Weight) (pairs : tree.Pairs) (rest : List Token)
      → weigh w rest ≤ weigh w (spell_pairs pairs rest)
  pairs_grow w (tree.end_pairs s) rest = omega arith
  pairs_grow w (tree.block_pair s key value pairs) rest =
      let behind = spell_pairs pairs rest in
      omega (arith, maybe_grows w key (spell_colon value behind), colon_grows w value behind, pairs_grow w pairs rest)

-- ---- and of a node at a depth

mutual
  unfolding StandsAt ItemStandsAt PartStandsAt

  node_deep : {w : Wants} (ds : List TagDirective) (n : tree.Node w) (d : ℕ) (rest : List Token)
      → StandsAt d (written_node (node_of ds n))
      → 3 * d + 2 * count rest ≤ 2 * count (spell_node n rest)
  node_deep ds (tree.alias s name) d rest h = absurd h
  node_deep ds (tree.only_properties p) zero rest h = omega (arith, properties_count p rest)
  node_deep ds (tree.only_properties p) (suc d) rest h = absurd h
  node_deep ds (tree.with_properties p c) d rest h = omega (arith, properties_count p (spell_content c rest), content_deep ds (Some (properties_of p)) c d rest h)
  node_deep ds (tree.bare c) d rest h = content_deep ds None c d rest h

  content_deep : {w : Wants} (ds : List TagDirective) (p : Option Properties) (c : tree.Content w)
      (d : ℕ) (rest : List Token) → StandsAt d (written_node (with_content ds p c))
      → 3 * d + 2 * count rest ≤ 2 * count (spell_content c rest)
  content_deep ds p (tree.scalar s value style) zero rest h = omega arith
  content_deep ds p (tree.scalar s value style) (suc d) rest h = absurd h
  content_deep ds p (tree.flow brackets.Sequence s items) zero rest h = omega (arith, items_grow weight brackets.Sequence items rest)
  content_deep ds p (tree.flow brackets.Sequence s items) (suc d) rest h = omega (arith, items_deep ds items d rest h)
  content_deep ds p (tree.flow brackets.Mapping s items) zero rest h = omega (arith, items_grow weight brackets.Mapping items rest)
  content_deep ds p (tree.flow brackets.Mapping s items) (suc d) rest h = omega (arith, parts_deep ds items d rest h)
  content_deep ds p (tree.block_sequence s entries) zero rest h = omega (arith, entries_grow weight entries rest)
  content_deep ds p (tree.block_sequence s entries) (suc d) rest h = omega (arith, entries_deep ds entries d rest h)
  content_deep ds p (tree.block_mapping s pairs) zero rest h = omega (arith, pairs_grow weight pairs rest)
  content_deep ds p (tree.block_mapping s pairs) (suc d) rest h = omega (arith, pairs_deep ds pairs d rest h)
  content_deep ds p (tree.indentless s n others) zero rest h = omega (arith, maybe_grows weight n (spell_others others rest), others_grow weight others rest)
  content_deep ds p (tree.indentless s n others) (suc d) rest (inl h) = omega (arith, maybe_deep ds n d (spell_others others rest) h, others_grow weight others rest)
  content_deep ds p (tree.indentless s n others) (suc d) rest (inr h) = omega (arith, maybe_grows weight n (spell_others others rest), others_deep ds others d rest h)

  maybe_deep : {w : Wants} (ds : List TagDirective) (n : tree.Maybe w) (d : ℕ) (rest : List Token)
      → StandsAt d (written_node (maybe_of ds n))
      → 3 * d + 2 * count rest ≤ 2 * count (spell_maybe n rest)
  maybe_deep ds tree.left_out zero rest h = omega arith
  maybe_deep ds tree.left_out (suc d) rest h = absurd h
  maybe_deep ds (tree.there n) d rest h = node_deep ds n d rest h

  colon_deep : {w : Wants} (ds : List TagDirective) (v : tree.Colon w) (d : ℕ) (rest : List Token)
      → StandsAt d (written_node (colon_of ds v))
      → 3 * d + 2 * count rest ≤ 2 * count (spell_colon v rest)
  colon_deep ds tree.no_colon zero rest h = omega arith
  colon_deep ds tree.no_colon (suc d) rest h = absurd h
  colon_deep ds (tree.colon s n) d rest h = omega (arith, maybe_deep ds n d rest h)

  -- inside brackets, with the closing one
  items_deep : (ds : List TagDirective) (items : tree.Items) (d : ℕ) (rest : List Token)
      → ItemStandsAt d (written_nodes (items_of ds items))
      → 3 * d + 1 + 2 * count rest ≤ 2 * count (spell_items brackets.Sequence items rest)
  items_deep ds (tree.end_items s) d rest h = absurd h
  items_deep ds (tree.single n more) d rest (inl h) = omega (arith, node_deep ds n d (spell_more brackets.Sequence more rest) h, more_grows weight brackets.Sequence more rest)
  items_deep ds (tree.single n more) d rest (inr h) = omega (arith, node_grows weight n (spell_more brackets.Sequence more rest), more_items_deep ds more d rest h)
  items_deep ds (tree.pair s key value more) zero rest (inl h) =
      let behind = spell_more brackets.Sequence more rest in
      omega (arith, maybe_grows weight key (spell_colon value behind), colon_grows weight value behind, more_grows weight brackets.Sequence more rest)
  items_deep ds (tree.pair s key value more) (suc d) rest (inl (inl h)) =
      let behind = spell_more brackets.Sequence more rest in
      omega (arith, maybe_deep ds key d (spell_colon value behind) h, colon_grows weight value behind, more_grows weight brackets.Sequence more rest)
  items_deep ds (tree.pair s key value more) (suc d) rest (inl (inr (inl h))) =
      let behind = spell_more brackets.Sequence more rest in
      omega (arith, maybe_grows weight key (spell_colon value behind), colon_deep ds value d behind h, more_grows weight brackets.Sequence more rest)
  items_deep ds (tree.pair s key value more) (suc d) rest (inl (inr (inr h))) = absurd h
  items_deep ds (tree.pair s key value more) d rest (inr h) =
      let behind = spell_more brackets.Sequence more rest in
      omega (arith, maybe_grows weight key (spell_colon value behind), colon_grows weight value behind, more_items_deep ds more d rest h)

  more_items_deep : (ds : List TagDirective) (more : tree.More) (d : ℕ) (rest : List Token)
      → ItemStandsAt d (written_nodes (more_items_of ds more))
      → 3 * d + 1 + 2 * count rest ≤ 2 * count (spell_more brackets.Sequence more rest)
  more_items_deep ds (tree.end_more s) d rest h = absurd h
  more_items_deep ds (tree.comma s items) d rest h = omega (arith, items_deep ds items d rest h)

  parts_deep : (ds : List TagDirective) (items : tree.Items) (d : ℕ) (rest : List Token)
      → PartStandsAt d (written_pairs (parts_of ds items))
      → 3 * d + 1 + 2 * count rest ≤ 2 * count (spell_items brackets.Mapping items rest)
  parts_deep ds (tree.end_items s) d rest h = absurd h
  parts_deep ds (tree.single n more) d rest (inl h) = omega (arith, node_deep ds n d (spell_more brackets.Mapping more rest) h, more_grows weight brackets.Mapping more rest)
  parts_deep ds (tree.single n more) zero rest (inr (inl h)) = omega (arith, node_grows weight n (spell_more brackets.Mapping more rest), more_grows weight brackets.Mapping more rest)
  parts_deep ds (tree.single n more) (suc d) rest (inr (inl h)) = absurd h
  parts_deep ds (tree.single n more) d rest (inr (inr h)) = omega (arith, node_grows weight n (spell_more brackets.Mapping more rest), more_parts_deep ds more d rest h)
  parts_deep ds (tree.pair s key value more) d rest (inl h) =
      let behind = spell_more brackets.Mapping more rest in
      omega (arith, maybe_deep ds key d (spell_colon value behind) h, colon_grows weight value behind, more_grows weight brackets.Mapping more rest)
  parts_deep ds (tree.pair s key value more) d rest (inr (inl h)) =
      let behind = spell_more brackets.Mapping more rest in
      omega (arith, maybe_grows weight key (spell_colon value behind), colon_deep ds value d behind h, more_grows weight brackets.Mapping more rest)
  parts_deep ds (tree.pair s key value more) d rest (inr (inr h)) =
      let behind = spell_more brackets.Mapping more rest in
      omega (arith, maybe_grows weight key (spell_colon value behind), colon_grows weight value behind, more_parts_deep ds more d rest h)

  more_parts_deep : (ds : List TagDirective) (more : tree.More) (d : ℕ) (rest : List Token)
      → PartStandsAt d (written_pairs (more_parts_of ds more))
      → 3 * d + 1 + 2 * count rest ≤ 2 * count (spell_more brackets.Mapping more rest)
  more_parts_deep ds (tree.end_more s) d rest h = absurd h
  more_parts_deep ds (tree.comma s items) d rest h = omega (arith, parts_deep ds items d rest h)

  -- in blocks, with an indicator
  entries_deep : (ds : List TagDirective) (entries : tree.Entries) (d : ℕ) (rest : List Token)
      → ItemStandsAt d (written_nodes (entries_of ds entries))
      → 3 * d + 3 + 2 * count rest ≤ 2 * count (spell_entries entries rest)
  entries_deep ds (tree.end_entries s) d rest h = absurd h
  entries_deep ds (tree.entry s n entries) d rest (inl h) = omega (arith, maybe_deep ds n d (spell_entries entries rest) h, entries_grow weight entries rest)
  entries_deep ds (tree.entry s n entries) d rest (inr h) = omega (arith, maybe_grows weight n (spell_entries entries rest), entries_deep ds entries d rest h)

  others_deep : (ds : List TagDirective) (others : tree.Others) (d : ℕ) (rest : List Token)
      → ItemStandsAt d (written_nodes (others_of ds others))
      → 3 * d + 3 + 2 * count rest ≤ 2 * count (spell_others others rest)
  others_deep ds tree.no_others d rest h = absurd h
  others_deep ds (tree.other s n others) d rest (inl h) = omega (arith, maybe_deep ds n d (spell_others others rest) h, others_grow weight others rest)
  others_deep ds (tree.other s n others) d rest (inr h) = omega (arith, maybe_grows weight n (spell_others others rest), others_deep ds others d rest h)

  pairs_deep : (ds : List TagDirective) (pairs : tree.Pairs) (d : ℕ) (rest : List Token)
      → PartStandsAt d (written_pairs (pairs_of ds pairs))
      → 3 * d + 1 + 2 * count rest ≤ 2 * count (spell_pairs pairs rest)
  pairs_deep ds (tree.end_pairs s) d rest h = absurd h
  pairs_deep ds (tree.block_pair s key value pairs) d rest (inl h) =
      let behind = spell_pairs pairs rest in
      omega (arith, maybe_deep ds key d (spell_colon value behind) h, colon_grows weight value behind, pairs_grow weight pairs rest)
  pairs_deep ds (tree.block_pair s key value pairs) d rest (inr (inl h)) =
      let behind = spell_pairs pairs rest in
      omega (arith, maybe_grows weight key (spell_colon value behind), colon_deep ds value d behind h, pairs_grow weight pairs rest)
  pairs_deep ds (tree.block_pair s key value pairs) d rest (inr (inr h)) =
      let behind = spell_pairs pairs rest in
      omega (arith, maybe_grows weight key (spell_colon value behind), colon_grows weight value behind, pairs_deep ds pairs d rest h)

-- ---- documents

pub directives_grow : (w : Weight) (ds : List tree.Directive) (rest : List Token)
    → weigh w rest ≤ weigh w (spell_directives ds rest)
directives_grow w [] rest = le_refl _
directives_grow w (tree.version s major minor ∷ ds) rest = omega (arith, directives_grow w ds rest)
directives_grow w (tree.handle s name prefix ∷ ds) rest = omega (arith, directives_grow w ds rest)

pub ends_grow : (w : Weight) (ends : List tree.Span) (rest : List Token)
    → weigh w rest ≤ weigh w (spell_ends ends rest)
ends_grow w [] rest = le_refl _
ends_grow w (s ∷ ends) rest = omega (arith, ends_grow w ends rest)

pub documents_grow : (w : Weight) (t : tree.Documents) (rest : List Token)
    → weigh w rest ≤ weigh w (spell_documents t rest)
documents_grow w (tree.end_stream s) rest = omega arith
documents_grow w (tree.document ds s root ends more) rest =
    let behind = spell_ends ends (spell_documents more rest) in
    let opened = token_at token.document_start s ∷ spell_maybe root behind in
    omega (arith, directives_grow w ds opened, maybe_grows w root behind, ends_grow w ends (spell_documents more rest), documents_grow w more rest)

documents_deep : (t : tree.Documents) (d : ℕ) (rest : List Token)
    → RootStandsAt d (written_documents (documents_of t))
    → 3 * d + 2 * count rest ≤ 2 * count (spell_documents t rest)
unfolding RootStandsAt
documents_deep (tree.end_stream s) d rest h = absurd h
documents_deep (tree.document ds s root ends more) d rest (inl h) =
    let behind = spell_ends ends (spell_documents more rest) in
    let opened = token_at token.document_start s ∷ spell_maybe root behind in
    omega (arith, directives_grow weight ds opened, maybe_deep (tags_in ds) root d behind h, ends_grow weight ends (spell_documents more rest), documents_grow weight more rest)
documents_deep (tree.document ds s root ends more) d rest (inr h) =
    let behind = spell_ends ends (spell_documents more rest) in
    let opened = token_at token.document_start s ∷ spell_maybe root behind in
    omega (arith, directives_grow weight ds opened, maybe_grows weight root behind, ends_grow weight ends (spell_documents more rest), documents_deep more d rest h)

first_deep : (f : tree.First) (t : tree.Documents) (d : ℕ) (rest : List Token)
    → RootStandsAt d (written_documents (behind_first f (documents_of t)))
    → 3 * d + 2 * count rest ≤ 2 * count (spell_first f (spell_documents t rest))
unfolding RootStandsAt
first_deep tree.no_first t d rest h = documents_deep t d rest h
first_deep (tree.first n ends) t d rest (inl h) =
    let behind = spell_documents t rest in
    omega (arith, node_deep [] n d (spell_ends ends behind) h, ends_grow weight ends behind, documents_grow weight t rest)
first_deep (tree.first n ends) t d rest (inr h) =
    let behind = spell_documents t rest in
    omega (arith, node_grows weight n (spell_ends ends behind), ends_grow weight ends behind, documents_deep t d rest h)

pub tree_deep : (t : tree.Stream) (d : ℕ) (rest : List Token)
    → RootStandsAt d (written_documents (tree_content t))
    → 3 * d + 2 * count rest ≤ 2 * count (spell t rest)
tree_deep t d rest h = omega (arith, first_deep t.first t.documents d rest h)
