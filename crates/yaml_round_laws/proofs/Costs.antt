-- The tokens of a tree weigh what the canonical text of its content takes, by a weight for each kind of token.
use Rattle.std.proofs.Common.{◌≡◌, ℕ, ◌+◌, ◌≤◌, Bool, true, List, [], ◌∷◌, Option, Some, None, refl, arith, le_refl}
use Rattle.yaml_round_laws.proofs.SizesWords.{nat_tests, cases_Bool, chars-nil, chars, Token, Wants, Properties, PropertyTokens, token_at, properties_of, spell_properties, spell_node, spell_content, spell_maybe, spell_colon, spell_items, spell_more, spell_entries, spell_others, spell_pairs, spell_directives, spell_ends, spell_documents, spell_first, spell, TagDirective, Encoding, Settings, scalar_node, context_of, ascii, text_bytes, anchor_bytes, tag_bytes, most_of_value, most_of_line, directives_bytes, tag_of, anchor_of, is_plain, mark_of, empty, node_of, with_content, maybe_of, colon_of, items_of, more_items_of, parts_of, more_parts_of, entries_of, others_of, pairs_of, tags_in, documents_of, behind_first, tree_content, written_scalar, written_node, written_nodes, written_pairs, written_documents}
use Rattle.yaml_scan_history.specs.scan_types.Tokens as token
use Rattle.yaml_parse_grammar.specs.declared.Brackets.TheVariants as brackets
use Rattle.yaml_parse_grammar.specs.Trees as tree
use Rattle.yaml_round_laws.proofs.Weights.{Weight, weigh}
use Rattle.yaml_round_laws.proofs.Trees.{node_grows, maybe_grows, ends_grow}
use Rattle.yaml_round_laws.proofs.Flat.{flat_node, flat_items, flat_pairs, flat_documents}
use Rattle.yaml_round_laws.proofs.Spellings.{uri_bytes, handles_bytes, prefixes_bytes, tag_most, wide_uri}

-- a line that is indented by i, and five characters more
abbrev pub broad : Settings → ℕ → ℕ
broad s i = ascii s (i + 10)

-- What a token costs, where no line is indented by more than i, and the directives of a document make a tag longer by at most t.
abbrev pub cost : Settings → ℕ → ℕ → Weight
cost s i t token.document_start = ascii s 39
cost s i t (token.tag_directive handle prefix) = ascii s 9 + text_bytes s.encoding handle + uri_bytes s.encoding prefix
cost s i t token.block_sequence_start = broad s i
cost s i t token.block_mapping_start = broad s i
cost s i t token.block_entry = broad s i + broad s i
cost s i t token.key = broad s i + broad s i
cost s i t token.flow_sequence_start = broad s i
cost s i t token.flow_mapping_start = broad s i
cost s i t token.flow_sequence_end = broad s i + broad s i
cost s i t token.flow_mapping_end = broad s i + broad s i
cost s i t token.flow_entry = broad s i + broad s i
cost s i t (token.alias name) = ascii s 3 + text_bytes s.encoding name
cost s i t (token.anchor name) = ascii s 7 + text_bytes s.encoding name
cost s i t (token.tag handle suffix) = ascii s 5 + t + uri_bytes s.encoding handle + uri_bytes s.encoding suffix
cost s i t (token.scalar value style) = ascii s 5 + most_of_value s i (chars value)
cost s i t _ = 0

-- what directives add to a tag's bound
abbrev pub lent : Encoding → List TagDirective → ℕ
lent x ds = handles_bytes x ds + prefixes_bytes x ds

-- ---- properties

abbrev tagged_bytes : Settings → List TagDirective → Option Properties → ℕ
tagged_bytes s ds p = anchor_bytes s (anchor_of p) + tag_bytes (context_of s ds) (tag_of ds p)

-- a scalar, of which the tag `!` is left out
scalar_cost : (s : Settings) (i : ℕ) (ds : List TagDirective) (anchor tag : Option (List ℕ))
    (plain : Bool) (value : List ℕ)
    → flat_node (context_of s ds) i (scalar_node (written_scalar anchor (mark_of tag plain) value))
    ≤ anchor_bytes s anchor + tag_bytes (context_of s ds) tag + ascii s 5 + most_of_value s i
    (chars value)
scalar_cost s i ds anchor tag plain value = grind (arith, nat_tests, cases_Bool)

-- and so much room as the node has that they are before
properties_cost : (s : Settings) (i t : ℕ) (ds : List TagDirective)
    → ascii s 27 + lent s.encoding ds ≤ t → (d : PropertyTokens) (rest : List Token)
    → tagged_bytes s ds (Some (properties_of d)) + ascii s 5 + weigh (cost s i t) rest ≤ weigh
    (cost s i t) (spell_properties d rest)
properties_cost s i t ds f d rest = grind (arith, nat_tests, tag_most)

-- ---- nodes

no_value : (s : Settings) (i : ℕ) → most_of_value s i (chars []) ≡ 0
unfolding most_of_value
no_value s i = rw chars-nil refl

empty_cost : (s : Settings) (i : ℕ) (ds : List TagDirective) (p : Option Properties)
    → flat_node (context_of s ds) i (written_node (empty (anchor_of p) (tag_of ds p))) ≤
    tagged_bytes s ds p + ascii s 5
empty_cost s i ds p = omega (arith, no_value s i, scalar_cost s i ds (anchor_of p) (tag_of ds p) true [])

mutual
  node_costs : (s : Settings) (i t : ℕ) (ds : List TagDirective)
      (f : ascii s 27 + lent s.encoding ds ≤ t) {k : Wants} (n : tree.Node k) (rest : List Token)
      → flat_node (context_of s ds) i (written_node (node_of ds n)) + weigh (cost s i t) rest ≤
      weigh (cost s i t) (spell_node n rest)
  node_costs s i t ds f (tree.alias at name) rest = omega arith
  node_costs s i t ds f (tree.only_properties d) rest = omega (arith, empty_cost s i ds (Some (properties_of d)), properties_cost s i t ds f d rest)
  node_costs s i t ds f (tree.with_properties d c) rest =
      omega (arith, properties_cost s i t ds f d (spell_content c rest), content_costs s i t ds f (Some (properties_of d)) c rest)
  node_costs s i t ds f (tree.bare c) rest = omega (arith, content_costs s i t ds f None c rest)

  content_costs : (s : Settings) (i t : ℕ) (ds : List TagDirective)
      (f : ascii s 27 + lent s.encoding ds ≤ t) (p : Option Properties) {k : Wants}
      (c : tree.Content k) (rest : List Token)
      → flat_node (context_of s ds) i (written_node (with_content ds p c)) + weigh (cost s i t) rest
      ≤ tagged_bytes s ds p + weigh (cost s i t) (spell_content c rest)
  content_costs s i t ds f p (tree.scalar at value style) rest = omega (arith, scalar_cost s i ds (anchor_of p) (tag_of ds p) (is_plain style) value)
  content_costs s i t ds f p (tree.flow brackets.Sequence at items) rest = omega (arith, items_cost s i t ds f items rest)
  content_costs s i t ds f p (tree.flow brackets.Mapping at items) rest = omega (arith, parts_cost s i t ds f items rest)
  content_costs s i t ds f p (tree.block_sequence at entries) rest = omega (arith, entries_cost s i t ds f entries rest)
  content_costs s i t ds f p (tree.block_mapping at pairs) rest = omega (arith, pairs_cost s i t ds f pairs rest)
  content_costs s i t ds f p (tree.indentless at n others) rest = omega (arith, maybe_costs s i t ds f n (spell_others others rest), others_cost s i t ds f others rest)

  -- a node that is left out has room besides
  maybe_costs : (s : Settings) (i t : ℕ) (ds : List TagDirective)
      (f : ascii s 27 + lent s.encoding ds ≤ t) {k : Wants} (n : tree.Maybe k) (rest : List Token)
      → flat_node (context_of s ds) i (written_node (maybe_of ds n)) + weigh (cost s i t) rest ≤
      ascii s 5 + weigh (cost s i t) (spell_maybe n rest)
  maybe_costs s i t ds f tree.left_out rest = omega (arith, empty_cost s i ds None)
  maybe_costs s i t ds f (tree.there n) rest = omega (arith, node_costs s i t ds f n rest)

  colon_costs : (s : Settings) (i t : ℕ) (ds : List TagDirective)
      (f : ascii s 27 + lent s.encoding ds ≤ t) {k : Wants} (v : tree.Colon k) (rest : List Token)
      → flat_node (context_of s ds) i (written_node (colon_of ds v)) + weigh (cost s i t) rest ≤
      ascii s 5 + weigh (cost s i t) (spell_colon v rest)
  colon_costs s i t ds f tree.no_colon rest = omega (arith, empty_cost s i ds None)
  colon_costs s i t ds f (tree.colon at n) rest = omega (arith, maybe_costs s i t ds f n rest)

  -- inside brackets, the line that ends them aside
  items_cost : (s : Settings) (i t : ℕ) (ds : List TagDirective)
      (f : ascii s 27 + lent s.encoding ds ≤ t) (items : tree.Items) (rest : List Token)
      → flat_items (context_of s ds) i (written_nodes (items_of ds items)) + weigh (cost s i t) rest
      ≤ most_of_line s i + weigh (cost s i t) (spell_items brackets.Sequence items rest)
  items_cost s i t ds f (tree.end_items at) rest = omega arith
  items_cost s i t ds f (tree.single n more) rest = omega (arith, node_costs s i t ds f n (spell_more brackets.Sequence more rest), more_items_cost s i t ds f more rest)
  items_cost s i t ds f (tree.pair at key value more) rest =
      let behind = spell_more brackets.Sequence more rest in
      omega (arith, maybe_costs s i t ds f key (spell_colon value behind), colon_costs s i t ds f value behind, more_items_cost s i t ds f more rest)

  -- a comma, or what closes them, has room for what came before
  more_items_cost : (s : Settings) (i t : ℕ) (ds : List TagDirective)
      (f : ascii s 27 + lent s.encoding ds ≤ t) (more : tree.More) (rest : List Token)
      → flat_items (context_of s ds) i (written_nodes (more_items_of ds more)) + broad s i + broad s
      i + weigh (cost s i t) rest ≤ most_of_line s i + weigh (cost s i t)
      (spell_more brackets.Sequence more rest)
  more_items_cost s i t ds f (tree.end_more at) rest = omega arith
  more_items_cost s i t ds f (tree.comma at items) rest = omega (arith, items_cost s i t ds f items rest)

  parts_cost : (s : Settings) (i t : ℕ) (ds : List TagDirective)
      (f : ascii s 27 + lent s.encoding ds ≤ t) (items : tree.Items) (rest : List Token)
      → flat_pairs (context_of s ds) i (written_pairs (parts_of ds items)) + weigh (cost s i t) rest
      ≤ most_of_line s i + weigh (cost s i t) (spell_items brackets.Mapping items rest)
  parts_cost s i t ds f (tree.end_items at) rest = omega arith
  parts_cost s i t ds f (tree.single n more) rest =
      omega (arith, node_costs s i t ds f n (spell_more brackets.Mapping more rest), empty_cost s i ds None, more_parts_cost s i t ds f more rest)
  parts_cost s i t ds f (tree.pair at key value more) rest =
      let behind = spell_more brackets.Mapping more rest in
      omega (arith, maybe_costs s i t ds f key (spell_colon value behind), colon_costs s i t ds f value behind, more_parts_cost s i t ds f more rest)

  more_parts_cost : (s : Settings) (i t : ℕ) (ds : List TagDirective)
      (f : ascii s 27 + lent s.encoding ds ≤ t) (more : tree.More) (rest : List Token)
      → flat_pairs (context_of s ds) i (written_pairs (more_parts_of ds more)) + broad s i + broad s
      i + weigh (cost s i t) rest ≤ most_of_line s i + weigh (cost s i t)
      (spell_more brackets.Mapping more rest)
  more_parts_cost s i t ds f (tree.end_more at) rest = omega arith
  more_parts_cost s i t ds f (tree.comma at items) rest = omega (arith, parts_cost s i t ds f items rest)

  -- in blocks
  entries_cost : (s : Settings) (i t : ℕ) (ds : List TagDirective)
      (f : ascii s 27 + lent s.encoding ds ≤ t) (entries : tree.Entries) (rest : List Token)
      → flat_items (context_of s ds) i (written_nodes (entries_of ds entries)) + weigh (cost s i t)
      rest ≤ most_of_line s i + weigh (cost s i t) (spell_entries entries rest)
  entries_cost s i t ds f (tree.end_entries at) rest = omega arith
  entries_cost s i t ds f (tree.entry at n entries) rest = omega (arith, maybe_costs s i t ds f n (spell_entries entries rest), entries_cost s i t ds f entries rest)

  others_cost : (s : Settings) (i t : ℕ) (ds : List TagDirective)
      (f : ascii s 27 + lent s.encoding ds ≤ t) (others : tree.Others) (rest : List Token)
      → flat_items (context_of s ds) i (written_nodes (others_of ds others)) + weigh (cost s i t)
      rest ≤ most_of_line s i + weigh (cost s i t) (spell_others others rest)
  others_cost s i t ds f tree.no_others rest = omega arith
  others_cost s i t ds f (tree.other at n others) rest = omega (arith, maybe_costs s i t ds f n (spell_others others rest), others_cost s i t ds f others rest)

  pairs_cost : (s : Settings) (i t : ℕ) (ds : List TagDirective)
      (f : ascii s 27 + lent s.encoding ds ≤ t) (pairs : tree.Pairs) (rest : List Token)
      → flat_pairs (context_of s ds) i (written_pairs (pairs_of ds pairs)) + weigh (cost s i t) rest
      ≤ most_of_line s i + weigh (cost s i t) (spell_pairs pairs rest)
  pairs_cost s i t ds f (tree.end_pairs at) rest = omega arith
  pairs_cost s i t ds f (tree.block_pair at key value pairs) rest =
      let behind = spell_pairs pairs rest in
      omega (arith, maybe_costs s i t ds f key (spell_colon value behind), colon_costs s i t ds f value behind, pairs_cost s i t ds f pairs rest)

-- ---- documents

-- what a token adds to the bounds of tags
abbrev pub lends : Encoding → Weight
lends x (token.tag_directive handle prefix) = text_bytes x handle + uri_bytes x prefix
lends x _ = 0

lent_is : (x : Encoding) (ds : List tree.Directive) (rest : List Token)
    → lent x (tags_in ds) + weigh (lends x) rest ≡ weigh (lends x) (spell_directives ds rest)
lent_is x [] rest = omega arith
lent_is x (tree.version at major minor ∷ ds) rest = omega (arith, lent_is x ds rest)
lent_is x (tree.handle at name prefix ∷ ds) rest = omega (arith, lent_is x ds rest)

directives_cost : (s : Settings) (i t : ℕ) (ds : List tree.Directive) (rest : List Token)
    → directives_bytes s (tags_in ds) + weigh (cost s i t) rest ≤ weigh (cost s i t)
    (spell_directives ds rest)
unfolding directives_bytes
directives_cost s i t [] rest = omega arith
directives_cost s i t (tree.version at major minor ∷ ds) rest = omega (arith, directives_cost s i t ds rest)
directives_cost s i t (tree.handle at name prefix ∷ ds) rest = omega (arith, wide_uri s.encoding prefix, directives_cost s i t ds rest)

documents_cost : (s : Settings) (i t : ℕ) (d : tree.Documents) (rest : List Token)
    → ascii s 27 + weigh (lends s.encoding) (spell_documents d rest) ≤ t
    → flat_documents s i (written_documents (documents_of d)) + weigh (cost s i t) rest ≤ weigh
    (cost s i t) (spell_documents d rest)
documents_cost s i t (tree.end_stream at) rest f = omega arith
documents_cost s i t (tree.document ds at root ends more) rest f =
    let behind = spell_ends ends (spell_documents more rest) in
    let opened = token_at token.document_start at ∷ spell_maybe root behind in
    let l = lends s.encoding in
    let own = lent_is s.encoding ds opened in
    let a = maybe_grows l root behind in
    let b = ends_grow l ends (spell_documents more rest) in
    let fits : ascii s 27 + lent s.encoding (tags_in ds) ≤ t = omega (arith, f, own) in
    let left : ascii s 27 + weigh l (spell_documents more rest) ≤ t = omega (arith, f, own, a, b) in
    omega (arith, directives_cost s i t ds opened, maybe_costs s i t (tags_in ds) fits root behind, ends_grow (cost s i t) ends (spell_documents more rest), documents_cost s i t more rest left)

directives_none : (s : Settings) → directives_bytes s [] ≡ 0
unfolding directives_bytes
directives_none s = refl

first_cost : (s : Settings) (i t : ℕ) (n : tree.First) (d : tree.Documents) (rest : List Token)
    → ascii s 27 + weigh (lends s.encoding) (spell_documents d rest) ≤ t
    → flat_documents s i (written_documents (behind_first n (documents_of d))) + weigh (cost s i t)
    rest ≤ ascii s 34 + weigh (cost s i t) (spell_first n (spell_documents d rest))
first_cost s i t tree.no_first d rest f = omega (arith, documents_cost s i t d rest f)
first_cost s i t (tree.first n ends) d rest f =
    let behind = spell_documents d rest in
    let fits : ascii s 27 + lent s.encoding [] ≤ t = omega (arith, f) in
    omega (arith, node_costs s i t [] fits n (spell_ends ends behind), ends_grow (cost s i t) ends behind, documents_cost s i t d rest f, directives_none s)

first_lends : (w : Weight) (n : tree.First) (rest : List Token)
    → weigh w rest ≤ weigh w (spell_first n rest)
first_lends w n rest = grind (arith, nat_tests, le_refl, node_grows, ends_grow)

-- all documents; one without `---` has no token of its own
pub tree_cost : (s : Settings) (i t : ℕ) (d : tree.Stream)
    → ascii s 27 + weigh (lends s.encoding) (spell d []) ≤ t
    → flat_documents s i (written_documents (tree_content d)) ≤ ascii s 34 + weigh (cost s i t)
    (spell d [])
tree_cost s i t d f =
    let a = first_lends (lends s.encoding) d.first (spell_documents d.documents []) in
    let inner : ascii s 27 + weigh (lends s.encoding) (spell_documents d.documents []) ≤ t = omega (arith, f, a) in
    omega (arith, first_cost s i t d.first d.documents [] inner)
