-- Two trees whose tokens begin alike are equal.
use Rattle.std.proofs.Common.{◌≡◌, ℕ, ℤ, Bool, true, false, List, [], ◌∷◌, Option, Some, None, refl, ap, sym, subst, ◌∙◌, arith}
use Rattle.yaml_parse_laws_trees.proofs.Words.{yaml_encoding_t, yaml_scalar_style_t, yaml_token_type_t, Token, Wants, Flow, Block, Side, Key, Value, Root, Entry, IndentlessEntry, BlockPair, FlowPair, Brackets, Span, token_at, PropertyTokens, spell_properties, closing, Node, Content, Maybe, Colon, Items, More, Entries, Others, Pairs, Directive, Documents, First, Stream, spell_node, spell_content, spell_maybe, spell_colon, spell_items, spell_more, spell_entries, spell_others, spell_pairs, spell_directives, spell_ends, spell_documents, spell_first, starts_node, Ends, Starts, node_starts, follows_ends, more_ends, colon_follows, entries_follow, pairs_follow, block_colon_follows, others_follow, TokensHaveOneTree}
use Rattle.yaml_parse_grammar.specs.parse_model.declared.yaml_token_type_t.TheVariants as kind
use Rattle.yaml_parse_grammar.specs.scan_types.Tokens as token
use Rattle.yaml_parse_grammar.specs.declared.name.Brackets.TheVariants as brackets
use Rattle.yaml_parse_grammar.specs.Trees as tree
use Rattle.yaml_parse_grammar.proofs.CompleteStream.{documents_follow, root_follows}
use Rattle.yaml_parse_laws_trees.proofs.CountsFirst.{kind_of, apart, both, three, four, span_same, body_same, rest_same, not_both, no_node, ends_plain, content_plain, properties_same}

-- ---- which tree begins so

-- an alias, properties, or content alone
abbrev sort_of : yaml_token_type_t → Option Bool
sort_of kind.YAML_ALIAS_TOKEN = Some true
sort_of kind.YAML_ANCHOR_TOKEN = Some false
sort_of kind.YAML_TAG_TOKEN = Some false
sort_of _ = None

abbrev node_sort : {w : Wants} → Node w → Option Bool
node_sort (tree.alias p name) = Some true
node_sort (tree.bare c) = None
node_sort _ = Some false

properties_sorted : (d : PropertyTokens) (ts : List Token)
    → sort_of (kind_of (spell_properties d ts)) ≡ Some false
properties_sorted d ts = grind arith

content_sorted : {w : Wants} (c : Content w) (ts : List Token)
    → sort_of (kind_of (spell_content c ts)) ≡ None
content_sorted (tree.scalar p v style) ts = refl
content_sorted (tree.flow brackets.Sequence p i) ts = refl
content_sorted (tree.flow brackets.Mapping p i) ts = refl
content_sorted _ ts = refl

node_sorted : {w : Wants} (n : Node w) (ts : List Token)
    → sort_of (kind_of (spell_node n ts)) ≡ node_sort n
node_sorted (tree.alias p name) ts = refl
node_sorted (tree.only_properties d) ts = properties_sorted d ts
node_sorted (tree.with_properties d c) ts = properties_sorted d (spell_content c ts)
node_sorted (tree.bare c) ts = content_sorted c ts

-- the first token of content, brackets of both kinds alike
abbrev form_of : yaml_token_type_t → yaml_token_type_t
form_of kind.YAML_FLOW_MAPPING_START_TOKEN = kind.YAML_FLOW_SEQUENCE_START_TOKEN
form_of k = k

abbrev content_form : {w : Wants} → Content w → yaml_token_type_t
content_form (tree.scalar p v style) = kind.YAML_SCALAR_TOKEN
content_form (tree.flow b p i) = kind.YAML_FLOW_SEQUENCE_START_TOKEN
content_form (tree.block_sequence p e) = kind.YAML_BLOCK_SEQUENCE_START_TOKEN
content_form (tree.block_mapping p m) = kind.YAML_BLOCK_MAPPING_START_TOKEN
content_form (tree.indentless p n o) = kind.YAML_BLOCK_ENTRY_TOKEN

content_formed : {w : Wants} (c : Content w) (ts : List Token)
    → form_of (kind_of (spell_content c ts)) ≡ content_form c
content_formed (tree.scalar p v style) ts = refl
content_formed (tree.flow brackets.Sequence p i) ts = refl
content_formed (tree.flow brackets.Mapping p i) ts = refl
content_formed _ ts = refl

-- a closing bracket, a node, or a pair
abbrev part_of : yaml_token_type_t → Option Bool
part_of kind.YAML_FLOW_SEQUENCE_END_TOKEN = None
part_of kind.YAML_FLOW_MAPPING_END_TOKEN = None
part_of kind.YAML_KEY_TOKEN = Some false
part_of _ = Some true

node_part : (k : yaml_token_type_t) → starts_node Flow k ≡ true → part_of k ≡ Some true
node_part k h = grind arith

started_part : (ts : List Token) → Starts Flow ts → part_of (kind_of ts) ≡ Some true
started_part ts h = grind (arith, node_part)

abbrev items_part : Items → Option Bool
items_part (tree.end_items p) = None
items_part (tree.single n m) = Some true
items_part (tree.pair p k v m) = Some false

items_parted : (b : Brackets) (i : Items) (ts : List Token)
    → part_of (kind_of (spell_items b i ts)) ≡ items_part i
items_parted b i ts = grind (arith, started_part, node_starts)

-- ---- what follows a node ends it

colon_ends : (b : Brackets) (v : Colon Flow) (m : More) (ts : List Token)
    → Ends Flow (spell_colon v (spell_more b m ts))
colon_ends b v m ts = follows_ends (FlowPair b Key) _ (colon_follows b v m ts)

entries_end : (e : Entries) (ts : List Token) → Ends (Block None) (spell_entries e ts)
entries_end e ts = follows_ends Entry _ (entries_follow e ts)

others_end : (side : Side) (o : Others) (ts : List Token) → Ends (Block (Some side)) ts
    → Ends (Block None) (spell_others o ts)
others_end side o ts h = follows_ends (IndentlessEntry side) _ (others_follow side o ts h)

pairs_end : (side : Side) (m : Pairs) (ts : List Token)
    → Ends (Block (Some side)) (spell_pairs m ts)
pairs_end side m ts = follows_ends (BlockPair side) _ (pairs_follow side m ts)

colon_pairs_end : (v : Colon (Block (Some Value))) (m : Pairs) (ts : List Token)
    → Ends (Block (Some Key)) (spell_colon v (spell_pairs m ts))
colon_pairs_end v m ts = follows_ends (BlockPair Key) _ (block_colon_follows v m ts)

-- no VALUE comes first
abbrev NoValue : List Token → Type 0
NoValue ts = kind_of ts ≡ kind.YAML_VALUE_TOKEN → ⊥

more_no_value : (b : Brackets) (m : More) (ts : List Token) → NoValue (spell_more b m ts)
more_no_value brackets.Sequence (tree.end_more p) ts h = cc
more_no_value brackets.Mapping (tree.end_more p) ts h = cc
more_no_value b (tree.comma p i) ts h = cc

pairs_no_value : (m : Pairs) (ts : List Token) → NoValue (spell_pairs m ts)
pairs_no_value (tree.end_pairs p) ts h = cc
pairs_no_value (tree.block_pair p k v m) ts h = cc

no_dash : (side : Side) (p : Span) (x y : List Token) → Ends (Block (Some side)) x
    → x ≡ token_at token.block_entry p ∷ y → ⊥
no_dash side p x y e h = not_both (Block (Some side)) (token_at token.block_entry p ∷ y) (subst (Ends (Block (Some side))) h e) refl

-- ---- nodes

alias_same : {w : Wants} (p q : Span) (a b : List ℕ) (x y : List Token)
    → token_at (token.alias a) p ∷ x ≡ token_at (token.alias b) q ∷ y
    → (tree.alias {w = w} p a ≡ tree.alias {w = w} q b) × (x ≡ y)
alias_same p q a b x y h = grind (arith, body_same, span_same, rest_same)

scalar_same : {w : Wants} (p q : Span) (v u : List ℕ) (s r : yaml_scalar_style_t) (x y : List Token)
    → token_at (token.scalar v s) p ∷ x ≡ token_at (token.scalar u r) q ∷ y
    → (tree.scalar {w = w} p v s ≡ tree.scalar {w = w} q u r) × (x ≡ y)
scalar_same p q v u s r x y h = grind (arith, body_same, three, span_same, rest_same)

-- ---- trees of different forms spell different tokens

-- the two are of the same form
abbrev NodesAlike : {w : Wants} → Node w → Node w → Type 0
NodesAlike (tree.alias p a) (tree.alias q b) = Unit {0}
NodesAlike (tree.only_properties c) (tree.only_properties d) = Unit {0}
NodesAlike (tree.only_properties c) (tree.with_properties d n) = Unit {0}
NodesAlike (tree.with_properties c m) (tree.only_properties d) = Unit {0}
NodesAlike (tree.with_properties c m) (tree.with_properties d n) = Unit {0}
NodesAlike (tree.bare m) (tree.bare n) = Unit {0}
NodesAlike m n = ⊥

nodes_alike : {w : Wants} (m n : Node w) (x y : List Token) → spell_node m x ≡ spell_node n y
    → NodesAlike m n
nodes_alike (tree.alias p a) (tree.alias q b) x y h = tt
nodes_alike (tree.only_properties c) (tree.only_properties d) x y h = tt
nodes_alike (tree.only_properties c) (tree.with_properties d n) x y h = tt
nodes_alike (tree.with_properties c m) (tree.only_properties d) x y h = tt
nodes_alike (tree.with_properties c m) (tree.with_properties d n) x y h = tt
nodes_alike (tree.bare m) (tree.bare n) x y h = tt
nodes_alike m n x y h = let s : node_sort m ≡ node_sort n = sym (node_sorted m x) ∙ ap (λ ts. sort_of (kind_of ts)) h ∙ node_sorted n y in cc

abbrev ContentsAlike : {w : Wants} → Content w → Content w → Type 0
ContentsAlike (tree.scalar p v s) (tree.scalar q u r) = Unit {0}
ContentsAlike (tree.flow a p i) (tree.flow b q j) = Unit {0}
ContentsAlike (tree.block_sequence p m) (tree.block_sequence q n) = Unit {0}
ContentsAlike (tree.block_mapping p m) (tree.block_mapping q n) = Unit {0}
ContentsAlike (tree.indentless p m o) (tree.indentless q n u) = Unit {0}
ContentsAlike c d = ⊥

contents_alike : {w : Wants} (c d : Content w) (x y : List Token)
    → spell_content c x ≡ spell_content d y → ContentsAlike c d
contents_alike (tree.scalar p v s) (tree.scalar q u r) x y h = tt
contents_alike (tree.flow a p i) (tree.flow b q j) x y h = tt
contents_alike (tree.block_sequence p m) (tree.block_sequence q n) x y h = tt
contents_alike (tree.block_mapping p m) (tree.block_mapping q n) x y h = tt
contents_alike (tree.indentless p m o) (tree.indentless q n u) x y h = tt
contents_alike c d x y h = let s : content_form c ≡ content_form d = sym (content_formed c x) ∙ ap (λ ts. form_of (kind_of ts)) h ∙ content_formed d y in cc

brackets_apart : (p q : Span) (x y : List Token)
    → token_at token.flow_sequence_start p ∷ x ≡ token_at token.flow_mapping_start q ∷ y → ⊥
brackets_apart p q x y h = apart _ _ h (λ k. cc)

abbrev ItemsAlike : Items → Items → Type 0
ItemsAlike (tree.end_items p) (tree.end_items q) = Unit {0}
ItemsAlike (tree.single m k) (tree.single n l) = Unit {0}
ItemsAlike (tree.pair p m v k) (tree.pair q n u l) = Unit {0}
ItemsAlike i j = ⊥

items_alike : (b : Brackets) (i j : Items) (x y : List Token)
    → spell_items b i x ≡ spell_items b j y → ItemsAlike i j
items_alike b (tree.end_items p) (tree.end_items q) x y h = tt
items_alike b (tree.single m k) (tree.single n l) x y h = tt
items_alike b (tree.pair p m v k) (tree.pair q n u l) x y h = tt
items_alike b i j x y h = let s : items_part i ≡ items_part j = sym (items_parted b i x) ∙ ap (λ ts. part_of (kind_of ts)) h ∙ items_parted b j y in cc

comma_apart : (b : Brackets) (p q : Span) (x y : List Token)
    → token_at (closing b) p ∷ x ≡ token_at token.flow_entry q ∷ y → ⊥
comma_apart b p q x y h = grind arith

dash_apart : (p q : Span) (x y : List Token)
    → token_at token.block_end p ∷ x ≡ token_at token.block_entry q ∷ y → ⊥
dash_apart p q x y h = apart _ _ h (λ k. cc)

key_apart : (p q : Span) (x y : List Token)
    → token_at token.block_end p ∷ x ≡ token_at token.key q ∷ y → ⊥
key_apart p q x y h = apart _ _ h (λ k. cc)

-- ---- equal tokens, equal parts

mutual
  node_same : {w : Wants} (m n : Node w) (x y : List Token) → Ends w x → Ends w y
      → spell_node m x ≡ spell_node n y → (m ≡ n) × (x ≡ y)
  node_same {w = w} (tree.alias p a) (tree.alias q b) x y e f h = alias_same {w = w} p q a b x y h
  node_same {w = w} (tree.only_properties c) (tree.only_properties d) x y e f h =
      let r : (c ≡ d) × (x ≡ y) = properties_same c d x y (ends_plain w x e) (ends_plain w y f) h in (ap tree.only_properties r.0, r.1)
  node_same {w = w} (tree.with_properties c m) (tree.with_properties d n) x y e f h =
      let r : (c ≡ d) × (spell_content m x ≡ spell_content n y) = properties_same c d (spell_content m x) (spell_content n y) (content_plain m x) (content_plain n y) h in
      let s : (m ≡ n) × (x ≡ y) = content_same m n x y e f r.1 in
      (both tree.with_properties c d m n r.0 s.0, s.1)
  node_same {w = w} (tree.only_properties c) (tree.with_properties d n) x y e f h =
      let r : (c ≡ d) × (x ≡ spell_content n y) = properties_same c d x (spell_content n y) (ends_plain w x e) (content_plain n y) h in
      absurd (no_node (tree.bare n) x y e r.1)
  node_same {w = w} (tree.with_properties c m) (tree.only_properties d) x y e f h =
      let r : (c ≡ d) × (spell_content m x ≡ y) = properties_same c d (spell_content m x) y (content_plain m x) (ends_plain w y f) h in
      absurd (no_node (tree.bare m) y x f (sym r.1))
  node_same (tree.bare m) (tree.bare n) x y e f h = let r : (m ≡ n) × (x ≡ y) = content_same m n x y e f h in (ap tree.bare r.0, r.1)
  node_same m n x y e f h = absurd (nodes_alike m n x y h)

  content_same : {w : Wants} (c d : Content w) (x y : List Token) → Ends w x → Ends w y
      → spell_content c x ≡ spell_content d y → (c ≡ d) × (x ≡ y)
  content_same {w = w} (tree.scalar p v s) (tree.scalar q u r) x y e f h = scalar_same {w = w} p q v u s r x y h
  content_same {w = w} (tree.flow brackets.Sequence p i) (tree.flow brackets.Sequence q j) x y e f h =
      let r : (i ≡ j) × (x ≡ y) = items_same brackets.Sequence i j x y (rest_same _ _ _ _ h) in
      (both (λ z n. tree.flow {w = w} brackets.Sequence z n) p q i j (span_same _ _ p q _ _ h) r.0, r.1)
  content_same {w = w} (tree.flow brackets.Mapping p i) (tree.flow brackets.Mapping q j) x y e f h =
      let r : (i ≡ j) × (x ≡ y) = items_same brackets.Mapping i j x y (rest_same _ _ _ _ h) in
      (both (λ z n. tree.flow {w = w} brackets.Mapping z n) p q i j (span_same _ _ p q _ _ h) r.0, r.1)
  content_same (tree.flow brackets.Sequence p i) (tree.flow brackets.Mapping q j) x y e f h = absurd (brackets_apart p q _ _ h)
  content_same (tree.flow brackets.Mapping p i) (tree.flow brackets.Sequence q j) x y e f h = absurd (brackets_apart q p _ _ (sym h))
  content_same (tree.block_sequence p m) (tree.block_sequence q n) x y e f h =
      let r : (m ≡ n) × (x ≡ y) = entries_same m n x y (rest_same _ _ _ _ h) in
      (both tree.block_sequence p q m n (span_same _ _ p q _ _ h) r.0, r.1)
  content_same (tree.block_mapping p m) (tree.block_mapping q n) x y e f h =
      let r : (m ≡ n) × (x ≡ y) = pairs_same m n x y (rest_same _ _ _ _ h) in
      (both tree.block_mapping p q m n (span_same _ _ p q _ _ h) r.0, r.1)
  content_same (tree.indentless {s = side} p m o) (tree.indentless q n u) x y e f h =
      let r : (m ≡ n) × (spell_others o x ≡ spell_others u y) = maybe_same m n (spell_others o x) (spell_others u y) (others_end side o x e) (others_end side u y f) (rest_same _ _ _ _ h) in
      let s : (o ≡ u) × (x ≡ y) = others_same side o u x y e f r.1 in
      (three tree.indentless p q m n o u (span_same _ _ p q _ _ h) r.0 s.0, s.1)
  content_same c d x y e f h = absurd (contents_alike c d x y h)

  maybe_same : {w : Wants} (m n : Maybe w) (x y : List Token) → Ends w x → Ends w y
      → spell_maybe m x ≡ spell_maybe n y → (m ≡ n) × (x ≡ y)
  maybe_same tree.left_out tree.left_out x y e f h = (refl, h)
  maybe_same (tree.there m) (tree.there n) x y e f h = let r : (m ≡ n) × (x ≡ y) = node_same m n x y e f h in (ap tree.there r.0, r.1)
  maybe_same tree.left_out (tree.there n) x y e f h = absurd (no_node n x y e h)
  maybe_same (tree.there m) tree.left_out x y e f h = absurd (no_node m y x f (sym h))

  colon_same : {w : Wants} (v u : Colon w) (x y : List Token) → Ends w x → Ends w y → NoValue x
      → NoValue y → spell_colon v x ≡ spell_colon u y → (v ≡ u) × (x ≡ y)
  colon_same tree.no_colon tree.no_colon x y e f k l h = (refl, h)
  colon_same (tree.colon p m) (tree.colon q n) x y e f k l h =
      let r : (m ≡ n) × (x ≡ y) = maybe_same m n x y e f (rest_same _ _ _ _ h) in
      (both tree.colon p q m n (span_same _ _ p q _ _ h) r.0, r.1)
  colon_same tree.no_colon (tree.colon q n) x y e f k l h = absurd (k (ap kind_of h))
  colon_same (tree.colon p m) tree.no_colon x y e f k l h = absurd (l (ap kind_of (sym h)))

  items_same : (b : Brackets) (i j : Items) (x y : List Token)
      → spell_items b i x ≡ spell_items b j y → (i ≡ j) × (x ≡ y)
  items_same b (tree.end_items p) (tree.end_items q) x y h = (ap tree.end_items (span_same _ _ p q x y h), rest_same _ _ x y h)
  items_same b (tree.single m k) (tree.single n l) x y h =
      let r : (m ≡ n) × (spell_more b k x ≡ spell_more b l y) = node_same m n (spell_more b k x) (spell_more b l y) (more_ends b k x) (more_ends b l y) h in
      let s : (k ≡ l) × (x ≡ y) = more_same b k l x y r.1 in
      (both tree.single m n k l r.0 s.0, s.1)
  items_same b (tree.pair p m v k) (tree.pair q n u l) x y h =
      let r : (m ≡ n) × (spell_colon v (spell_more b k x) ≡ spell_colon u (spell_more b l y))
      = maybe_same m n (spell_colon v (spell_more b k x)) (spell_colon u (spell_more b l y)) (colon_ends b v k x) (colon_ends b u l y) (rest_same _ _ _ _ h) in
      let s : (v ≡ u) × (spell_more b k x ≡ spell_more b l y)
      = colon_same v u (spell_more b k x) (spell_more b l y) (more_ends b k x) (more_ends b l y) (more_no_value b k x) (more_no_value b l y) r.1 in
      let t : (k ≡ l) × (x ≡ y) = more_same b k l x y s.1 in
      (four tree.pair p q m n v u k l (span_same _ _ p q _ _ h) r.0 s.0 t.0, t.1)
  items_same b i j x y h = absurd (items_alike b i j x y h)

  more_same : (b : Brackets) (m n : More) (x y : List Token) → spell_more b m x ≡ spell_more b n y
      → (m ≡ n) × (x ≡ y)
  more_same b (tree.end_more p) (tree.end_more q) x y h = (ap tree.end_more (span_same _ _ p q x y h), rest_same _ _ x y h)
  more_same b (tree.comma p i) (tree.comma q j) x y h =
      let r : (i ≡ j) × (x ≡ y) = items_same b i j x y (rest_same _ _ _ _ h) in
      (both tree.comma p q i j (span_same _ _ p q _ _ h) r.0, r.1)
  more_same b (tree.end_more p) (tree.comma q j) x y h = absurd (comma_apart b p q _ _ h)
  more_same b (tree.comma p i) (tree.end_more q) x y h = absurd (comma_apart b q p _ _ (sym h))

  entries_same : (d e : Entries) (x y : List Token) → spell_entries d x ≡ spell_entries e y
      → (d ≡ e) × (x ≡ y)
  entries_same (tree.end_entries p) (tree.end_entries q) x y h = (ap tree.end_entries (span_same _ _ p q x y h), rest_same _ _ x y h)
  entries_same (tree.entry p m d) (tree.entry q n e) x y h =
      let r : (m ≡ n) × (spell_entries d x ≡ spell_entries e y) = maybe_same m n (spell_entries d x) (spell_entries e y) (entries_end d x) (entries_end e y) (rest_same _ _ _ _ h) in
      let s : (d ≡ e) × (x ≡ y) = entries_same d e x y r.1 in
      (three tree.entry p q m n d e (span_same _ _ p q _ _ h) r.0 s.0, s.1)
  entries_same (tree.end_entries p) (tree.entry q n e) x y h = absurd (dash_apart p q _ _ h)
  entries_same (tree.entry p m d) (tree.end_entries q) x y h = absurd (dash_apart q p _ _ (sym h))

  others_same : (side : Side) (o u : Others) (x y : List Token) → Ends (Block (Some side)) x
      → Ends (Block (Some side)) y → spell_others o x ≡ spell_others u y → (o ≡ u) × (x ≡ y)
  others_same side tree.no_others tree.no_others x y e f h = (refl, h)
  others_same side (tree.other p m o) (tree.other q n u) x y e f h =
      let r : (m ≡ n) × (spell_others o x ≡ spell_others u y) = maybe_same m n (spell_others o x) (spell_others u y) (others_end side o x e) (others_end side u y f) (rest_same _ _ _ _ h) in
      let s : (o ≡ u) × (x ≡ y) = others_same side o u x y e f r.1 in
      (three tree.other p q m n o u (span_same _ _ p q _ _ h) r.0 s.0, s.1)
  others_same side tree.no_others (tree.other q n u) x y e f h = absurd (no_dash side q x _ e h)
  others_same side (tree.other p m o) tree.no_others x y e f h = absurd (no_dash side p y _ f (sym h))

  pairs_same : (c d : Pairs) (x y : List Token) → spell_pairs c x ≡ spell_pairs d y
      → (c ≡ d) × (x ≡ y)
  pairs_same (tree.end_pairs p) (tree.end_pairs q) x y h = (ap tree.end_pairs (span_same _ _ p q x y h), rest_same _ _ x y h)
  pairs_same (tree.block_pair p m v c) (tree.block_pair q n u d) x y h =
      let r : (m ≡ n) × (spell_colon v (spell_pairs c x) ≡ spell_colon u (spell_pairs d y))
      = maybe_same m n (spell_colon v (spell_pairs c x)) (spell_colon u (spell_pairs d y)) (colon_pairs_end v c x) (colon_pairs_end u d y) (rest_same _ _ _ _ h) in
      let s : (v ≡ u) × (spell_pairs c x ≡ spell_pairs d y)
      = colon_same v u (spell_pairs c x) (spell_pairs d y) (pairs_end Value c x) (pairs_end Value d y) (pairs_no_value c x) (pairs_no_value d y) r.1 in
      let t : (c ≡ d) × (x ≡ y) = pairs_same c d x y s.1 in
      (four tree.block_pair p q m n v u c d (span_same _ _ p q _ _ h) r.0 s.0 t.0, t.1)
  pairs_same (tree.end_pairs p) (tree.block_pair q n u d) x y h = absurd (key_apart p q _ _ h)
  pairs_same (tree.block_pair p m v c) (tree.end_pairs q) x y h = absurd (key_apart q p _ _ (sym h))

-- ---- documents

version_same : (p q : Span) (a b c d : ℤ) (x y : List Token)
    → token_at (token.version_directive a b) p ∷ x ≡ token_at (token.version_directive c d) q ∷ y
    → (tree.version p a b ≡ tree.version q c d) × (x ≡ y)
version_same p q a b c d x y h = grind (arith, body_same, three, span_same, rest_same)

handle_same : (p q : Span) (a b c d : List ℕ) (x y : List Token)
    → token_at (token.tag_directive a b) p ∷ x ≡ token_at (token.tag_directive c d) q ∷ y
    → (tree.handle p a b ≡ tree.handle q c d) × (x ≡ y)
handle_same p q a b c d x y h = grind (arith, body_same, three, span_same, rest_same)

-- directives and the `---` after them
abbrev begin : List Directive → Span → List Token → List Token
begin ds p ts = spell_directives ds (token_at token.document_start p ∷ ts)

directives_same : (ds es : List Directive) (p q : Span) (x y : List Token)
    → begin ds p x ≡ begin es q y → (ds ≡ es) × (p ≡ q) × (x ≡ y)
directives_same [] [] p q x y h = (refl, span_same _ _ p q x y h, rest_same _ _ x y h)
directives_same (tree.version s a b ∷ ds) (tree.version t c d ∷ es) p q x y h =
    let v : (tree.version s a b ≡ tree.version t c d) × (begin ds p x ≡ begin es q y) = version_same s t a b c d _ _ h in
    let r : (ds ≡ es) × (p ≡ q) × (x ≡ y) = directives_same ds es p q x y v.1 in
    (both (λ (z : Directive) (zs : List Directive). z ∷ zs) (tree.version s a b) (tree.version t c d) ds es v.0 r.0, r.1, r.2)
directives_same (tree.handle s a b ∷ ds) (tree.handle t c d ∷ es) p q x y h =
    let v : (tree.handle s a b ≡ tree.handle t c d) × (begin ds p x ≡ begin es q y) = handle_same s t a b c d _ _ h in
    let r : (ds ≡ es) × (p ≡ q) × (x ≡ y) = directives_same ds es p q x y v.1 in
    (both (λ (z : Directive) (zs : List Directive). z ∷ zs) (tree.handle s a b) (tree.handle t c d) ds es v.0 r.0, r.1, r.2)
directives_same [] (tree.handle t c d ∷ es) p q x y h = absurd (apart _ _ h (λ k. cc))
directives_same (tree.version s a b ∷ ds) [] p q x y h = absurd (apart _ _ h (λ k. cc))
directives_same (tree.handle s a b ∷ ds) [] p q x y h = absurd (apart _ _ h (λ k. cc))
directives_same (tree.version s a b ∷ ds) (tree.handle t c d ∷ es) p q x y h = absurd (apart _ _ h (λ k. cc))
directives_same _ (tree.version t c d ∷ es) p q x y h = absurd (apart _ _ h (λ k. cc))

no_document_end : (d : Documents) (ts : List Token)
    → kind_of (spell_documents d ts) ≡ kind.YAML_DOCUMENT_END_TOKEN → ⊥
no_document_end (tree.end_stream p) ts h = cc
no_document_end (tree.document [] p n e d) ts h = cc
no_document_end (tree.document (tree.version q major minor ∷ ds) p n e d) ts h = cc
no_document_end (tree.document (tree.handle q name prefix ∷ ds) p n e d) ts h = cc

ends_same : (a b : List Span) (c d : Documents) (x y : List Token)
    → spell_ends a (spell_documents c x) ≡ spell_ends b (spell_documents d y)
    → (a ≡ b) × (spell_documents c x ≡ spell_documents d y)
ends_same [] [] c d x y h = (refl, h)
ends_same (p ∷ a) (q ∷ b) c d x y h =
    let r : (a ≡ b) × (spell_documents c x ≡ spell_documents d y) = ends_same a b c d x y (rest_same _ _ _ _ h) in
    (both (λ (z : Span) (zs : List Span). z ∷ zs) p q a b (span_same _ _ p q _ _ h) r.0, r.1)
ends_same [] (q ∷ b) c d x y h = absurd (no_document_end c x (ap kind_of h))
ends_same (p ∷ a) [] c d x y h = absurd (no_document_end d y (ap kind_of (sym h)))

not_the_end : (ds : List Directive) (p : Span) (ts : List Token)
    → kind_of (begin ds p ts) ≡ kind.YAML_STREAM_END_TOKEN → ⊥
not_the_end [] p ts h = cc
not_the_end (tree.version q major minor ∷ ds) p ts h = cc
not_the_end (tree.handle q name prefix ∷ ds) p ts h = cc

documents_same : (c d : Documents) (x y : List Token) → spell_documents c x ≡ spell_documents d y
    → (c ≡ d) × (x ≡ y)
documents_same (tree.end_stream p) (tree.end_stream q) x y h = (ap tree.end_stream (span_same _ _ p q x y h), rest_same _ _ x y h)
documents_same (tree.document ds p m a c) (tree.document es q n b d) x y h =
    let r = directives_same ds es p q (spell_maybe m (spell_ends a (spell_documents c x))) (spell_maybe n (spell_ends b (spell_documents d y))) h in
    let s = maybe_same m n (spell_ends a (spell_documents c x)) (spell_ends b (spell_documents d y)) (follows_ends Root _ (root_follows a c x)) (follows_ends Root _ (root_follows b d y)) r.2 in
    let t = ends_same a b c d x y s.1 in
    let u = documents_same c d x y t.1 in
    ((ap (λ z. tree.document z p m a c) r.0 ∙ four (tree.document es) p q m n a b c d r.1 s.0 t.0 u.0), u.1)
documents_same (tree.end_stream p) (tree.document es q n b d) x y h = absurd (not_the_end es q _ (ap kind_of (sym h)))
documents_same (tree.document ds p m a c) (tree.end_stream q) x y h = absurd (not_the_end ds p _ (ap kind_of h))

first_same : (m n : First) (c d : Documents) (x y : List Token)
    → spell_first m (spell_documents c x) ≡ spell_first n (spell_documents d y)
    → (m ≡ n) × (spell_documents c x ≡ spell_documents d y)
first_same tree.no_first tree.no_first c d x y h = (refl, h)
first_same (tree.first m a) (tree.first n b) c d x y h =
    let r = node_same m n (spell_ends a (spell_documents c x)) (spell_ends b (spell_documents d y)) (follows_ends Root _ (root_follows a c x)) (follows_ends Root _ (root_follows b d y)) h in
    let s = ends_same a b c d x y r.1 in
    (both tree.first m n a b r.0 s.0, s.1)
first_same tree.no_first (tree.first n b) c d x y h = absurd (no_node n (spell_documents c x) _ (follows_ends Root _ (documents_follow c x)) h)
first_same (tree.first m a) tree.no_first c d x y h = absurd (no_node m (spell_documents d y) _ (follows_ends Root _ (documents_follow d y)) (sym h))

encoding_same : (a b : yaml_encoding_t) (p q : Span) (x y : List Token)
    → token_at (token.stream_start a) p ∷ x ≡ token_at (token.stream_start b) q ∷ y → a ≡ b
encoding_same a b p q x y h = let e : token.stream_start a ≡ token.stream_start b = body_same _ _ p q x y h in cc

stream_same : (s t : Stream) → s.encoding ≡ t.encoding → s.start ≡ t.start → s.first ≡ t.first
    → s.documents ≡ t.documents → s ≡ t
stream_same s t e f g h = grind (arith, four)

pub one_tree : TokensHaveOneTree
one_tree s t x y h = grind (arith, first_same, rest_same, documents_same, stream_same, encoding_same, span_same)
