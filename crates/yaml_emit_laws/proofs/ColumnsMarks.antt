-- Where canonical layout marks an indentation as too deep.
use Rattle.std.proofs.Common.{◌≡◌, ℕ, ◌+◌, ◌-◌, Bool, true, false, not, ◌||◌, ◌&&◌, nat_lt, List, [], ◌∷◌, Option, Some, None, refl, ap, ◌∙◌, codes, chars}
use Rattle.yaml_emit_laws.proofs.Shared.{or-false, yaml_version_directive_t, TagDirective, Settings, scalar_text, tag_spelling, uri_text, quoted_text, is_deep, Layout, ◌▹◌, stay, choose, when, char, word, opener, keep, order_mark, nothing_more, start, written, NodePosition, Scalar, Node, alias_node, scalar_node, sequence_node, mapping_node, Nodes, no_nodes, node, Pairs, no_pairs, pair, Opening, Document, has, scalar_tag, start_tag, Context, context_of, root_position, position, is_simple_part, MOST, deeper, checked, line_at, anchor_text, tag_text, properties_text, mark_text, style_of, page_at, scalar_layout, alias_layout, comma, turned, before_item, question, before_key, before_value, closer, key_part, is_simple, node_layout, items_layout, pairs_layout, dots, version_word, version_text, directive_text, directives_text, is_directed, dashes, is_marked, start_layout, end_layout, stop_layout, documents_layout, stream_layout}
use Rattle.yaml_emit_layout.specs.declared.Style.TheVariants as style
use Rattle.yaml_emit_layout.specs.declared.level.Part.TheVariants as part
use Rattle.yaml_emit_layout.specs.Nodes.{is_kept}
use Rattle.yaml_emit_laws.proofs.ColumnsCalm.{Marks, Calm, both, calms, calm_then, then_calm, stay_calm, when_calm, choose_calm, char_calm, keep_calm, mark_calm, word_calm, opener_calm, line_calm, quoted_calm, checked_marks}

-- ---- what is marked, by the indentation of a node

unfoldable mutual
  pub node_marks : ℕ → ℕ → Node → Bool
  node_marks i m (alias_node name) = false
  node_marks i m (scalar_node x) = nat_lt MOST m
  node_marks i m (sequence_node q items) = nat_lt MOST m || items_marks i (m + i) items
  node_marks i m (mapping_node q pairs) = nat_lt MOST m || pairs_marks i (m + i) pairs

  pub items_marks : ℕ → ℕ → Nodes → Bool
  items_marks i m no_nodes = false
  items_marks i m (node x xs) = node_marks i m x || items_marks i m xs

  pub pairs_marks : ℕ → ℕ → Pairs → Bool
  pairs_marks i m no_pairs = false
  pairs_marks i m (pair k v ps) = node_marks i m k || (node_marks i m v || pairs_marks i m ps)

unfoldable pub documents_marks : ℕ → List Document → Bool
documents_marks i [] = false
documents_marks i (d ∷ ds) = node_marks i i d.root || documents_marks i ds

-- ---- canonical form

abbrev form : Settings → Settings
form s = record s { canonical = true }

abbrev at_form : Settings → List TagDirective → Context
at_form s ds = context_of (form s) ds

line_at_calm : (s : Settings) (n : ℕ) → Calm (line_at s n)
line_at_calm s n = line_calm s.line_break n

anchor_calm : (anchor : Option (List ℕ)) → Calm (anchor_text anchor)
anchor_calm None = stay_calm
anchor_calm (Some name) = word_calm (38 ∷ name)

tag_calm : (p : Context) (tag : Option (List ℕ)) → Calm (tag_text p tag)
tag_calm p None = stay_calm
tag_calm p (Some t) = word_calm (tag_spelling p.directives t)

properties_calm : (p : Context) (anchor tag : Option (List ℕ)) → Calm (properties_text p anchor tag)
properties_calm p anchor tag = calms (anchor_text anchor) (tag_text p tag) (anchor_calm anchor) (tag_calm p tag)

alias_calm : (at : NodePosition) (name : List ℕ) → Calm (alias_layout at name)
unfolding alias_layout
alias_calm at name =
    calms (word (42 ∷ name)) (when (is_simple_part at.part) (char 32)) (word_calm (42 ∷ name)) (when_calm (is_simple_part at.part) (char 32) (char_calm 32))

scalar_marks : (s : Settings) (ds : List TagDirective) (at : NodePosition) (x : Scalar)
    → Marks (nat_lt MOST (deeper (form s) at.around)) (scalar_layout (at_form s ds) at x)
unfolding scalar_layout style_of scalar_text
scalar_marks s ds at x =
    let p = at_form s ds in
    let m = deeper (form s) at.around in
    let text = quoted_text (page_at (form s) at) (chars x.value) in
    let mark = mark_text p x style.Double in
    calm_then (nat_lt MOST m) (properties_text p x.anchor (scalar_tag true x)) (mark ▹ (checked m ▹ text)) (properties_calm p x.anchor (scalar_tag true x))
    (calm_then (nat_lt MOST m) mark (checked m ▹ text) (when_calm (not (has (scalar_tag true x)) && (not x.quoted && true)) (word (33 ∷ [])) (word_calm (33 ∷ [])))
    (then_calm (nat_lt MOST m) (checked m) text (checked_marks m) (quoted_calm (page_at (form s) at) (chars x.value))))

-- ---- what is between nodes

turned_calm : (s : Settings) (n : ℕ) → Calm (turned (form s) n)
unfolding turned
turned_calm s n = line_at_calm (form s) n

comma_calm : (fresh : Bool) → Calm (comma fresh)
comma_calm fresh = when_calm (not fresh) (char 44) (char_calm 44)

before_item_calm : (s : Settings) (n : ℕ) (fresh : Bool) → Calm (before_item (form s) true n fresh)
unfolding before_item
before_item_calm s n fresh = calms (comma fresh) (turned (form s) n) (comma_calm fresh) (turned_calm s n)

before_key_calm : (s : Settings) (n : ℕ) (fresh simple : Bool)
    → Calm (before_key (form s) true n fresh simple)
unfolding before_key
before_key_calm s n fresh simple =
    calms (comma fresh ▹ turned (form s) n) (when (not simple) (question true)) (calms (comma fresh) (turned (form s) n) (comma_calm fresh) (turned_calm s n))
    (when_calm (not simple) (question true) (word_calm (63 ∷ [])))

before_value_calm : (s : Settings) (n : ℕ) (simple : Bool)
    → Calm (before_value (form s) true n simple)
unfolding before_value
before_value_calm s n true = char_calm 58
before_value_calm s n false = calms (turned (form s) n) (word (58 ∷ [])) (turned_calm s n) (word_calm (58 ∷ []))

closer_calm : (s : Settings) (n : ℕ) (fresh : Bool) (x : ℕ) → Calm (closer (form s) true n fresh x)
unfolding closer
closer_calm s n fresh x =
    let due = char 44 ▹ line_at (form s) (n - s.indent) in
    calms (when (not fresh) due) (char x) (when_calm (not fresh) due (calms (char 44) (line_at (form s) (n - s.indent)) (char_calm 44) (line_at_calm (form s) (n - s.indent)))) (char_calm x)

-- ---- nodes

-- what opens a collection, the depth, and what it holds
opened_marks : (p : Context) (anchor tag : Option (List ℕ)) (x m : ℕ) (d : Bool) (held : Layout)
    → Marks d held
    → Marks (nat_lt MOST m || d) (properties_text p anchor tag ▹ (opener x ▹ (checked m ▹ held)))
opened_marks p anchor tag x m d held h =
    let e = nat_lt MOST m || d in
    calm_then e (properties_text p anchor tag) (opener x ▹ (checked m ▹ held)) (properties_calm p anchor tag)
    (calm_then e (opener x) (checked m ▹ held) (opener_calm x) (both (nat_lt MOST m) d (checked m) held (checked_marks m) h))

mutual
  unfolding node_layout items_layout pairs_layout node_marks items_marks pairs_marks

  pub node_is : (s : Settings) (ds : List TagDirective) (at : NodePosition) (n : Node)
      → Marks (node_marks s.indent (deeper (form s) at.around) n) (node_layout (at_form s ds) at n)
  node_is s ds at (alias_node name) = alias_calm at name
  node_is s ds at (scalar_node x) = scalar_marks s ds at x
  node_is s ds at (sequence_node q items) =
      let m = deeper (form s) at.around in
      opened_marks (at_form s ds) q.anchor (start_tag true q) 91 m (items_marks s.indent (m + s.indent) items) (items_layout (at_form s ds) true m true items) (items_are s ds m true items)
  node_is s ds at (mapping_node q pairs) =
      let m = deeper (form s) at.around in
      opened_marks (at_form s ds) q.anchor (start_tag true q) 123 m (pairs_marks s.indent (m + s.indent) pairs) (pairs_layout (at_form s ds) true m true pairs) (pairs_are s ds m true pairs)

  pub items_are : (s : Settings) (ds : List TagDirective) (n : ℕ) (fresh : Bool) (ns : Nodes)
      → Marks (items_marks s.indent (n + s.indent) ns) (items_layout (at_form s ds) true n fresh ns)
  items_are s ds n fresh no_nodes = closer_calm s n fresh 93
  items_are s ds n fresh (node x xs) =
      let p = at_form s ds in
      let a = node_layout p (position true n part.Item) x in
      let more = items_layout p true n false xs in
      let d = node_marks s.indent (n + s.indent) x in
      let e = items_marks s.indent (n + s.indent) xs in
      calm_then (d || e) (before_item (form s) true n fresh) (a ▹ more) (before_item_calm s n fresh) (both d e a more (node_is s ds (position true n part.Item) x) (items_are s ds n false xs))

  pub pairs_are : (s : Settings) (ds : List TagDirective) (n : ℕ) (fresh : Bool) (ps : Pairs)
      → Marks (pairs_marks s.indent (n + s.indent) ps) (pairs_layout (at_form s ds) true n fresh ps)
  pairs_are s ds n fresh no_pairs = closer_calm s n fresh 125
  pairs_are s ds n fresh (pair k v ps) =
      let p = at_form s ds in
      let simple = is_simple p k in
      let key = node_layout p (position true n (key_part simple)) k in
      let value = node_layout p (position true n part.Value) v in
      let more = pairs_layout p true n false ps in
      let colon = before_value (form s) true n simple in
      let d = node_marks s.indent (n + s.indent) k in
      let e = node_marks s.indent (n + s.indent) v in
      let f = pairs_marks s.indent (n + s.indent) ps in
      calm_then (d || (e || f)) (before_key (form s) true n fresh simple) (key ▹ (colon ▹ (value ▹ more))) (before_key_calm s n fresh simple)
      (both d (e || f) key (colon ▹ (value ▹ more))
      (node_is s ds (position true n (key_part simple)) k)
      (calm_then (e || f) colon (value ▹ more) (before_value_calm s n simple) (both e f value more (node_is s ds (position true n part.Value) v) (pairs_are s ds n false ps))))

-- ---- documents

dots_calm : (s : Settings) → Calm (dots s)
dots_calm s = calms (word (46 ∷ 46 ∷ 46 ∷ [])) (line_at s 0) (word_calm (46 ∷ 46 ∷ 46 ∷ [])) (line_at_calm s 0)

version_calm : (s : Settings) (v : Option yaml_version_directive_t) → Calm (version_text s v)
version_calm s None = stay_calm
version_calm s (Some v) =
    calms (word (codes "%YAML")) (word (version_word v) ▹ line_at s 0) (word_calm (codes "%YAML")) (calms (word (version_word v)) (line_at s 0) (word_calm (version_word v)) (line_at_calm s 0))

directive_calm : (s : Settings) (d : TagDirective) → Calm (directive_text s d)
directive_calm s d =
    calms (word (codes "%TAG")) (word d.handle ▹ (word (uri_text true d.prefix) ▹ line_at s 0)) (word_calm (codes "%TAG"))
    (calms (word d.handle) (word (uri_text true d.prefix) ▹ line_at s 0) (word_calm d.handle)
    (calms (word (uri_text true d.prefix)) (line_at s 0) (word_calm (uri_text true d.prefix)) (line_at_calm s 0)))

directives_calm : (s : Settings) (ds : List TagDirective) → Calm (directives_text s ds)
unfolding directives_text
directives_calm s [] = stay_calm
directives_calm s (d ∷ ds) = calms (directive_text s d) (directives_text s ds) (directive_calm s d) (directives_calm s ds)

dashes_calm : (s : Settings) → Calm (dashes s)
dashes_calm s =
    calms (line_at s 0) (word (45 ∷ 45 ∷ 45 ∷ []) ▹ when s.canonical (line_at s 0)) (line_at_calm s 0)
    (calms (word (45 ∷ 45 ∷ 45 ∷ [])) (when s.canonical (line_at s 0)) (word_calm (45 ∷ 45 ∷ 45 ∷ [])) (when_calm s.canonical (line_at s 0) (line_at_calm s 0)))

start_calm : (s : Settings) (first unended : Bool) (o : Opening)
    → Calm (start_layout s first unended o)
unfolding start_layout
start_calm s first unended o =
    let parted = when (unended && is_directed o) (dots s) in
    let marked = when (is_marked s first o) (dashes s) in
    let directed = directives_text s o.directives ▹ marked in
    calms parted (keep false ▹ (version_text s o.version ▹ directed)) (when_calm (unended && is_directed o) (dots s) (dots_calm s))
    (calms (keep false) (version_text s o.version ▹ directed) (keep_calm false)
    (calms (version_text s o.version) directed (version_calm s o.version)
    (calms (directives_text s o.directives) marked (directives_calm s o.directives) (when_calm (is_marked s first o) (dashes s) (dashes_calm s)))))

documents_are : (s : Settings) (first unended : Bool) (ds : List Document)
    → Marks (documents_marks s.indent ds) (documents_layout (form s) first unended ds)
unfolding documents_layout documents_marks end_layout stop_layout
documents_are s first unended [] = when_calm unended (choose is_kept (dots (form s)) stay) (choose_calm is_kept (dots (form s)) stay (dots_calm (form s)) stay_calm)
documents_are s first unended (d ∷ ds) =
    let m = node_marks s.indent s.indent d.root in
    let more = documents_marks s.indent ds in
    let root = node_layout (at_form s d.opening.directives) root_position d.root in
    let ended = end_layout (form s) d.implicit_end in
    let left = documents_layout (form s) false d.implicit_end ds in
    calm_then (m || more) (start_layout (form s) first unended d.opening) (root ▹ (ended ▹ left)) (start_calm (form s) first unended d.opening)
    (both m more root (ended ▹ left) (node_is s d.opening.directives root_position d.root) (calm_then more ended left (calms (line_at (form s) 0) (when (not d.implicit_end) (dots (form s))) (line_at_calm (form s) 0) (when_calm (not d.implicit_end) (dots (form s)) (dots_calm (form s)))) (documents_are s false d.implicit_end ds)))

stream_marks : (s : Settings) (ds : List Document)
    → Marks (documents_marks s.indent ds) (stream_layout (form s) ds)
unfolding stream_layout
stream_marks s ds =
    calm_then (documents_marks s.indent ds) (order_mark s.encoding) (documents_layout (form s) true false ds) (mark_calm s.encoding) (documents_are s true false ds)

-- what the whole text marks
pub written_marks : (s : Settings) (ds : List Document) → s.canonical ≡ true
    → is_deep (written (stream_layout s ds)) ≡ documents_marks s.indent ds
unfolding is_deep
written_marks s ds e =
    ap (λ (z : Settings). is_deep (written (stream_layout z ds))) (ap (λ (c : Bool). record s { canonical = c }) e) ∙ stream_marks s ds false nothing_more (λ c. refl) start ∙ or-false (documents_marks s.indent ds)
