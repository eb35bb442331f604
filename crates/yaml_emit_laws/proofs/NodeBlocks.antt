-- Block collections with their properties.
use Rattle.std.proofs.Common.{◌≡◌, ℕ, ◌+◌, ◌<◌, ◌≤◌, ◌&&◌, ◌||◌, not, nat_lt, Bool, true, false, List, [], ◌∷◌, refl, sym, ap, subst, ◌∙◌, arith, Option, Some, None, inl, inr}
use Rattle.yaml_emit_laws.proofs.NodeWords.{and-false, and-true, yaml_encoding_t, TokenBody, TagDirective, column_at, indent, Cursor, Settings, Layout, Rest, ◌▹◌, when, line, opener, Part, Start, Opening, Node, Nodes, node, Pairs, pair, sequence_node, mapping_node, alias_node, scalar_node, no_nodes, no_pairs, start_tag, Context, context_of, MOST, is_of_mapping, is_flow, checked, indented, indent_of, block_indent_in, properties_text, tag_text, node_layout, items_layout, pairs_layout, before_item, before_key, is_simple_part, anchor_bodies, tag_bodies, Left, bytes, IsWritableAnchor, IsWritableTag, IsWritable, AreItemsWritable, ArePairsWritable, deep_bytes, WalkState, begins_white, margin_round, keeps, is_bare, is_flow_at, node_bodies, items_bodies, pairs_bodies, sequence_opens, sequence_closes, mapping_opens, mapping_closes, node_kept, items_kept, pairs_kept, style_at, NodeStage, LinedUp, Ending, NodeWalks, IsPretty, PropertiesAreWalked, PartedBehind, block_position, column_round, is_place, NodesAreWalked, LeavesAreWalked, BlockScalarsAreWalked, is_block, BracketsAreWalked, SimpleKeysAreWalked, kept_writable, cases_Bool}
use Rattle.yaml_emit_layout.specs.scan_types.Tokens as tokens
use Rattle.yaml_emit_layout.specs.declared.level.Part.TheVariants as part
use Rattle.yaml_emit_laws.proofs.Lining.{line_begins_white, word_begins_white, up_says}
use Rattle.yaml_emit_laws.proofs.NodePairs.{BlockWalks, MoreItems, sequence_walks, loose_walks, more_none, more_item, PairWalks, PairsWalk, mapping_walks}

-- ---- properties, or none

-- after a collection's properties, if it has any
record Opened (x : yaml_encoding_t) (text : List ℕ) (rest : Rest) (kept bare : Bool) (ls : List ℕ) (T : List TokenBody → List TokenBody) : Type 0 where
  cursor : Cursor
  place : WalkState
  stage : NodeStage x text cursor place ls [] T
  left : Left text place.at (bytes (rest cursor))
  right : indent ls ≤ column_at text place.at
  same : cursor.kept ≡ kept
  is : cursor.bare ≡ bare

opens_on : PropertiesAreWalked → (s : Settings) (d : Opening) → IsPretty s d
    → (a t : Option (List ℕ)) → IsWritableAnchor a → IsWritableTag t
    → (ls : List ℕ) (c : Cursor) (rest : Rest) → PartedBehind rest
    → (x : yaml_encoding_t) (text : List ℕ) (o : WalkState) (T : List TokenBody → List TokenBody)
    → NodeStage x text c o ls [] T → indent ls ≤ column_at text o.at
    → Left text o.at (bytes (properties_text (context_of s d.directives) a t c rest))
    → Opened x text rest c.kept (c.bare && is_bare a t) ls
    (λ bs. T (anchor_bodies a (tag_bodies d.directives t bs)))
opens_on law s d pretty None None good fine ls c rest parted x text o T st right l = record { cursor = c; place = o; stage = st; left = l; right = right; same = refl; is = sym (and-true c.bare) }
opens_on law s d pretty (Some a) t good fine ls c rest parted x text o T st right l =
    let h = law s d pretty (Some a) t good fine refl ls c rest parted x text o T st right l in
    record { cursor = h.cursor; place = h.place; stage = h.stage; left = h.left; right = h.right; same = h.same; is = h.bare ∙ sym (and-false c.bare) }
opens_on law s d pretty None (Some t) good fine ls c rest parted x text o T st right l =
    let h = law s d pretty None (Some t) good fine refl ls c rest parted x text o T st right l in
    record { cursor = h.cursor; place = h.place; stage = h.stage; left = h.left; right = h.right; same = h.same; is = h.bare ∙ sym (and-false c.bare) }

properties_white : (p : Context) (a t : Option (List ℕ)) (c : Cursor) (rest : Rest)
    → c.white ≡ false → begins_white (bytes (rest c)) ≡ true
    → begins_white (bytes (properties_text p a t c rest)) ≡ true
properties_white p None None c rest white next = next
properties_white p (Some a) t c rest white next = word_begins_white (38 ∷ a) c (λ e. tag_text p t e rest) white
properties_white p None (Some t) c rest white next = word_begins_white _ c rest white

-- ---- layouts

sequence_layout : (s : Settings) (ds : List TagDirective) (around : Option ℕ) (q : Part) (o : Start)
    (y : Node) (ys : Nodes) → s.canonical ≡ false
    → is_flow_at (context_of s ds) false o false ≡ false → (c : Cursor) (R : Rest)
    → node_layout (context_of s ds) (block_position around q) (sequence_node o (node y ys)) c R
    ≡ properties_text (context_of s ds) o.anchor (start_tag false o) c
    (λ e. indented (indent_of s (block_position around q) true false)
    (λ n. checked n ▹ items_layout (context_of s ds) false n true (node y ys)) e R)
unfolding node_layout
sequence_layout s ds around q o y ys pretty block c R =
    let p = context_of s ds in
    let at = block_position around q in
    let body : Bool → Layout = λ b. when b (opener 91) ▹ indented (indent_of s at true b) (λ n. checked n ▹ items_layout p b n true (node y ys)) in
    ap (λ (t : Bool). (properties_text p o.anchor (start_tag t o) ▹ body (is_flow s at o false)) c R) pretty
    ∙ ap (λ (b : Bool). (properties_text p o.anchor (start_tag false o) ▹ body b) c R) block

mapping_layout : (s : Settings) (ds : List TagDirective) (around : Option ℕ) (q : Part) (o : Start)
    (k v : Node) (ps : Pairs) → s.canonical ≡ false
    → is_flow_at (context_of s ds) false o false ≡ false → (c : Cursor) (R : Rest)
    → node_layout (context_of s ds) (block_position around q) (mapping_node o (pair k v ps)) c R
    ≡ properties_text (context_of s ds) o.anchor (start_tag false o) c
    (λ e. indented (indent_of s (block_position around q) false false)
    (λ n. checked n ▹ pairs_layout (context_of s ds) false n true (pair k v ps)) e R)
unfolding node_layout
mapping_layout s ds around q o k v ps pretty block c R =
    let p = context_of s ds in
    let at = block_position around q in
    let body : Bool → Layout = λ b. when b (opener 123) ▹ indented (indent_of s at false b) (λ n. checked n ▹ pairs_layout p b n true (pair k v ps)) in
    ap (λ (t : Bool). (properties_text p o.anchor (start_tag t o) ▹ body (is_flow s at o false)) c R) pretty
    ∙ ap (λ (b : Bool). (properties_text p o.anchor (start_tag false o) ▹ body b) c R) block

sequence_said : (p : Context) (q : Part) (bare : Bool) (o : Start) (y : Node) (ys : Nodes)
    → is_flow_at p false o false ≡ false → (bs : List TokenBody)
    → anchor_bodies o.anchor (tag_bodies p.directives (start_tag false o)
    (sequence_opens false (keeps q bare o)
    (items_bodies p false true (node y ys) (sequence_closes false (keeps q bare o) bs))))
    ≡ node_bodies p false q bare (sequence_node o (node y ys)) bs
unfolding node_bodies
sequence_said p q bare o y ys block bs =
    sym (ap (λ (b : Bool). anchor_bodies o.anchor (tag_bodies p.directives (start_tag false o) (sequence_opens b (keeps q bare o) (items_bodies p b true (node y ys) (sequence_closes b (keeps q bare o) bs))))) block)

mapping_said : (p : Context) (q : Part) (bare : Bool) (o : Start) (k v : Node) (ps : Pairs)
    → is_flow_at p false o false ≡ false → (bs : List TokenBody)
    → anchor_bodies o.anchor (tag_bodies p.directives (start_tag false o)
    (mapping_opens false (pairs_bodies p false true (pair k v ps) (mapping_closes false bs))))
    ≡ node_bodies p false q bare (mapping_node o (pair k v ps)) bs
unfolding node_bodies
mapping_said p q bare o k v ps block bs =
    sym (ap (λ (b : Bool). anchor_bodies o.anchor (tag_bodies p.directives (start_tag false o) (mapping_opens b (pairs_bodies p b true (pair k v ps) (mapping_closes b bs))))) block)

-- ---- after the properties

-- all items of a sequence at whatever column
pub record ItemsWalk (p : Context) (y : Node) (ys : Nodes) : Type 0 where
  pub first : (n : ℕ) → NodeWalks p (Some n) part.Item true y
  pub others : (n : ℕ) → MoreItems p n ys

-- by whether it keeps the indentation round it
items_on : (p : Context) (around : Option ℕ) (q : Part) (loose : Bool) (y : Node) (ys : Nodes)
    → 1 < p.settings.indent → is_place around q ≡ true → ItemsWalk p y ys
    → (x : yaml_encoding_t) (text : List ℕ) (c : Cursor) (o : WalkState) (ls : List ℕ) (m : ℕ)
    (after : Rest) (T : List TokenBody → List TokenBody)
    → NodeStage x text c o ls [] T → indent ls ≡ margin_round around → m ≤ column_round around
    → Ending p.settings.line_break m (indent ls) after → (is_of_mapping q && not c.bare) ≡ loose
    → Left text o.at (bytes (items_layout p false (block_indent_in p.settings around loose) true
    (node y ys) c (λ e. line p.settings.line_break m e after)))
    → LinedUp x text after m (items_kept p false (node y ys) c.kept) ls
    (λ bs. T (sequence_opens false loose
    (items_bodies p false true (node y ys) (sequence_closes false loose bs))))
items_on p None q false y ys deep place walk x text c o ls m after T s level up ending loose l = sequence_walks p 0 y ys (walk.first 0) (walk.others 0) x text c o ls m after T s (omega (arith, level)) up ending l
items_on p (Some n) q false y ys deep place walk x text c o ls m after T s level up ending loose l =
    let k = n + p.settings.indent in
    sequence_walks p k y ys (walk.first k) (walk.others k) x text c o ls m after T s (omega (arith, level, deep)) (omega (arith, up)) ending l
items_on p None q true y ys deep place walk x text c o ls m after T s level up ending loose l = absurd (root_keeps (is_of_mapping q) (not c.bare) place loose)
  where
    root_keeps : (a b : Bool) → not a ≡ true → (a && b) ≡ true → ⊥
    root_keeps true b e f = absurd (cc)
    root_keeps false b e f = absurd (cc)
items_on p (Some n) q true y ys deep place walk x text c o ls m after T s level up ending loose l = loose_walks p n y ys (walk.first n) (walk.others n) x text c o ls m after T s level up ending l

-- ---- collections

-- A block collection by what it holds at a column: after its properties, where that begins with a line.
block_collection : PropertiesAreWalked → (s : Settings) (d : Opening) → IsPretty s d
    → (around : Option ℕ) (q : Part) (bare : Bool) (y : Node) (a t : Option (List ℕ))
    → IsWritableAnchor a → IsWritableTag t
    → (column : Cursor → ℕ) (held : ℕ → Layout) (B : List TokenBody → List TokenBody)
    (K : Bool → Bool)
    → ((c : Cursor) (R : Rest) → node_layout (context_of s d.directives) (block_position around q) y c
    R ≡ properties_text (context_of s d.directives) a t c
    (λ e. indented column (λ n. checked n ▹ held n) e R))
    → ((n : ℕ) (e : Cursor) (R : Rest) → e.white ≡ false → begins_white (bytes (held n e R)) ≡ true)
    → ((bs : List TokenBody) → anchor_bodies a (tag_bodies d.directives t (B bs))
    ≡ node_bodies (context_of s d.directives) false q bare y bs)
    → ((kept : Bool) → K kept ≡ node_kept (context_of s d.directives) false q y kept)
    → ((x : yaml_encoding_t) (text : List ℕ) (c : Cursor) (o : WalkState) (ls : List ℕ) (m : ℕ)
    (after : Rest) (T : List TokenBody → List TokenBody)
    → NodeStage x text c o ls [] T → indent ls ≡ margin_round around → m ≤ column_round around
    → Ending s.line_break m (indent ls) after → c.bare ≡ (bare && is_bare a t)
    → Left text o.at (bytes (held (column c) c (λ e. line s.line_break m e after)))
    → LinedUp x text after m (K c.kept) ls (λ bs. T (B bs)))
    → NodeWalks (context_of s d.directives) around q bare y
block_collection law s d pretty around q bare y a t good fine column held B K laid white said keeps walk = record {
  walks = λ ls c m after is level up ending x text w T st right l.
      let p = context_of s d.directives in
      let R : Rest = λ e. line s.line_break m e after in
      let body : Rest = λ e. indented column (λ n. checked n ▹ held n) e R in
      let l1 = subst (λ t. Left text w.at (bytes t)) (laid c R) l in
      let h = opens_on law s d pretty a t good fine ls c body (λ e b f. inside e R f) x text w T st right l1 in
      let e = h.cursor in
      let l2 = subst (λ (bs : List ℕ). Left text h.place.at bs) (deep_bytes (nat_lt MOST (column e)) (held (column e) e R)) h.left in
      let all = walk x text e h.place ls m after (λ bs. T (anchor_bodies a (tag_bodies d.directives t bs))) h.stage level up ending (h.is ∙ ap (λ (b : Bool). b && is_bare a t) is) l2 in
      let told = up_says x text after m (K e.kept) ls _ (λ bs. T (node_bodies p false q bare y bs)) all (λ bs. ap (λ ts. T ts) (said bs)) in
      subst (λ k. LinedUp x text after m k ls (λ bs. T (node_bodies p false q bare y bs))) (ap (λ k. K k) h.same ∙ keeps c.kept) told;
  white = λ c m after f.
      let R : Rest = λ e. line s.line_break m e after in
      ap (λ t. begins_white (bytes t)) (laid c R) ∙ properties_white (context_of s d.directives) a t c (λ e. indented column (λ n. checked n ▹ held n) e R) f (inside c R f);
}
  where
    inside : (e : Cursor) (R : Rest) → e.white ≡ false
        → begins_white (bytes (indented column (λ n. checked n ▹ held n) e R)) ≡ true
    inside e R f = ap (λ bs. begins_white bs) (deep_bytes (nat_lt MOST (column e)) (held (column e) e R)) ∙ white (column e) e R f

-- ---- block sequences

pub block_sequence : PropertiesAreWalked → (s : Settings) (d : Opening) → IsPretty s d
    → (around : Option ℕ) (q : Part) (bare : Bool) → is_place around q ≡ true
    → (o : Start) (y : Node) (ys : Nodes) → IsWritableAnchor o.anchor → IsWritableTag o.tag
    → is_flow_at (context_of s d.directives) false o false ≡ false
    → ItemsWalk (context_of s d.directives) y ys
    → NodeWalks (context_of s d.directives) around q bare (sequence_node o (node y ys))
unfolding items_layout before_item node_kept
block_sequence law s d pretty around q bare place o y ys good fine block walk =
    let p = context_of s d.directives in
    let loose = keeps q bare o in
    let least = pretty.least in
    block_collection law s d pretty around q bare (sequence_node o (node y ys)) o.anchor (start_tag false o) good (kept_writable (false || not o.implicit) o.tag fine)
    (indent_of s (block_position around q) true false) (λ n. items_layout p false n true (node y ys)) (λ bs. sequence_opens false loose (items_bodies p false true (node y ys) (sequence_closes false loose bs))) (λ kept. items_kept p false (node y ys) kept)
    (sequence_layout s d.directives around q o y ys pretty.pretty block) (λ n e R white. line_begins_white s.line_break n e _ white) (sequence_said p q bare o y ys block) (λ kept. (sym (ap (λ (b : Bool). items_kept p b (node y ys) kept) block)))
    (λ x text c w ls m after T st level up ending is l.
    let same : (is_of_mapping q && not c.bare) ≡ loose = ap (λ (b : Bool). is_of_mapping q && not b) is in
    items_on p around q loose y ys (omega (arith, least)) place walk x text c w ls m after T st level up ending same
    (subst (λ (b : Bool). Left text w.at (bytes (items_layout p false (block_indent_in s around b) true (node y ys) c (λ e. line s.line_break m e after)))) same l))

-- ---- block mappings

-- all pairs of a mapping at whatever column
pub record BothWalk (p : Context) (k v : Node) (ps : Pairs) : Type 0 where
  pub first : (n : ℕ) → PairWalks p n k v
  pub others : (n : ℕ) → PairsWalk p n ps

pairs_on : (p : Context) (around : Option ℕ) (k v : Node) (ps : Pairs) → 1 < p.settings.indent
    → BothWalk p k v ps
    → BlockWalks p (λ ls. indent ls ≡ margin_round around) (column_round around)
    (pairs_layout p false (block_indent_in p.settings around false) true (pair k v ps))
    (pairs_kept p false (pair k v ps)) (λ bs. tokens.block_mapping_start
    ∷ pairs_bodies p false true (pair k v ps) (tokens.block_end ∷ bs))
pairs_on p None k v ps deep walk x text c o ls m after T s level up ending l = mapping_walks p 0 k v ps (walk.first 0) (walk.others 0) x text c o ls m after T s (omega (arith, level)) up ending l
pairs_on p (Some n) k v ps deep walk x text c o ls m after T s level up ending l =
    let i = n + p.settings.indent in
    mapping_walks p i k v ps (walk.first i) (walk.others i) x text c o ls m after T s (omega (arith, level, deep)) (omega (arith, up)) ending l

pub block_mapping : PropertiesAreWalked → (s : Settings) (d : Opening) → IsPretty s d
    → (around : Option ℕ) (q : Part) (bare : Bool) → (o : Start) (k v : Node) (ps : Pairs)
    → IsWritableAnchor o.anchor → IsWritableTag o.tag
    → is_flow_at (context_of s d.directives) false o false ≡ false
    → BothWalk (context_of s d.directives) k v ps
    → NodeWalks (context_of s d.directives) around q bare (mapping_node o (pair k v ps))
unfolding pairs_layout before_key node_kept
block_mapping law s d pretty around q bare o k v ps good fine block walk =
    let p = context_of s d.directives in
    let least = pretty.least in
    block_collection law s d pretty around q bare (mapping_node o (pair k v ps)) o.anchor (start_tag false o) good (kept_writable (false || not o.implicit) o.tag fine)
    (indent_of s (block_position around q) false false) (λ n. pairs_layout p false n true (pair k v ps)) (λ bs. mapping_opens false (pairs_bodies p false true (pair k v ps) (mapping_closes false bs))) (λ kept. pairs_kept p false (pair k v ps) kept)
    (mapping_layout s d.directives around q o k v ps pretty.pretty block) (λ n e R white. line_begins_white s.line_break n e _ white) (mapping_said p q bare o k v ps block) (λ kept. (sym (ap (λ (b : Bool). pairs_kept p b (pair k v ps) kept) block)))
    (λ x text c w ls m after T st level up ending is l. pairs_on p around k v ps (omega (arith, least)) walk x text c w ls m after T st level up ending l)

-- ==== All nodes of blocks, by induction.

-- the laws of leaves, brackets, properties and simple keys
record Parts : Type 0 where
  leaves : LeavesAreWalked
  blocks : BlockScalarsAreWalked
  brackets : BracketsAreWalked
  properties : PropertiesAreWalked
  keys : SimpleKeysAreWalked

-- what is walked as a node is no simple key
place_whole : (around : Option ℕ) (q : Part) → is_place around q ≡ true → is_simple_part q ≡ false
place_whole around q e = grind arith

none_flows : (a b c : Bool) → (a || (b || (c || true))) ≡ false → ⊥
none_flows a b c e = grind arith

mutual
  node_on : Parts → (s : Settings) (d : Opening) → IsPretty s d → (y : Node) → IsWritable y
      → (around : Option ℕ) (q : Part) (bare : Bool) → is_place around q ≡ true
      → NodeWalks (context_of s d.directives) around q bare y
  node_on laws s d pretty (alias_node name) fine around q bare place = laws.leaves s d pretty (alias_node name) fine around q bare (place_whole around q place) refl refl
  node_on laws s d pretty (scalar_node v) fine around q bare place = elim (cases_Bool (is_block (style_at (context_of s d.directives) false q v))) [
    | inl e ↦ laws.blocks s d pretty v fine around q bare (place_whole around q place) e
    | inr e ↦ laws.leaves s d pretty (scalar_node v) fine around q bare (place_whole around q place) refl e
  ]
  node_on laws s d pretty (sequence_node o no_nodes) fine around q bare place = elim (cases_Bool (is_flow_at (context_of s d.directives) false o true)) [
    | inl e ↦ laws.brackets s d pretty (sequence_node o no_nodes) fine e around q bare (place_whole around q place)
    | inr e ↦ absurd (none_flows s.canonical false o.flow e)
  ]
  node_on laws s d pretty (sequence_node o (node y ys)) (anchor, tag, (one, all)) around q bare place = elim (cases_Bool (is_flow_at (context_of s d.directives) false o false)) [
    | inl e ↦ laws.brackets s d pretty (sequence_node o (node y ys)) (anchor, tag, (one, all)) e around q bare (place_whole around q place)
    | inr e ↦ block_sequence laws.properties s d pretty around q bare place o y ys anchor tag e (record { first = λ n. node_on laws s d pretty y one (Some n) part.Item true refl; others = λ n. all_items_on laws s d pretty ys all n })
  ]
  node_on laws s d pretty (mapping_node o no_pairs) fine around q bare place = elim (cases_Bool (is_flow_at (context_of s d.directives) false o true)) [
    | inl e ↦ laws.brackets s d pretty (mapping_node o no_pairs) fine e around q bare (place_whole around q place)
    | inr e ↦ absurd (none_flows s.canonical false o.flow e)
  ]
  node_on laws s d pretty (mapping_node o (pair k v ps)) (anchor, tag, (key, value, all)) around q bare place = elim (cases_Bool (is_flow_at (context_of s d.directives) false o false)) [
    | inl e ↦ laws.brackets s d pretty (mapping_node o (pair k v ps)) (anchor, tag, (key, value, all)) e around q bare (place_whole around q place)
    | inr e ↦ block_mapping laws.properties s d pretty around q bare o k v ps anchor tag e (record {
      first = λ n. record {
        simple = λ is. laws.keys s d pretty k key is;
        asked = node_on laws s d pretty k key (Some n) part.Key true refl;
        value = λ b. node_on laws s d pretty v value (Some n) part.Value b refl;
      };
      others = λ n. all_pairs_on laws s d pretty ps all n;
    })
  ]

  all_items_on : Parts → (s : Settings) (d : Opening) → IsPretty s d → (ys : Nodes)
      → AreItemsWritable ys → (n : ℕ) → MoreItems (context_of s d.directives) n ys
  all_items_on laws s d pretty no_nodes fine n = more_none (context_of s d.directives) n
  all_items_on laws s d pretty (node y ys) (one, all) n = more_item (context_of s d.directives) n y ys (node_on laws s d pretty y one (Some n) part.Item true refl) (all_items_on laws s d pretty ys all n)

  all_pairs_on : Parts → (s : Settings) (d : Opening) → IsPretty s d → (ps : Pairs)
      → ArePairsWritable ps → (n : ℕ) → PairsWalk (context_of s d.directives) n ps
  all_pairs_on laws s d pretty no_pairs fine n = tt
  all_pairs_on laws s d pretty (pair k v ps) (key, value, all) n = (
    record {
      simple = λ is. laws.keys s d pretty k key is;
      asked = node_on laws s d pretty k key (Some n) part.Key true refl;
      value = λ b. node_on laws s d pretty v value (Some n) part.Value b refl;
    },
    all_pairs_on laws s d pretty ps all n,
  )

pub nodes_walk : LeavesAreWalked → BlockScalarsAreWalked → BracketsAreWalked → PropertiesAreWalked
    → SimpleKeysAreWalked → NodesAreWalked
nodes_walk leaves blocks brackets properties keys s d pretty y fine around q bare place = node_on (record { leaves = leaves; blocks = blocks; brackets = brackets; properties = properties; keys = keys }) s d pretty y fine around q bare place
