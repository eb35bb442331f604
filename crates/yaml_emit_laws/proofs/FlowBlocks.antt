-- All nodes in brackets, and collections in brackets at positions of a block.
use Rattle.std.proofs.Common.{◌≡◌, ℕ, ◌+◌, ◌&&◌, not, nat_lt, Bool, true, false, List, [], ◌∷◌, refl, subst, ◌∙◌, arith, chars, true≢false, ◌≤◌, ◌||◌, sym, ap, inl, inr, None, Some, Option}
use Rattle.yaml_emit_layout.specs.scan_types.Tokens as tokens
use Rattle.yaml_emit_laws.proofs.NodeWords.{TokenBody, TagDirective, Settings, Style, letter, Layout, Rest, ◌▹◌, when, char, opener, letters, word, line, scalar_text, deep_bytes, Part, Scalar, Start, Opening, Node, alias_node, scalar_node, sequence_node, mapping_node, Nodes, no_nodes, node, Pairs, no_pairs, pair, has, start_tag, scalar_tag, Context, position, checked, MOST, is_simple, is_simple_part, is_plain, key_part, style_of, page_at, node_layout, alias_layout, scalar_layout, items_layout, pairs_layout, context_of, deeper, indented, indent_of, are_none, are_no_pairs, properties_text, Left, bytes, IsWritable, AreItemsWritable, ArePairsWritable, IsWritableOpening, IsWritableAnchor, IsWritableTag, StylesAreAllowed, place, style_at, scalar_kept, node_bodies, items_bodies, pairs_bodies, node_kept, items_kept, pairs_kept, is_flow_at, keeps, sequence_opens, sequence_closes, mapping_opens, mapping_closes, IsPretty, NodeWalks, PropertiesAreWalked, block_position, is_bracketed, KeysAreWalkedIn, BracketsFollow, pretty_of, pretty, false≢true, yaml_encoding_t, column_at, indent, Cursor, anchor_bodies, tag_bodies, WalkState, Outside, begins_white, margin_round, NodeStage, GoesBehindNode}
use Rattle.yaml_emit_layout.specs.declared.Style.TheVariants as style
use Rattle.yaml_emit_layout.specs.declared.level.Part.TheVariants as part
use Rattle.yaml_emit_laws.proofs.FlowItems.{WordLaws, properties_in, scalar_in, alias_in, NodeIn, BodyIn, KeyIn, FirstItems, MoreItems, FirstPairs, MorePairs, items_none, items_closed, items_first, items_more, pairs_none, pairs_closed, pairs_first, pairs_more, bracket_in, opened_in}
use Rattle.yaml_emit_laws.proofs.FlowSigns.{prettily, Spaced, gap_spaced, checked_spaced, properties_spaced, mark_spaced, text_spaced, space_parts, opening_of, opens}
use Rattle.yaml_emit_laws.proofs.Lining.{line_ends}
use Rattle.yaml_emit_laws.proofs.SpokenWords.{bare_off}
use Rattle.yaml_emit_laws.proofs.NearKeys.{kept_writable}

-- ---- what nodes begin with

abbrev pub bracket : ℕ → Layout
bracket x c rest = letter x ∷ rest (record { column = c.column + 1; white = true; bare = false; kept = c.kept })

pub node_spaced : (s : Settings) (ds : List TagDirective) (y : Node) (n : ℕ) (q : Part)
    (rest : Rest) → Spaced (λ e. node_layout (prettily s ds) (position true n q) y e rest)
unfolding node_layout alias_layout scalar_layout
node_spaced s ds (alias_node name) n q rest = gap_spaced (letters (42 ∷ name) ▹ when (is_simple_part q) (char 32)) rest
node_spaced s ds (scalar_node x) n q rest =
    let p = prettily s ds in
    let at = position true n q in
    let st = style_of p at x in
    let k = n + s.indent in
    let text = scalar_text (page_at p.settings at) p.settings.indent true st (chars x.value) in
    let m = not (has (scalar_tag false x)) && (not x.quoted && not (is_plain st)) in
    properties_spaced p x.anchor (scalar_tag false x) (when m (word (33 ∷ [])) ▹ (checked k ▹ text)) rest
    (mark_spaced m (checked k ▹ text) rest (checked_spaced k text rest (text_spaced (page_at p.settings at) p.settings.indent st (chars x.value) rest)))
node_spaced s ds (sequence_node o items) n q rest =
    let p = prettily s ds in
    let m = n + s.indent in
    let a = checked m ▹ items_layout p true m true items in
    properties_spaced p o.anchor (start_tag false o) (opener 91 ▹ a) rest (gap_spaced (bracket 91 ▹ a) rest)
node_spaced s ds (mapping_node o pairs) n q rest =
    let p = prettily s ds in
    let m = n + s.indent in
    let a = checked m ▹ pairs_layout p true m true pairs in
    properties_spaced p o.anchor (start_tag false o) (opener 123 ▹ a) rest (gap_spaced (bracket 123 ▹ a) rest)

-- ---- nodes

pub body_checked : (n : ℕ) (a : Layout) (B : List TokenBody → List TokenBody) (ls : List ℕ)
    (rest : Rest) → BodyIn a B ls rest → BodyIn (checked n ▹ a) B ls rest
body_checked n a B ls rest body c bare x text o d cs T r deep now out l = body c bare x text o d cs T r deep now out (subst (λ (bs : List ℕ). Left text o.at bs) (deep_bytes (nat_lt MOST n) (a c rest)) l)

sequence_in : WordLaws → (d : Opening) → IsWritableOpening d
    → (s : Settings) (o : Start) (items : Nodes) → IsWritableAnchor o.anchor → IsWritableTag o.tag
    → FirstItems s d.directives items → NodeIn s d.directives (sequence_node o items)
unfolding node_layout node_bodies
sequence_in laws d fine s o items anchor tag all n q part bare ls low rest follows c =
    let p = prettily s d.directives in
    let m = n + s.indent in
    let a = checked m ▹ items_layout p true m true items in
    let B : List TokenBody → List TokenBody = λ bs. items_bodies p true true items (tokens.flow_sequence_end ∷ bs) in
    let body = body_checked m (items_layout p true m true items) B ls rest (all m ls (omega (arith, low)) rest) in
    properties_in laws d fine s ls o.anchor (start_tag false o) anchor (kept_writable (not o.implicit) o.tag tag) (opener 91 ▹ a) (λ bs. tokens.flow_sequence_start ∷ B bs) rest (gap_spaced (bracket 91 ▹ a) rest)
    (λ e. bracket_in false a B ls rest body e) c

mapping_in : WordLaws → (d : Opening) → IsWritableOpening d
    → (s : Settings) (o : Start) (pairs : Pairs) → IsWritableAnchor o.anchor → IsWritableTag o.tag
    → FirstPairs s d.directives pairs → NodeIn s d.directives (mapping_node o pairs)
unfolding node_layout node_bodies
mapping_in laws d fine s o pairs anchor tag all n q part bare ls low rest follows c =
    let p = prettily s d.directives in
    let m = n + s.indent in
    let a = checked m ▹ pairs_layout p true m true pairs in
    let B : List TokenBody → List TokenBody = λ bs. pairs_bodies p true true pairs (tokens.flow_mapping_end ∷ bs) in
    let body = body_checked m (pairs_layout p true m true pairs) B ls rest (all m ls (omega (arith, low)) rest) in
    properties_in laws d fine s ls o.anchor (start_tag false o) anchor (kept_writable (not o.implicit) o.tag tag) (opener 123 ▹ a) (λ bs. tokens.flow_mapping_start ∷ B bs) rest (gap_spaced (bracket 123 ▹ a) rest)
    (λ e. bracket_in true a B ls rest body e) c

pub pretty_fine : (s : Settings) (d : Opening) → IsPretty s d → IsPretty (pretty_of s) d
pretty_fine s d is = record { pretty = refl; least = is.least; most = is.most; fine = is.fine }

key_in : WordLaws → KeysAreWalkedIn → (s : Settings) (d : Opening) → IsPretty s d → (k : Node)
    → IsWritable k → NodeIn s d.directives k → KeyIn s d.directives k
key_in laws keys s d is k good walks = record {
  simple = λ e. keys (pretty_of s) d (pretty_fine s d is) k good e;
  node = walks;
  starts = λ n rest. node_spaced s d.directives k n part.Key rest;
}

mutual
  pub node_in : WordLaws → KeysAreWalkedIn → (s : Settings) (d : Opening) → IsPretty s d
      → (y : Node) → IsWritable y → NodeIn s d.directives y
  node_in laws keys s d is (alias_node name) good = λ n q part bare ls low rest follows c. alias_in laws s d.directives name good n q part bare ls rest follows c
  node_in laws keys s d is (scalar_node x) (anchor, tag, u) = λ n q part bare ls low rest follows c. let least = is.least in scalar_in laws d is.fine s (omega (arith, least)) x anchor tag u n q bare ls low rest follows c
  node_in laws keys s d is (sequence_node o items) (anchor, tag, all) = sequence_in laws d is.fine s o items anchor tag (first_in laws keys s d is items all)
  node_in laws keys s d is (mapping_node o pairs) (anchor, tag, all) = mapping_in laws d is.fine s o pairs anchor tag (first_pairs_in laws keys s d is pairs all)

  pub first_in : WordLaws → KeysAreWalkedIn → (s : Settings) (d : Opening) → IsPretty s d
      → (xs : Nodes) → AreItemsWritable xs → FirstItems s d.directives xs
  first_in laws keys s d is no_nodes good = items_none s d.directives
  first_in laws keys s d is (node y ys) (one, all) = items_first s d.directives y ys (node_in laws keys s d is y one) (more_in laws keys s d is ys all)

  more_in : WordLaws → KeysAreWalkedIn → (s : Settings) (d : Opening) → IsPretty s d → (xs : Nodes)
      → AreItemsWritable xs → MoreItems s d.directives xs
  more_in laws keys s d is no_nodes good = items_closed s d.directives
  more_in laws keys s d is (node y ys) (one, all) = items_more s d.directives y ys (items_first s d.directives y ys (node_in laws keys s d is y one) (more_in laws keys s d is ys all))

  pub first_pairs_in : WordLaws → KeysAreWalkedIn → (s : Settings) (d : Opening) → IsPretty s d
      → (ps : Pairs) → ArePairsWritable ps → FirstPairs s d.directives ps
  first_pairs_in laws keys s d is no_pairs good = pairs_none s d.directives
  first_pairs_in laws keys s d is (pair k v ps) (gk, gv, all) =
      pairs_first s d.directives k v ps (key_in laws keys s d is k gk (node_in laws keys s d is k gk)) (λ n rest. node_spaced s d.directives v n part.Value rest) (node_in laws keys s d is v gv) (more_pairs_in laws keys s d is ps all)

  more_pairs_in : WordLaws → KeysAreWalkedIn → (s : Settings) (d : Opening) → IsPretty s d
      → (ps : Pairs) → ArePairsWritable ps → MorePairs s d.directives ps
  more_pairs_in laws keys s d is no_pairs good = pairs_closed s d.directives
  more_pairs_in laws keys s d is (pair k v ps) (gk, gv, all) =
      pairs_more s d.directives k v ps
      (pairs_first s d.directives k v ps (key_in laws keys s d is k gk (node_in laws keys s d is k gk)) (λ n rest. node_spaced s d.directives v n part.Value rest) (node_in laws keys s d is v gv) (more_pairs_in laws keys s d is ps all))

-- ---- no block scalar is in brackets

scalar_keeps : StylesAreAllowed → (p : Context) (q : Part) (x : Scalar) (st : Style)
    → style_at p true q x ≡ st → (kept : Bool) → scalar_kept st x.value kept ≡ kept
scalar_keeps styles p q x style.Literal same kept = let no_flow = ((styles p (place true q) x).2 same).1 in absurd (true≢false no_flow)
scalar_keeps styles p q x style.Folded same kept = let no_flow = ((styles p (place true q) x).3 same).1 in absurd (true≢false no_flow)
scalar_keeps styles p q x _ same kept = refl

mutual
  unfolding node_kept items_kept pairs_kept

  node_keeps : StylesAreAllowed
      → (s : Settings) (ds : List TagDirective) (y : Node) (q : Part) (kept : Bool)
      → node_kept (prettily s ds) true q y kept ≡ kept
  node_keeps styles s ds (alias_node name) q kept = refl
  node_keeps styles s ds (scalar_node x) q kept = scalar_keeps styles (prettily s ds) q x (style_at (prettily s ds) true q x) refl kept
  node_keeps styles s ds (sequence_node o items) q kept = items_keep styles s ds items kept
  node_keeps styles s ds (mapping_node o pairs) q kept = pairs_keep styles s ds pairs kept

  pub items_keep : StylesAreAllowed
      → (s : Settings) (ds : List TagDirective) (xs : Nodes) (kept : Bool)
      → items_kept (prettily s ds) true xs kept ≡ kept
  items_keep styles s ds no_nodes kept = refl
  items_keep styles s ds (node y ys) kept = items_keep styles s ds ys (node_kept (prettily s ds) true part.Item y kept) ∙ node_keeps styles s ds y part.Item kept

  pub pairs_keep : StylesAreAllowed
      → (s : Settings) (ds : List TagDirective) (ps : Pairs) (kept : Bool)
      → pairs_kept (prettily s ds) true ps kept ≡ kept
  pairs_keep styles s ds no_pairs kept = refl
  pairs_keep styles s ds (pair k v ps) kept =
      let p = prettily s ds in
      let q = key_part (is_simple p k) in
      pairs_keep styles s ds ps (node_kept p true part.Value v (node_kept p true q k kept)) ∙ node_keeps styles s ds v part.Value (node_kept p true q k kept) ∙ node_keeps styles s ds k q kept

-- ==== Collections in brackets at positions of a block.

-- ---- brackets, after properties or without

opened_block : (mapping : Bool) (a : Layout) (B : List TokenBody → List TokenBody) (ls : List ℕ)
    (rest : Rest) → BodyIn a B ls rest
    → (c : Cursor) (x : yaml_encoding_t) (text : List ℕ) (o : WalkState)
    (T : List TokenBody → List TokenBody) → NodeStage x text c o ls [] T
    → indent ls ≤ column_at text o.at
    → Left text o.at (bytes ((opener (opening_of mapping) ▹ a) c rest))
    → GoesBehindNode x text rest c.kept ls (λ bs. T (opens mapping ∷ B bs))
unfolding Outside
opened_block mapping a B ls rest body c x text o T st right l =
    let g = opened_in mapping a B ls rest body c x text o [] T st.reads (inr right) (inl tt) l in
    record {
      behind = g.behind;
      place = g.place;
      more = [];
      stage = record {
        reads = g.reads;
        flat = g.deep ∙ st.flat;
        broken = g.broken ∙ ap (λ (d : ℕ). not (nat_lt 0 d)) st.flat;
        bare = λ b. absurd (bare_off g.behind.bare g.bare b);
        line = g.reads.stands.line;
      };
      left = g.left;
      bare = g.bare;
      same = g.same;
    }

-- after properties
dressed_block : PropertiesAreWalked → (s : Settings) (d : Opening) → IsPretty s d
    → (anchor tag : Option (List ℕ)) → IsWritableAnchor anchor → IsWritableTag tag
    → (has anchor || has tag) ≡ true
    → (mapping : Bool) (a : Layout) (B : List TokenBody → List TokenBody) (ls : List ℕ)
    (rest : Rest) → BodyIn a B ls rest
    → (c : Cursor) (x : yaml_encoding_t) (text : List ℕ) (o : WalkState)
    (T : List TokenBody → List TokenBody) → NodeStage x text c o ls [] T
    → indent ls ≤ column_at text o.at
    → Left text o.at (bytes ((properties_text (prettily s d.directives) anchor tag ▹
    (opener (opening_of mapping) ▹ a)) c rest))
    → GoesBehindNode x text rest c.kept ls (λ bs. T
    (anchor_bodies anchor (tag_bodies d.directives tag (opens mapping ∷ B bs))))
dressed_block law s d is anchor tag good fine some mapping a B ls rest body c x text o T st right l =
    let after : Rest = λ e. (opener (opening_of mapping) ▹ a) e rest in
    let g = law (pretty s) d (pretty_fine s d is) anchor tag good fine some ls c after (λ e bare white. space_parts (bytes ((opener (opening_of mapping) ▹ a) e rest)) (gap_spaced (bracket (opening_of mapping) ▹ a) rest e white)) x text o T st right l in
    let h = opened_block mapping a B ls rest body g.cursor x text g.place (λ bs. T (anchor_bodies anchor (tag_bodies d.directives tag bs))) g.stage g.right g.left in
    subst (λ (k : Bool). GoesBehindNode x text rest k ls (λ bs. T (anchor_bodies anchor (tag_bodies d.directives tag (opens mapping ∷ B bs))))) g.same h

any_block : PropertiesAreWalked → (s : Settings) (d : Opening) → IsPretty s d
    → (anchor tag : Option (List ℕ)) → IsWritableAnchor anchor → IsWritableTag tag
    → (mapping : Bool) (a : Layout) (B : List TokenBody → List TokenBody) (ls : List ℕ)
    (rest : Rest) → BodyIn a B ls rest
    → (c : Cursor) (x : yaml_encoding_t) (text : List ℕ) (o : WalkState)
    (T : List TokenBody → List TokenBody) → NodeStage x text c o ls [] T
    → indent ls ≤ column_at text o.at
    → Left text o.at (bytes ((properties_text (prettily s d.directives) anchor tag ▹
    (opener (opening_of mapping) ▹ a)) c rest))
    → GoesBehindNode x text rest c.kept ls (λ bs. T
    (anchor_bodies anchor (tag_bodies d.directives tag (opens mapping ∷ B bs))))
any_block law s d is None None good fine mapping a B ls rest body c x text o T st right l = opened_block mapping a B ls rest body c x text o T st right l
any_block law s d is None (Some t) good fine mapping a B ls rest body c x text o T st right l = dressed_block law s d is None (Some t) good fine refl mapping a B ls rest body c x text o T st right l
any_block law s d is (Some name) tag good fine mapping a B ls rest body c x text o T st right l = dressed_block law s d is (Some name) tag good fine refl mapping a B ls rest body c x text o T st right l

-- ---- the layout, the tokens and what is kept

sequence_laid : (s : Settings) (ds : List TagDirective) (around : Option ℕ) (q : Part) (o : Start)
    (items : Nodes) → is_flow_at (prettily s ds) false o (are_none items) ≡ true
    → let m = deeper (pretty s) around in
    node_layout (prettily s ds) (block_position around q) (sequence_node o items) ≡ (properties_text (prettily s ds) o.anchor (start_tag false o) ▹ (opener 91 ▹ (checked m ▹ items_layout (prettily s ds) true m true items)))
unfolding node_layout
sequence_laid s ds around q o items flow =
    let p = prettily s ds in
    let at = block_position around q in
    ap (λ (b : Bool). properties_text p o.anchor (start_tag false o) ▹ (when b (opener 91) ▹ indented (indent_of p.settings at true b) (λ m. checked m ▹ items_layout p b m true items))) flow

mapping_laid : (s : Settings) (ds : List TagDirective) (around : Option ℕ) (q : Part) (o : Start)
    (pairs : Pairs) → is_flow_at (prettily s ds) false o (are_no_pairs pairs) ≡ true
    → let m = deeper (pretty s) around in
    node_layout (prettily s ds) (block_position around q) (mapping_node o pairs) ≡ (properties_text (prettily s ds) o.anchor (start_tag false o) ▹ (opener 123 ▹ (checked m ▹ pairs_layout (prettily s ds) true m true pairs)))
unfolding node_layout
mapping_laid s ds around q o pairs flow =
    let p = prettily s ds in
    let at = block_position around q in
    ap (λ (b : Bool). properties_text p o.anchor (start_tag false o) ▹ (when b (opener 123) ▹ indented (indent_of p.settings at false b) (λ m. checked m ▹ pairs_layout p b m true pairs))) flow

-- the same tokens
abbrev Same : (List TokenBody → List TokenBody) → (List TokenBody → List TokenBody) → Type 0
Same B C = B ≡ C

sequence_told : (p : Context) (q : Part) (bare : Bool) (o : Start) (items : Nodes)
    → is_flow_at p false o (are_none items) ≡ true
    → Same (λ bs. anchor_bodies o.anchor
    (tag_bodies p.directives (start_tag false o)
    (tokens.flow_sequence_start ∷ items_bodies p true true items (tokens.flow_sequence_end ∷ bs))))
    (λ bs. node_bodies p false q bare (sequence_node o items) bs)
unfolding node_bodies
sequence_told p q bare o items flow =
    let told : Bool → List TokenBody → List TokenBody = λ b bs. anchor_bodies o.anchor (tag_bodies p.directives (start_tag false o) (sequence_opens b (keeps q bare o) (items_bodies p b true items (sequence_closes b (keeps q bare o) bs)))) in
    ap (λ (b : Bool). told b) (sym flow)

mapping_told : (p : Context) (q : Part) (bare : Bool) (o : Start) (pairs : Pairs)
    → is_flow_at p false o (are_no_pairs pairs) ≡ true
    → Same (λ bs. anchor_bodies o.anchor
    (tag_bodies p.directives (start_tag false o)
    (tokens.flow_mapping_start ∷ pairs_bodies p true true pairs (tokens.flow_mapping_end ∷ bs))))
    (λ bs. node_bodies p false q bare (mapping_node o pairs) bs)
unfolding node_bodies
mapping_told p q bare o pairs flow =
    let told : Bool → List TokenBody → List TokenBody = λ b bs. anchor_bodies o.anchor (tag_bodies p.directives (start_tag false o) (mapping_opens b (pairs_bodies p b true pairs (mapping_closes b bs)))) in
    ap (λ (b : Bool). told b) (sym flow)

margin_deep : (s : Settings) → 2 ≤ s.indent → (around : Option ℕ)
    → margin_round around ≤ deeper (pretty s) around
margin_deep s least None = omega arith
margin_deep s least (Some n) = omega (arith, least)

-- ---- nodes

-- whatever its layout, its tokens and what it keeps are said to be
bracketed : PropertiesAreWalked → (s : Settings) (d : Opening) → IsPretty s d
    → (around : Option ℕ) (q : Part) (bare : Bool) (y : Node) (anchor tag : Option (List ℕ))
    → IsWritableAnchor anchor → IsWritableTag tag
    → (mapping : Bool) (a : Layout) (B : List TokenBody → List TokenBody)
    → ((ls : List ℕ) (rest : Rest) → indent ls ≡ margin_round around → BodyIn a B ls rest)
    → node_layout (prettily s d.directives) (block_position around q) y
    ≡ (properties_text (prettily s d.directives) anchor tag ▹ (opener (opening_of mapping) ▹ a))
    → Same (λ bs. anchor_bodies anchor (tag_bodies d.directives tag (opens mapping ∷ B bs)))
    (λ bs. node_bodies (prettily s d.directives) false q bare y bs)
    → ((kept : Bool) → kept ≡ node_kept (prettily s d.directives) false q y kept)
    → NodeWalks (prettily s d.directives) around q bare y
bracketed law s d is around q bare y anchor tag good fine mapping a B body laid told kept_so = record {
  walks = λ ls c m after here level low ending x text o T st right l.
      let p = prettily s d.directives in
      let R : Rest = λ e. line s.line_break m e after in
      let k = node_kept p false q y c.kept in
      let g = any_block law s d is anchor tag good fine mapping a B ls R (body ls R level) c x text o T st right (subst (λ (b : Layout). Left text o.at (bytes (b c R))) laid l) in
      let h = subst (λ (U : List TokenBody → List TokenBody). GoesBehindNode x text R c.kept ls (λ bs. T (U bs))) told g in
      let i = subst (λ (b : Bool). GoesBehindNode x text R b ls (λ bs. T (node_bodies p false q bare y bs))) (kept_so c.kept) h in
      line_ends s.line_break m x text k ls (λ bs. T (node_bodies p false q bare y bs)) after ending.feed i;
  white = λ c m after white.
      let p = prettily s d.directives in
      let R : Rest = λ e. line s.line_break m e after in
      subst (λ (b : Layout). begins_white (bytes (b c R)) ≡ true) (sym laid)
      (space_parts (bytes ((properties_text p anchor tag ▹ (opener (opening_of mapping) ▹ a)) c R)) (properties_spaced p anchor tag (opener (opening_of mapping) ▹ a) R (gap_spaced (bracket (opening_of mapping) ▹ a) R) c white));
}

node_brackets : WordLaws → KeysAreWalkedIn → PropertiesAreWalked → (s : Settings) (d : Opening)
    → IsPretty s d → (y : Node) → IsWritable y → is_bracketed (prettily s d.directives) y ≡ true
    → (around : Option ℕ) (q : Part) (bare : Bool)
    → NodeWalks (prettily s d.directives) around q bare y
unfolding node_kept
node_brackets laws keys law s d is (sequence_node o items) (anchor, tag, all) flow around q bare =
    let p = prettily s d.directives in
    let m = deeper (pretty s) around in
    let least = is.least in
    let up = margin_deep s least around in
    bracketed law s d is around q bare (sequence_node o items) o.anchor (start_tag false o) anchor (kept_writable (not o.implicit) o.tag tag) false (checked m ▹ items_layout p true m true items) (λ bs. items_bodies p true true items (tokens.flow_sequence_end ∷ bs))
    (λ ls rest level. body_checked m (items_layout p true m true items) (λ bs. items_bodies p true true items (tokens.flow_sequence_end ∷ bs)) ls rest (first_in laws keys s d is items all m ls (omega (arith, level, up)) rest))
    (sequence_laid s d.directives around q o items flow) (sequence_told p q bare o items flow) (λ kept. (sym (ap (λ (b : Bool). items_kept (prettily s d.directives) b items kept) flow ∙ items_keep laws.styles s d.directives items kept)))
node_brackets laws keys law s d is (mapping_node o pairs) (anchor, tag, all) flow around q bare =
    let p = prettily s d.directives in
    let m = deeper (pretty s) around in
    let least = is.least in
    let up = margin_deep s least around in
    bracketed law s d is around q bare (mapping_node o pairs) o.anchor (start_tag false o) anchor (kept_writable (not o.implicit) o.tag tag) true (checked m ▹ pairs_layout p true m true pairs) (λ bs. pairs_bodies p true true pairs (tokens.flow_mapping_end ∷ bs))
    (λ ls rest level. body_checked m (pairs_layout p true m true pairs) (λ bs. pairs_bodies p true true pairs (tokens.flow_mapping_end ∷ bs)) ls rest (first_pairs_in laws keys s d is pairs all m ls (omega (arith, level, up)) rest))
    (mapping_laid s d.directives around q o pairs flow) (mapping_told p q bare o pairs flow) (λ kept. (sym (ap (λ (b : Bool). pairs_kept (prettily s d.directives) b pairs kept) flow ∙ pairs_keep laws.styles s d.directives pairs kept)))
node_brackets laws keys law s d is _ good flow around q bare = absurd (false≢true flow)

pretty_context : (s : Settings) (ds : List TagDirective) → s.canonical ≡ false
    → prettily s ds ≡ context_of s ds
pretty_context s ds e = ap (λ (c : Bool). context_of (record { encoding = s.encoding; canonical = c; indent = s.indent; width = s.width; unicode = s.unicode; line_break = s.line_break }) ds) (sym e)

pub brackets_walk : WordLaws → BracketsFollow
brackets_walk laws keys law s d is y good flow around q bare part =
    let e = pretty_context s d.directives is.pretty in
    subst (λ (p : Context). NodeWalks p around q bare y) e (node_brackets laws keys law s d is y good (subst (λ (p : Context). is_bracketed p y ≡ true) (sym e) flow) around q bare)
