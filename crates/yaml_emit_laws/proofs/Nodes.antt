-- The words of a node, and of what it holds.
use Rattle.std.proofs.Common.{◌≡◌, ℕ, suc, ◌+◌, ◌-◌, ◌<◌, ◌&&◌, not, nat_lt, Bool, true, false, List, [], ◌∷◌, Option, Some, None, refl, sym, ap, subst, ◌∙◌, arith, if◌then◌else◌, chars}
use Rattle.yaml_emit_laws.proofs.Shared.{nat_tests, GapReads, AnchorReads, Kind, YAML_DOUBLE_QUOTED_SCALAR_STYLE, TokenBody, TagDirective, Cursor, Settings, LineBreak, Layout, Rest, ◌▹◌, gap, blank, char, letters, word, when, stay, opener, line, tag_spelling, quoted_text, scalar_text, NodePosition, Opening, Scalar, Start, Node, alias_node, scalar_node, sequence_node, mapping_node, Nodes, no_nodes, node, Pairs, no_pairs, pair, has, Context, context_of, is_simple_part, position, key_part, deeper, checked, MOST, anchor_text, tag_text, page_at, style_of, scalar_layout, alias_layout, is_simple, is_simple_scalar, is_simple_alias, is_simple_start, turned, before_item, before_key, before_value, closer, node_layout, items_layout, pairs_layout, put_if, properties_kinds, node_kinds, items_kinds, pairs_kinds, anchor_bodies, tag_bodies, mark_bodies, node_bodies, items_bodies, pairs_bodies, bytes, Walks, first, parts, Parts, IsWritableOpening, IsWritableAnchor, IsWritableTag, IsWritable, AreItemsWritable, ArePairsWritable, QuotedIsReadBack, NodesAreWords}
use Rattle.yaml_scan_history.specs.declared.kind.Kind.TheVariants as kinds
use Rattle.yaml_emit_layout.specs.scan_types.Tokens as tokens
use Rattle.yaml_emit_layout.specs.declared.level.Part.TheVariants as part
use Rattle.yaml_emit_laws.specs.Canonical.{is_marked}
use Rattle.yaml_emit_laws.proofs.Forms.{canonically, BeginsBlank, TagWalks, MarkWalks}
use Rattle.yaml_emit_laws.proofs.Steps.{walks_line, walks_checked, both, deep_bytes, letter_low}
use Rattle.yaml_emit_laws.proofs.Words.{comma_walks, sequence_closes, mapping_closes, sequence_opens, mapping_opens, key_walks, value_walks, alias_walks, anchor_walks, quoted_walks}

-- ---- what begins with a space

gap_blank : (a : Layout) (rest : Rest) → BeginsBlank (gap ▹ a) rest
gap_blank a rest e w =
    let d : Cursor = record { column = e.column + 1; white = true; bare = e.bare; kept = e.kept } in
    record {
      more = bytes (a d rest);
      same = ap (λ (b : Bool). bytes (if b then a e rest else blank e (λ k. a k rest))) w ∙ letter_low 32 (a d rest) refl;
    }

checked_blank : (n : ℕ) (a : Layout) (rest : Rest) → BeginsBlank a rest
    → BeginsBlank (checked n ▹ a) rest
checked_blank n a rest h e w = let s = h e w in record { more = s.more; same = deep_bytes (nat_lt MOST n) (a e rest) ∙ s.same }

tag_blank : (p : Context) (tag : Option (List ℕ)) (a : Layout) (rest : Rest) → BeginsBlank a rest
    → BeginsBlank (tag_text p tag ▹ a) rest
tag_blank p None a rest h = h
tag_blank p (Some t) a rest h = gap_blank (letters (tag_spelling p.directives t) ▹ a) rest

mark_blank : (m : Bool) (a : Layout) (rest : Rest) → BeginsBlank a rest
    → BeginsBlank (when m (word (33 ∷ [])) ▹ a) rest
mark_blank true a rest h = gap_blank (letters (33 ∷ []) ▹ a) rest
mark_blank false a rest h = h

-- ---- properties

anchor_if : GapReads → AnchorReads → (anchor : Option (List ℕ)) → IsWritableAnchor anchor
    → (b : Layout) (K : List Kind → List Kind) (B : List TokenBody → List TokenBody) (d e : ℕ)
    (rest : Rest)
    → BeginsBlank b rest → ((c : Cursor) → Walks b K B d e c rest) → (c : Cursor)
    → Walks (anchor_text anchor ▹ b) (λ ks. K (put_if (has anchor) kinds.Anchor ks))
    (λ bs. anchor_bodies anchor (B bs)) d e c rest
anchor_if law names None good b K B d e rest spaced w c = w c
anchor_if law names (Some name) (some, are) b K B d e rest spaced w c = anchor_walks law names name some are b K B d e rest spaced w c

tag_if : (p : Context) → TagWalks p.directives → (tag : Option (List ℕ)) → IsWritableTag tag
    → (b : Layout) (K : List Kind → List Kind) (B : List TokenBody → List TokenBody) (d e : ℕ)
    (rest : Rest)
    → BeginsBlank b rest → ((c : Cursor) → Walks b K B d e c rest) → (c : Cursor)
    → Walks (tag_text p tag ▹ b) (λ ks. K (put_if (has tag) kinds.Tag ks))
    (λ bs. tag_bodies p.directives tag (B bs)) d e c rest
tag_if p tags None good b K B d e rest spaced w c = w c
tag_if p tags (Some t) good b K B d e rest spaced w c = tags t good b K B d e rest spaced w c

mark_if : MarkWalks
    → (m : Bool) (b : Layout) (K : List Kind → List Kind) (B : List TokenBody → List TokenBody)
    (d e : ℕ) (rest : Rest)
    → BeginsBlank b rest → ((c : Cursor) → Walks b K B d e c rest) → (c : Cursor)
    → Walks (when m (word (33 ∷ [])) ▹ b) (λ ks. K (put_if m kinds.Tag ks))
    (λ bs. mark_bodies m (B bs)) d e c rest
mark_if mark true b K B d e rest spaced w c = mark b K B d e rest spaced w c
mark_if mark false b K B d e rest spaced w c = w c

properties_if : GapReads → AnchorReads → (p : Context) → TagWalks p.directives
    → (anchor tag : Option (List ℕ)) → IsWritableAnchor anchor → IsWritableTag tag
    → (b : Layout) (K : List Kind → List Kind) (B : List TokenBody → List TokenBody) (d e : ℕ)
    (rest : Rest)
    → BeginsBlank b rest → ((c : Cursor) → Walks b K B d e c rest) → (c : Cursor)
    → Walks (anchor_text anchor ▹ (tag_text p tag ▹ b)) (λ ks. K (properties_kinds anchor tag ks))
    (λ bs. anchor_bodies anchor (tag_bodies p.directives tag (B bs))) d e c rest
properties_if law names p tags anchor tag ga gt b K B d e rest spaced w c =
    anchor_if law names anchor ga (tag_text p tag ▹ b) (λ ks. K (put_if (has tag) kinds.Tag ks)) (λ bs. tag_bodies p.directives tag (B bs)) d e rest (tag_blank p tag b rest spaced)
    (λ k. tag_if p tags tag gt b K B d e rest spaced w k) c

-- ---- leaves

deep_page : (s : Settings) (around : Option ℕ) → 0 < s.indent → 0 < deeper s around
deep_page s around h = grind (arith, nat_tests)

marked_so : (a b : Bool) → (a && (b && true)) ≡ (a && b)
marked_so true true = refl
marked_so true false = refl
marked_so false b = refl

scalar_walks : GapReads → AnchorReads → QuotedIsReadBack → MarkWalks
    → (s : Settings) (ds : List TagDirective) → TagWalks ds → 0 < s.indent → (x : Scalar)
    → IsWritable (scalar_node x) → (at : NodePosition)
    → (d : ℕ) (c : Cursor) (rest : Rest)
    → Walks (scalar_layout (canonically s ds) at x) (node_kinds (scalar_node x))
    (node_bodies ds (scalar_node x)) d d c rest
unfolding scalar_layout style_of scalar_text node_kinds node_bodies
scalar_walks law names quoted mark s ds tags some x (ga, gt, utf8) at d c rest =
    let p = canonically s ds in
    let page = page_at p.settings at in
    let deep = deep_page p.settings at.around some in
    let inner = checked (deeper p.settings at.around) ▹ quoted_text page (chars x.value) in
    let K : List Kind → List Kind = λ ks. kinds.DoubleQuoted ∷ ks in
    let B : List TokenBody → List TokenBody = λ bs. tokens.scalar x.value YAML_DOUBLE_QUOTED_SCALAR_STYLE ∷ bs in
    let blank : BeginsBlank inner rest = checked_blank (deeper p.settings at.around) (quoted_text page (chars x.value)) rest (gap_blank _ rest) in
    let walk : (k : Cursor) → Walks inner K B d d k rest = λ k. walks_checked (deeper p.settings at.around) (quoted_text page (chars x.value)) K B d d k rest (quoted_walks law quoted page x.value utf8 deep d k rest) in
    let whole = properties_if law names p tags x.anchor x.tag ga gt (when (is_marked x) (word (33 ∷ [])) ▹ inner) (λ ks. K (put_if (is_marked x) kinds.Tag ks)) (λ bs. mark_bodies (is_marked x) (B bs)) d d rest
    (mark_blank (is_marked x) inner rest blank) (λ k. mark_if mark (is_marked x) inner K B d d rest blank walk k) c in
    subst (λ (m : Bool). Walks (anchor_text x.anchor ▹ (tag_text p x.tag ▹ (when m (word (33 ∷ [])) ▹ inner))) (node_kinds (scalar_node x)) (node_bodies ds (scalar_node x)) d d c rest) (sym (marked_so (not (has x.tag)) (not x.quoted))) whole

when_off : (b : Bool) (a : Layout) → b ≡ false → when b a ≡ stay
when_off b a e = rw e refl

alias_goes : GapReads → AnchorReads → (name : List ℕ) → IsWritable (alias_node name)
    → (at : NodePosition)
    → is_simple_part at.part ≡ false → (d : ℕ) (c : Cursor) (rest : Rest) → Parts rest
    → Walks (alias_layout at name) (λ ks. kinds.Alias ∷ ks) (λ bs. tokens.alias name ∷ bs) d d c
    rest
unfolding alias_layout
alias_goes law names name (some, are) at off d c rest ends =
    subst (λ (a : Layout). Walks (word (42 ∷ name) ▹ a) (λ ks. kinds.Alias ∷ ks) (λ bs. tokens.alias name ∷ bs) d d c rest) (sym (when_off (is_simple_part at.part) (char 32) off))
    (alias_walks law names name some are d c rest ends)

-- ---- what follows

pub line_parts : (b : LineBreak) (n : ℕ) (a : Layout) (rest : Rest)
    → Parts (λ c. (line b n ▹ a) c rest)
unfolding line
line_parts b n a rest e bare = grind (arith, letter_low)

comma_parts : (a : Layout) (rest : Rest) → Parts (λ c. (char 44 ▹ a) c rest)
comma_parts a rest e bare = ap (λ (bs : List ℕ). parts (first bs)) (letter_low 44 _ refl)

more_parts : (p : Context) → p.settings.canonical ≡ true → (n : ℕ) (ns : Nodes) (rest : Rest)
    → Parts (λ c. items_layout p true n false ns c rest)
unfolding items_layout before_item closer
more_parts p canon n no_nodes rest = grind (arith, nat_tests, comma_parts)
more_parts p canon n (node x xs) rest = comma_parts (turned p.settings n ▹ (node_layout p (position true n part.Item) x ▹ items_layout p true n false xs)) rest

more_pair_parts : (p : Context) → p.settings.canonical ≡ true → (n : ℕ) (ps : Pairs) (rest : Rest)
    → Parts (λ c. pairs_layout p true n false ps c rest)
unfolding pairs_layout before_key closer
more_pair_parts p canon n no_pairs rest = grind (arith, nat_tests, comma_parts)
more_pair_parts p canon n (pair k v ps) rest = grind (arith, nat_tests, comma_parts)

-- ---- no key is simple

not_simple : (s : Settings) (ds : List TagDirective) (n : Node)
    → is_simple (canonically s ds) n ≡ false
unfolding is_simple is_simple_scalar is_simple_alias is_simple_start
not_simple s ds n = grind (arith, nat_tests)

-- ---- collections

abbrev pub NodeWalks : Settings → List TagDirective → Node → Type 0
NodeWalks s ds n = (at : NodePosition) → is_simple_part at.part ≡ false → (d : ℕ) (c : Cursor) (rest : Rest) → Parts rest → Walks (node_layout (canonically s ds) at n) (node_kinds n) (node_bodies ds n) d d c rest

abbrev FirstWalks : Settings → List TagDirective → Nodes → Type 0
FirstWalks s ds ns = (n d : ℕ) (c : Cursor) (rest : Rest) → c.bare ≡ false
    → Walks (items_layout (canonically s ds) true n true ns) (λ ks. kinds.FlowSequenceEnd ∷ items_kinds ns ks) (λ bs. items_bodies ds ns (tokens.flow_sequence_end ∷ bs)) (suc d) d c rest

abbrev MoreWalks : Settings → List TagDirective → Nodes → Type 0
MoreWalks s ds ns = (n d : ℕ) (c : Cursor) (rest : Rest) → c.bare ≡ false
    → Walks (items_layout (canonically s ds) true n false ns) (λ ks. kinds.FlowSequenceEnd ∷ items_kinds ns (kinds.FlowEntry ∷ ks)) (λ bs. tokens.flow_entry ∷ items_bodies ds ns (tokens.flow_sequence_end ∷ bs)) (suc d) d c rest

abbrev FirstPairsWalk : Settings → List TagDirective → Pairs → Type 0
FirstPairsWalk s ds ps = (n d : ℕ) (c : Cursor) (rest : Rest) → c.bare ≡ false
    → Walks (pairs_layout (canonically s ds) true n true ps) (λ ks. kinds.FlowMappingEnd ∷ pairs_kinds ps ks) (λ bs. pairs_bodies ds ps (tokens.flow_mapping_end ∷ bs)) (suc d) d c rest

abbrev MorePairsWalk : Settings → List TagDirective → Pairs → Type 0
MorePairsWalk s ds ps = (n d : ℕ) (c : Cursor) (rest : Rest) → c.bare ≡ false
    → Walks (pairs_layout (canonically s ds) true n false ps) (λ ks. kinds.FlowMappingEnd ∷ pairs_kinds ps (kinds.FlowEntry ∷ ks)) (λ bs. tokens.flow_entry ∷ pairs_bodies ds ps (tokens.flow_mapping_end ∷ bs)) (suc d) d c rest

items_first : GapReads → (s : Settings) (ds : List TagDirective) (x : Node) (xs : Nodes)
    → NodeWalks s ds x → MoreWalks s ds xs → FirstWalks s ds (node x xs)
unfolding items_layout before_item turned items_kinds items_bodies
items_first law s ds x xs one more n d c rest bare =
    let p = canonically s ds in
    walks_line s.line_break n (node_layout p (position true n part.Item) x ▹ items_layout p true n false xs) (λ ks. kinds.FlowSequenceEnd ∷ items_kinds xs (kinds.FlowEntry ∷ node_kinds x ks))
    (λ bs. node_bodies ds x (tokens.flow_entry ∷ items_bodies ds xs (tokens.flow_sequence_end ∷ bs))) (suc d) d c rest bare
    (λ k. both (node_layout p (position true n part.Item) x) (items_layout p true n false xs) (node_kinds x) (λ ks. kinds.FlowSequenceEnd ∷ items_kinds xs (kinds.FlowEntry ∷ ks)) (node_bodies ds x)
    (λ bs. tokens.flow_entry ∷ items_bodies ds xs (tokens.flow_sequence_end ∷ bs)) (suc d) (suc d) d k rest
    (one (position true n part.Item) refl (suc d) k (λ e. items_layout p true n false xs e rest) (more_parts p refl n xs rest)) (λ e off. more n d e rest off))

items_more : GapReads → (s : Settings) (ds : List TagDirective) (x : Node) (xs : Nodes)
    → FirstWalks s ds (node x xs) → MoreWalks s ds (node x xs)
unfolding items_layout before_item
items_more law s ds x xs whole n d c rest bare =
    let p = canonically s ds in
    both (char 44) (items_layout p true n true (node x xs)) (λ ks. kinds.FlowEntry ∷ ks) (λ ks. kinds.FlowSequenceEnd ∷ items_kinds (node x xs) ks) (λ bs. tokens.flow_entry ∷ bs)
    (λ bs. items_bodies ds (node x xs) (tokens.flow_sequence_end ∷ bs)) (suc d) (suc d) d c rest (comma_walks law (suc d) c (λ e. items_layout p true n true (node x xs) e rest)) (λ e off. whole n d e rest off)

pairs_first : GapReads → (s : Settings) (ds : List TagDirective) (k v : Node) (ps : Pairs)
    → NodeWalks s ds k → NodeWalks s ds v → MorePairsWalk s ds ps
    → FirstPairsWalk s ds (pair k v ps)
unfolding pairs_layout before_key before_value turned pairs_kinds pairs_bodies
pairs_first law s ds k v ps key value more n d c rest bare =
    let p = canonically s ds in
    let b = s.line_break in
    let pair_end = pairs_layout p true n false ps in
    let value_on = node_layout p (position true n part.Value) v ▹ pair_end in
    let colon_on = word (58 ∷ []) ▹ value_on in
    let key_on = node_layout p (position true n part.Key) k ▹ (line b n ▹ colon_on) in
    let KE : List Kind → List Kind = λ ks. kinds.FlowMappingEnd ∷ pairs_kinds ps (kinds.FlowEntry ∷ ks) in
    let BE : List TokenBody → List TokenBody = λ bs. tokens.flow_entry ∷ pairs_bodies ds ps (tokens.flow_mapping_end ∷ bs) in
    let KV : List Kind → List Kind = λ ks. KE (node_kinds v ks) in
    let BV : List TokenBody → List TokenBody = λ bs. node_bodies ds v (BE bs) in
    let KC : List Kind → List Kind = λ ks. KV (kinds.ValueMark ∷ ks) in
    let BC : List TokenBody → List TokenBody = λ bs. tokens.value ∷ BV bs in
    let KK : List Kind → List Kind = λ ks. KC (node_kinds k ks) in
    let BK : List TokenBody → List TokenBody = λ bs. node_bodies ds k (BC bs) in
    let value_walk : (e : Cursor) → Walks value_on KV BV (suc d) d e rest =
    λ e. both (node_layout p (position true n part.Value) v) pair_end (node_kinds v) KE (node_bodies ds v) BE (suc d) (suc d) d e rest
    (value (position true n part.Value) refl (suc d) e (λ x. pair_end x rest) (more_pair_parts p refl n ps rest)) (λ x off. more n d x rest off) in
    let colon_walk : (e : Cursor) → Walks colon_on KC BC (suc d) d e rest =
    λ e. both (word (58 ∷ [])) value_on (λ ks. kinds.ValueMark ∷ ks) KV (λ bs. tokens.value ∷ bs) BV (suc d) (suc d) d e rest (value_walks law d e (λ x. value_on x rest)) (λ x off. value_walk x) in
    let key_walk : (e : Cursor) → Walks key_on KK BK (suc d) d e rest =
    λ e. both (node_layout p (position true n part.Key) k) (line b n ▹ colon_on) (node_kinds k) KC (node_bodies ds k) BC (suc d) (suc d) d e rest
    (key (position true n part.Key) refl (suc d) e (λ x. (line b n ▹ colon_on) x rest) (line_parts b n colon_on rest)) (λ x off. walks_line b n colon_on KC BC (suc d) d x rest off colon_walk) in
    let question_walk : (e : Cursor) → Walks (word (63 ∷ []) ▹ key_on) (λ ks. KK (kinds.KeyMark ∷ ks)) (λ bs. tokens.key ∷ BK bs) (suc d) d e rest =
    λ e. both (word (63 ∷ [])) key_on (λ ks. kinds.KeyMark ∷ ks) KK (λ bs. tokens.key ∷ bs) BK (suc d) (suc d) d e rest (key_walks law d e (λ x. key_on x rest)) (λ x off. key_walk x) in
    let whole = walks_line b n (word (63 ∷ []) ▹ key_on) (λ ks. KK (kinds.KeyMark ∷ ks)) (λ bs. tokens.key ∷ BK bs) (suc d) d c rest bare question_walk in
    subst (λ (t : Bool). Walks (before_key p.settings true n true t ▹ (node_layout p (position true n (key_part t)) k ▹ (before_value p.settings true n t ▹ value_on)))
    (λ ks. kinds.FlowMappingEnd ∷ pairs_kinds (pair k v ps) ks) (λ bs. pairs_bodies ds (pair k v ps) (tokens.flow_mapping_end ∷ bs)) (suc d) d c rest)
    (sym (not_simple s ds k)) whole

pairs_more : GapReads → (s : Settings) (ds : List TagDirective) (k v : Node) (ps : Pairs)
    → FirstPairsWalk s ds (pair k v ps) → MorePairsWalk s ds (pair k v ps)
unfolding pairs_layout before_key
pairs_more law s ds k v ps whole n d c rest bare =
    let p = canonically s ds in
    both (char 44) (pairs_layout p true n true (pair k v ps)) (λ ks. kinds.FlowEntry ∷ ks) (λ ks. kinds.FlowMappingEnd ∷ pairs_kinds (pair k v ps) ks) (λ bs. tokens.flow_entry ∷ bs)
    (λ bs. pairs_bodies ds (pair k v ps) (tokens.flow_mapping_end ∷ bs)) (suc d) (suc d) d c rest (comma_walks law (suc d) c (λ e. pairs_layout p true n true (pair k v ps) e rest)) (λ e off. whole n d e rest off)

items_closed : GapReads → (s : Settings) (ds : List TagDirective) → MoreWalks s ds no_nodes
unfolding items_layout closer items_kinds items_bodies
items_closed law s ds n d c rest bare =
    let b = s.line_break in
    let m = n - s.indent in
    both (char 44) (line b m ▹ char 93) (λ ks. kinds.FlowEntry ∷ ks) (λ ks. kinds.FlowSequenceEnd ∷ ks) (λ bs. tokens.flow_entry ∷ bs) (λ bs. tokens.flow_sequence_end ∷ bs) (suc d) (suc d) d c rest
    (comma_walks law (suc d) c (λ e. (line b m ▹ char 93) e rest))
    (λ e off. walks_line b m (char 93) (λ ks. kinds.FlowSequenceEnd ∷ ks) (λ bs. tokens.flow_sequence_end ∷ bs) (suc d) d e rest off (λ x. sequence_closes law d x rest))

pairs_closed : GapReads → (s : Settings) (ds : List TagDirective) → MorePairsWalk s ds no_pairs
unfolding pairs_layout closer pairs_kinds pairs_bodies
pairs_closed law s ds n d c rest bare =
    let b = s.line_break in
    let m = n - s.indent in
    both (char 44) (line b m ▹ char 125) (λ ks. kinds.FlowEntry ∷ ks) (λ ks. kinds.FlowMappingEnd ∷ ks) (λ bs. tokens.flow_entry ∷ bs) (λ bs. tokens.flow_mapping_end ∷ bs) (suc d) (suc d) d c rest
    (comma_walks law (suc d) c (λ e. (line b m ▹ char 125) e rest))
    (λ e off. walks_line b m (char 125) (λ ks. kinds.FlowMappingEnd ∷ ks) (λ bs. tokens.flow_mapping_end ∷ bs) (suc d) d e rest off (λ x. mapping_closes law d x rest))

items_none : GapReads → (s : Settings) (ds : List TagDirective) → FirstWalks s ds no_nodes
unfolding items_layout closer items_kinds items_bodies
items_none law s ds n d c rest bare = sequence_closes law d c rest

pairs_none : GapReads → (s : Settings) (ds : List TagDirective) → FirstPairsWalk s ds no_pairs
unfolding pairs_layout closer pairs_kinds pairs_bodies
pairs_none law s ds n d c rest bare = mapping_closes law d c rest

sequence_walks : GapReads → AnchorReads → (s : Settings) (ds : List TagDirective) → TagWalks ds
    → (q : Start) (items : Nodes) → IsWritableAnchor q.anchor → IsWritableTag q.tag
    → FirstWalks s ds items → NodeWalks s ds (sequence_node q items)
unfolding node_layout node_kinds node_bodies
sequence_walks law names s ds tags q items ga gt all at off d c rest ends =
    let p = canonically s ds in
    let n = deeper p.settings at.around in
    let inner = opener 91 ▹ (checked n ▹ items_layout p true n true items) in
    let KI : List Kind → List Kind = λ ks. kinds.FlowSequenceEnd ∷ items_kinds items ks in
    let BI : List TokenBody → List TokenBody = λ bs. items_bodies ds items (tokens.flow_sequence_end ∷ bs) in
    properties_if law names p tags q.anchor q.tag ga gt inner (λ ks. KI (kinds.FlowSequenceStart ∷ ks)) (λ bs. tokens.flow_sequence_start ∷ BI bs) d d rest (gap_blank _ rest)
    (λ k. both (opener 91) (checked n ▹ items_layout p true n true items) (λ ks. kinds.FlowSequenceStart ∷ ks) KI (λ bs. tokens.flow_sequence_start ∷ bs) BI d (suc d) d k rest
    (sequence_opens law d k (λ e. (checked n ▹ items_layout p true n true items) e rest))
    (λ e bare. walks_checked n (items_layout p true n true items) KI BI (suc d) d e rest (all n d e rest bare))) c

mapping_walks : GapReads → AnchorReads → (s : Settings) (ds : List TagDirective) → TagWalks ds
    → (q : Start) (pairs : Pairs) → IsWritableAnchor q.anchor → IsWritableTag q.tag
    → FirstPairsWalk s ds pairs → NodeWalks s ds (mapping_node q pairs)
unfolding node_layout node_kinds node_bodies
mapping_walks law names s ds tags q pairs ga gt all at off d c rest ends =
    let p = canonically s ds in
    let n = deeper p.settings at.around in
    let inner = opener 123 ▹ (checked n ▹ pairs_layout p true n true pairs) in
    let KI : List Kind → List Kind = λ ks. kinds.FlowMappingEnd ∷ pairs_kinds pairs ks in
    let BI : List TokenBody → List TokenBody = λ bs. pairs_bodies ds pairs (tokens.flow_mapping_end ∷ bs) in
    properties_if law names p tags q.anchor q.tag ga gt inner (λ ks. KI (kinds.FlowMappingStart ∷ ks)) (λ bs. tokens.flow_mapping_start ∷ BI bs) d d rest (gap_blank _ rest)
    (λ k. both (opener 123) (checked n ▹ pairs_layout p true n true pairs) (λ ks. kinds.FlowMappingStart ∷ ks) KI (λ bs. tokens.flow_mapping_start ∷ bs) BI d (suc d) d k rest
    (mapping_opens law d k (λ e. (checked n ▹ pairs_layout p true n true pairs) e rest))
    (λ e bare. walks_checked n (pairs_layout p true n true pairs) KI BI (suc d) d e rest (all n d e rest bare))) c

alias_node_walks : GapReads → AnchorReads → (s : Settings) (ds : List TagDirective) (name : List ℕ)
    → IsWritable (alias_node name) → NodeWalks s ds (alias_node name)
unfolding node_layout node_kinds node_bodies
alias_node_walks law names s ds name good at off d c rest ends = alias_goes law names name good at off d c rest ends

scalar_node_walks : GapReads → AnchorReads → QuotedIsReadBack → MarkWalks
    → (s : Settings) (ds : List TagDirective) → TagWalks ds → 0 < s.indent → (x : Scalar)
    → IsWritable (scalar_node x) → NodeWalks s ds (scalar_node x)
unfolding node_layout
scalar_node_walks law names quoted mark s ds tags some x good at off d c rest ends = scalar_walks law names quoted mark s ds tags some x good at d c rest

mutual
  node_walks : GapReads → AnchorReads → QuotedIsReadBack → MarkWalks
      → (s : Settings) (ds : List TagDirective) → TagWalks ds → 0 < s.indent → (n : Node)
      → IsWritable n → NodeWalks s ds n
  node_walks law names quoted mark s ds tags some (alias_node name) good = alias_node_walks law names s ds name good
  node_walks law names quoted mark s ds tags some (scalar_node x) good = scalar_node_walks law names quoted mark s ds tags some x good
  node_walks law names quoted mark s ds tags some (sequence_node q items) (ga, gt, good) = sequence_walks law names s ds tags q items ga gt (first_walk law names quoted mark s ds tags some items good)
  node_walks law names quoted mark s ds tags some (mapping_node q pairs) (ga, gt, good) = mapping_walks law names s ds tags q pairs ga gt (first_pairs_walk law names quoted mark s ds tags some pairs good)

  first_walk : GapReads → AnchorReads → QuotedIsReadBack → MarkWalks
      → (s : Settings) (ds : List TagDirective) → TagWalks ds → 0 < s.indent → (ns : Nodes)
      → AreItemsWritable ns → FirstWalks s ds ns
  first_walk law names quoted mark s ds tags some no_nodes good = items_none law s ds
  first_walk law names quoted mark s ds tags some (node x xs) (gx, good) =
      items_first law s ds x xs (node_walks law names quoted mark s ds tags some x gx) (more_walk law names quoted mark s ds tags some xs good)

  more_walk : GapReads → AnchorReads → QuotedIsReadBack → MarkWalks
      → (s : Settings) (ds : List TagDirective) → TagWalks ds → 0 < s.indent → (ns : Nodes)
      → AreItemsWritable ns → MoreWalks s ds ns
  more_walk law names quoted mark s ds tags some no_nodes good = items_closed law s ds
  more_walk law names quoted mark s ds tags some (node x xs) (gx, good) =
      items_more law s ds x xs (items_first law s ds x xs (node_walks law names quoted mark s ds tags some x gx) (more_walk law names quoted mark s ds tags some xs good))

  first_pairs_walk : GapReads → AnchorReads → QuotedIsReadBack → MarkWalks
      → (s : Settings) (ds : List TagDirective) → TagWalks ds → 0 < s.indent → (ps : Pairs)
      → ArePairsWritable ps → FirstPairsWalk s ds ps
  first_pairs_walk law names quoted mark s ds tags some no_pairs good = pairs_none law s ds
  first_pairs_walk law names quoted mark s ds tags some (pair k v ps) (gk, gv, good) =
      pairs_first law s ds k v ps (node_walks law names quoted mark s ds tags some k gk) (node_walks law names quoted mark s ds tags some v gv) (more_pairs_walk law names quoted mark s ds tags some ps good)

  more_pairs_walk : GapReads → AnchorReads → QuotedIsReadBack → MarkWalks
      → (s : Settings) (ds : List TagDirective) → TagWalks ds → 0 < s.indent → (ps : Pairs)
      → ArePairsWritable ps → MorePairsWalk s ds ps
  more_pairs_walk law names quoted mark s ds tags some no_pairs good = pairs_closed law s ds
  more_pairs_walk law names quoted mark s ds tags some (pair k v ps) (gk, gv, good) =
      pairs_more law s ds k v ps
      (pairs_first law s ds k v ps (node_walks law names quoted mark s ds tags some k gk) (node_walks law names quoted mark s ds tags some v gv) (more_pairs_walk law names quoted mark s ds tags some ps good))

pub canon_context : (s : Settings) (ds : List TagDirective) → s.canonical ≡ true
    → canonically s ds ≡ context_of s ds
canon_context s ds e = ap (λ (c : Bool). context_of (record { encoding = s.encoding; canonical = c; indent = s.indent; width = s.width; unicode = s.unicode; line_break = s.line_break }) ds) (sym e)

pub nodes_read : GapReads → AnchorReads → QuotedIsReadBack → MarkWalks
    → (s : Settings) (ds : List TagDirective) → TagWalks ds → 0 < s.indent → (n : Node)
    → IsWritable n → NodeWalks s ds n
nodes_read law names quoted mark s ds tags some n good = node_walks law names quoted mark s ds tags some n good

pub nodes_walk : GapReads → AnchorReads → QuotedIsReadBack → MarkWalks
    → ((o : Opening) → IsWritableOpening o → TagWalks o.directives) → NodesAreWords
nodes_walk law names quoted mark tags s canonical some o right n good at off d c rest ends =
    subst (λ (p : Context). Walks (node_layout p at n) (node_kinds n) (node_bodies o.directives n) d d c rest) (canon_context s o.directives canonical)
    (nodes_read law names quoted mark s o.directives (tags o right) some n good at off d c rest ends)
