-- One token: what the states give is loaded, and fits the tokens from then on.
use Rattle.std.proofs.Common.{◌≡◌, ℕ, ℤ, Bool, true, false, if◌then◌else◌, ◌||◌, List, [], ◌∷◌, ◌++◌, Option, Some, None, is_some, refl, ap, sym, subst, ◌∙◌, append_assoc, arith}
use Rattle.std.specs.FinMap as map
use Rattle.yaml_parse_laws_trees.proofs.Words.{wants_of, nat_cmp, slice_cmp, false≢true, yaml_mark_t, yaml_version_directive_t, Token, TokenBody, type_of, Fault, TagDirective, Wants, Flow, Block, Key, Value, Brackets, Root, Entry, IndentlessEntry, BlockPair, FlowPair, Refuse, Take, Leave, ParseProblem, RawEvent, Properties, Tag, Shape, item_at, node_at, State, event_at, starts_content, starts_node, choice_at, documents_taken, content_taken, node_taken, with_properties_taken, lone_below, taken_at, given_by, Directives, noted, with_version, with_tag, directive_for, Loading, nothing_loaded, aliased, has_anchor, alias_fault, flow_shape, taken, tag_at, undefined, take_rule, was_take}
use Rattle.yaml_parse_laws_trees.specs.parse_grammar.parse_model.declared.yaml_sequence_style_t.TheVariants.{YAML_BLOCK_SEQUENCE_STYLE}
use Rattle.yaml_parse_laws_trees.specs.parse_grammar.parse_model.declared.yaml_mapping_style_t.TheVariants.{YAML_BLOCK_MAPPING_STYLE, YAML_FLOW_MAPPING_STYLE}
use Rattle.yaml_parse_model.specs.scan_types.Tokens as token
use Rattle.yaml_parse_laws_trees.specs.parse_grammar.parse_model.Events as event
use Rattle.yaml_parse_laws_trees.specs.parse_grammar.declared.name.Brackets.TheVariants as brackets
use Rattle.yaml_parse_laws_trees.specs.parse_grammar.declared.problem.ParseProblem.TheVariants as problem
use Rattle.yaml_parse_laws_trees.specs.parse_grammar.Items as item
use Rattle.yaml_parse_laws_trees.specs.parse_grammar.States as state
use Rattle.yaml_parse_laws_trees.specs.parse_grammar.Resolve as resolve
use Rattle.yaml_parse_laws_trees.proofs.FaultsStanding.{Plain}
use Rattle.yaml_parse_laws_trees.proofs.ItemsLoaded.{onward, then_fed}
use Rattle.yaml_parse_laws_trees.proofs.Fitting.{known, Rooted, is_named, Owes, Names, Held, held, NoneNamed, Fits, fits_below, Added, added_names, Passes, node_passes, anchor_in, placed_passes, closed_fits, whole, FedLoads, AtAlias, loads_on, loads_given}
use Rattle.yaml_parse_laws_trees.proofs.Properties.{tok}

-- ---- nodes

content_given : (past : List Token) (t : Token) (ds : Directives) (l : Loading)
    (p : Option Properties) (shape : Shape) (above s : List State)
    → alias_fault past t.body t.start_mark ≡ None → Owes (anchor_in p) past l
    → ((m : Loading) → Names past m → Rooted m.document.nodes → Fits (above ++ s) (t ∷ past) m)
    → FedLoads past t ds l (given_by (record
    { item = Some (node_at p shape t.start_mark t.end_mark); above = above }) s)
content_given past t ds l p shape above s e o k =
    loads_given past t ds l (node_at p shape t.start_mark t.end_mark) above s (λ m. Added (anchor_in p) l m) e (placed_passes p shape t.start_mark t.end_mark ds l) (λ m a. k m (added_names (anchor_in p) past l m o a) a.rooted)

content_loads : (w : Wants) (p : Option Properties) (start end : yaml_mark_t) (b : TokenBody)
    (s : List State) (past : List Token) (ds : Directives) (l : Loading)
    → starts_content w (type_of b) ≡ true → Plain s
    → Owes (anchor_in p) past l
    → FedLoads past (tok b start end) ds l (given_by (content_taken w p start end b) s)
content_loads w p start end (token.scalar value style) s past ds l c pl o =
    content_given past (tok (token.scalar value style) start end) ds l p (item.scalar value style) [] s refl o (λ m n r. fits_below s (tok (token.scalar value style) start end ∷ past) m pl n r)
content_loads w p start end token.flow_sequence_start s past ds l c pl o =
    content_given past (tok token.flow_sequence_start start end) ds l p (flow_shape brackets.Sequence) (state.items brackets.Sequence start ∷ []) s refl o (λ m n r. (n, r))
content_loads w p start end token.flow_mapping_start s past ds l c pl o =
    content_given past (tok token.flow_mapping_start start end) ds l p (flow_shape brackets.Mapping) (state.items brackets.Mapping start ∷ []) s refl o (λ m n r. (n, r))
content_loads w p start end token.block_sequence_start s past ds l c pl o =
    content_given past (tok token.block_sequence_start start end) ds l p (item.sequence YAML_BLOCK_SEQUENCE_STYLE) (state.entries start ∷ []) s refl o (λ m n r. (n, r))
content_loads w p start end token.block_mapping_start s past ds l c pl o =
    content_given past (tok token.block_mapping_start start end) ds l p (item.mapping YAML_BLOCK_MAPPING_STYLE) (state.pairs start ∷ []) s refl o (λ m n r. (n, r))
content_loads (Block (Some side)) p start end token.block_entry s past ds l c pl o =
    content_given past (tok token.block_entry start end) ds l p (item.sequence YAML_BLOCK_SEQUENCE_STYLE) (state.optional (IndentlessEntry side) end ∷ state.others side ∷ []) s refl o (λ m n r. (n, held m r))
content_loads (Block None) p start end token.block_entry s past ds l c pl o = absurd (false≢true c)
content_loads Flow p start end token.block_entry s past ds l c pl o = absurd (false≢true c)
content_loads w p start end _ s past ds l c pl o = absurd (false≢true c)

-- an alias names a node, or none
alias_at : (name : List ℕ) (start end : yaml_mark_t) (s : List State) (past : List Token)
    (ds : Directives) (l : Loading) (o : Option ℤ) (b : Bool) → map.get l.anchors name ≡ o
    → is_some o ≡ b → has_anchor name past ≡ b
    → Plain s → Names past l → (is_some o ≡ true → Rooted l.document.nodes)
    → AtAlias (undefined (has_anchor name past) start) ds
    (then_fed (aliased (map.get l.anchors name) start l) (λ m. onward ds m)) s
    (tok (token.alias name) start end ∷ past)
alias_at name start end s past ds l None b e f g pl n r = rw (e, g) (none b f)
  where
    none : (b : Bool) → false ≡ b
        → AtAlias (undefined b start) ds (then_fed (aliased None start l) (λ m. onward ds m)) s
        (tok (token.alias name) start end ∷ past)
    none true f = absurd (false≢true f)
    none false f = refl
alias_at name start end s past ds l (Some k) b e f g pl n r = rw (e, g) (some b f)
  where
    some : (b : Bool) → true ≡ b
        → AtAlias (undefined b start) ds (then_fed (aliased (Some k) start l) (λ m. onward ds m)) s
        (tok (token.alias name) start end ∷ past)
    some true f = (_, refl, fits_below s (tok (token.alias name) start end ∷ past) _ pl n (r refl))
    some false f = absurd (false≢true (sym f))

pub node_loads : (w : Wants) (start end : yaml_mark_t) (b : TokenBody) (s : List State)
    (past : List Token) (ds : Directives) (l : Loading) → starts_node w (type_of b) ≡ true → Plain s
    → Names past l → Held l
    → FedLoads past (tok b start end) ds l (given_by (node_taken w start end b) s)
node_loads w start end (token.alias name) s past ds l c pl n h =
    alias_at name start end s past ds l (map.get l.anchors name) (is_some (map.get l.anchors name)) refl refl (sym (n name)) pl n (λ e. h name e)
node_loads w start end (token.anchor name) s past ds l c pl n h =
    loads_on past (tok (token.anchor name) start end) ds l (state.with_properties w (record { anchor = Some name; tag = None; from = start; to = end }) ∷ []) s refl
    (λ q. ap (λ (z : Bool). is_named q (Some name) || z) (n q), h)
node_loads w start end (token.tag handle suffix) s past ds l c pl n h =
    loads_on past (tok (token.tag handle suffix) start end) ds l (state.with_properties w (record { anchor = None; tag = Some (tag_at handle suffix start); from = start; to = end }) ∷ []) s refl (n, h)
node_loads w start end b s past ds l c pl n h = content_loads w None start end b s past ds l c pl n

-- ---- properties

not_first : (a b : Bool) → a ≡ false → (if a || b then Take else Leave) ≡ Take → b ≡ true
not_first a b e h = grind arith

properties_loads : (w : Wants) (anchor : Option (List ℕ)) (tag : Option Tag)
    (from to start end : yaml_mark_t) (b : TokenBody) (s : List State) (past : List Token)
    (ds : Directives) (l : Loading)
    → choice_at (state.with_properties w
    (record { anchor = anchor; tag = tag; from = from; to = to })) (type_of b) ≡ Take → Plain s
    → Owes anchor past l → Held l
    → FedLoads past (tok b start end) ds l
    (given_by (with_properties_taken w (record { anchor = anchor; tag = tag; from = from; to = to })
    start end b) s)
properties_loads w None tag from to start end (token.anchor name) s past ds l c pl o h =
    loads_on past (tok (token.anchor name) start end) ds l (state.with_properties w (record { anchor = Some name; tag = tag; from = from; to = end }) ∷ []) s refl
    (λ q. ap (λ (z : Bool). is_named q (Some name) || z) (o q), h)
properties_loads w (Some x) tag from to start end (token.anchor name) s past ds l c pl o h = absurd (was_take _ c)
properties_loads w anchor None from to start end (token.tag handle suffix) s past ds l c pl o h =
    loads_on past (tok (token.tag handle suffix) start end) ds l (state.with_properties w (record { anchor = anchor; tag = Some (tag_at handle suffix start); from = from; to = end }) ∷ []) s refl (o, h)
properties_loads w anchor (Some x) from to start end (token.tag handle suffix) s past ds l c pl o h = absurd (was_take _ c)
properties_loads w anchor tag from to start end b s past ds l c pl o h =
    content_loads w (Some (record { anchor = anchor; tag = tag; from = from; to = to })) start end b s past ds l (not_first false (starts_content w (type_of b)) refl c) pl o

-- ---- between documents

noted_if : (b : Bool) (d : Directives) (f : Fault) (i : RawEvent) (l : Loading)
    → Passes (if b then noted d else resolve.refused f) i l (λ m. Unit {0})
noted_if b d f i l = grind arith

version_passes : (v : Option yaml_version_directive_t) (tags : List TagDirective) (major minor : ℤ)
    (at : yaml_mark_t) (i : RawEvent) (l : Loading)
    → Passes (with_version v tags major minor at) i l (λ m. Unit {0})
version_passes v tags major minor at i l = grind (arith, noted_if)

handle_passes : (o : Option (List ℕ)) (ds : Directives) (handle prefix : List ℕ) (at : yaml_mark_t)
    (i : RawEvent) (l : Loading) → Passes (with_tag o ds handle prefix at) i l (λ m. Unit {0})
handle_passes o ds handle prefix at i l = grind arith

nothing_known : (name : List ℕ) → known name nothing_loaded ≡ false
nothing_known name = ap (λ (o : Option ℤ). is_some o) (map.get-empty (slice_cmp nat_cmp) name)

none_held : (b : Bool) (A : Type 0) → b ≡ false → b ≡ true → A
none_held b A e h = grind (arith, false≢true)

-- a document that starts
abbrev pub Started : List Token → Loading → Type 0
Started past m = Names past m × Held m

pub start_passes : (implicit : Bool) (from to : yaml_mark_t) (past : List Token) (ds : Directives)
    (l : Loading) → NoneNamed past
    → Passes (resolve.settle (item_at (item.document implicit) from to) ds)
    (item_at (item.document implicit) from to) l (λ m. Started past m)
start_passes implicit from to past ds l n = (_, λ k. refl, (λ name. nothing_known name ∙ sym (n name), λ name k. none_held _ _ (nothing_known name) k))

documents_given : (from start end : yaml_mark_t) (b : TokenBody) (s : List State)
    (past : List Token) (ds : Directives) (l : Loading)
    → ((name : List ℕ) → b ≡ token.alias name → ⊥) → s ≡ []
    → FedLoads past (tok b start end) ds l (given_by (documents_taken from start end b) s)
documents_given from start end (token.version_directive major minor) s past ds l c e =
    loads_given past (tok (token.version_directive major minor) start end) ds l (item_at (item.version_directive major minor) start end) (state.directives from ∷ []) s (λ m. Unit {0}) refl
    (version_passes ds.version ds.tags major minor start _ l) (λ m q. tt)
documents_given from start end (token.tag_directive handle prefix) s past ds l c e =
    loads_given past (tok (token.tag_directive handle prefix) start end) ds l (item_at (item.tag_directive handle prefix) start end) (state.directives from ∷ []) s (λ m. Unit {0}) refl
    (handle_passes (directive_for handle ds.tags) ds handle prefix start _ l) (λ m q. tt)
documents_given from start end token.document_start s past ds l c e =
    loads_given past (tok token.document_start start end) ds l (item_at (item.document false) from end) (state.optional Root end ∷ state.document_end ∷ state.documents ∷ []) s
    (λ m. Started (tok token.document_start start end ∷ past) m) refl (start_passes false from end (tok token.document_start start end ∷ past) ds l (λ name. refl)) (λ m q. q)
documents_given from start end token.stream_end s past ds l c e =
    loads_given past (tok token.stream_end start end) ds l (event_at event.stream_end start end) [] s (λ m. Unit {0}) refl (l, λ k. refl, tt)
    (λ m q. subst (λ (z : List State). Fits z (tok token.stream_end start end ∷ past) m) (sym e) tt)
documents_given from start end (token.alias name) s past ds l c e = absurd (c name refl)
documents_given from start end b s past ds l c e = loads_on past (tok b start end) ds l (state.documents ∷ []) s refl tt

no_alias : (x : State) (b : TokenBody) (name : List ℕ)
    → (choice_at x (type_of (token.alias name)) ≡ Take → ⊥) → choice_at x (type_of b) ≡ Take
    → b ≡ token.alias name → ⊥
no_alias x b name h c e = h (subst (λ (z : TokenBody). choice_at x (type_of z) ≡ Take) e c)

-- ---- inside a document

abbrev Inner : List Token → Loading → Type 0
Inner past l = Names past l × Rooted l.document.nodes

-- the end of a collection; no anchor is at its token
sequence_closes : (start end : yaml_mark_t) (t : Token) (s : List State) (past : List Token)
    (ds : Directives) (l : Loading) → alias_fault past t.body t.start_mark ≡ None
    → ((name : List ℕ) → has_anchor name (t ∷ past) ≡ has_anchor name past)
    → Plain s → Inner past l
    → FedLoads past t ds l (given_by (taken (Some (event_at event.sequence_end start end)) []) s)
sequence_closes start end t s past ds l e a pl h =
    loads_given past t ds l (event_at event.sequence_end start end) [] s (λ m. Fits s (t ∷ past) m) e (_, λ k. refl, closed_fits end l s (t ∷ past) pl (λ name. h.0 name ∙ sym (a name)) h.1) (λ m q. q)

mapping_closes : (start end : yaml_mark_t) (t : Token) (s : List State) (past : List Token)
    (ds : Directives) (l : Loading) → alias_fault past t.body t.start_mark ≡ None
    → ((name : List ℕ) → has_anchor name (t ∷ past) ≡ has_anchor name past)
    → Plain s → Inner past l
    → FedLoads past t ds l (given_by (taken (Some (event_at event.mapping_end start end)) []) s)
mapping_closes start end t s past ds l e a pl h =
    loads_given past t ds l (event_at event.mapping_end start end) [] s (λ m. Fits s (t ∷ past) m) e (_, λ k. refl, closed_fits end l s (t ∷ past) pl (λ name. h.0 name ∙ sym (a name)) h.1) (λ m q. q)

-- ---- in brackets

given_above : (i : Option RawEvent) (up below s : List State)
    → given_by (taken i (up ++ below)) s ≡ given_by (taken i up) (below ++ s)
given_above i up below s = grind (arith, append_assoc)

part_loads : (bs : Brackets) (o start end : yaml_mark_t) (b : TokenBody) (s : List State)
    (past : List Token) (ds : Directives) (l : Loading) → starts_node Flow (type_of b) ≡ true
    → Plain s → Inner past l
    → FedLoads past (tok b start end) ds l
    (given_by (taken (node_taken Flow start end b).item
    ((node_taken Flow start end b).above ++ lone_below bs (state.more bs o ∷ []))) s)
part_loads bs o start end b s past ds l c pl h = grind (arith, given_above, node_loads)

starts_part : (a : Bool) (p : ParseProblem) → (if a then Take else Refuse p None) ≡ Take → a ≡ true
starts_part a p h = grind arith

-- ---- each state

-- between documents one state is alone, and the end of one is above the documents after it
abbrev pub SitsAt : State → List State → Type 0 → Type 0
SitsAt state.stream s below = s ≡ []
SitsAt state.first s below = s ≡ []
SitsAt state.documents s below = s ≡ []
SitsAt (state.directives from) s below = s ≡ []
SitsAt state.document_end s below = s ≡ state.documents ∷ []
SitsAt _ s below = below

taken_loads_by : (x : State) (start end : yaml_mark_t) (b : TokenBody) (s : List State)
    (past : List Token) (ds : Directives) (l : Loading) (A : Type 0)
    → choice_at x (type_of b) ≡ Take → Plain s → SitsAt x s A → Fits (x ∷ s) past l
    → FedLoads past (tok b start end) ds l (given_by (taken_at x (tok b start end)) s)
taken_loads_by state.stream start end (token.stream_start encoding) s past ds l A c pl i h =
    loads_given past (tok (token.stream_start encoding) start end) ds l (event_at (event.stream_start encoding) start end) (state.first ∷ []) s (λ m. Unit {0}) refl (l, λ k. refl, tt) (λ m q. h)
taken_loads_by state.first start end b s past ds l A c pl i h = documents_given start start end b s past ds l (λ name. no_alias state.first b name (λ e. cc) c) i
taken_loads_by state.documents start end b s past ds l A c pl i h = documents_given start start end b s past ds l (λ name. no_alias state.documents b name (λ e. cc) c) i
taken_loads_by (state.directives from) start end b s past ds l A c pl i h = documents_given from start end b s past ds l (λ name. no_alias (state.directives from) b name (λ e. cc) c) i
taken_loads_by (state.optional place before) start end b s past ds l A c pl i h =
    node_loads (wants_of place) start end b s past ds l (take_rule (state.optional place before) (type_of b) c) pl h.0 h.1
taken_loads_by state.document_end start end token.document_end s past ds l A c pl i h =
    loads_given past (tok token.document_end start end) ds l (event_at (event.document_end false) start end) [] s (λ m. Unit {0}) refl (nothing_loaded, λ k. whole l.document.nodes (k nothing_loaded) h, tt)
    (λ m q. subst (λ (z : List State). Fits z (tok token.document_end start end ∷ past) m) (sym i) tt)
taken_loads_by (state.entries o) start end token.block_entry s past ds l A c pl i h = loads_on past (tok token.block_entry start end) ds l (state.optional Entry end ∷ state.entries o ∷ []) s refl (h.0, held l h.1)
taken_loads_by (state.entries o) start end token.block_end s past ds l A c pl i h = sequence_closes start end (tok token.block_end start end) s past ds l refl (λ name. refl) pl h
taken_loads_by (state.others side) start end token.block_entry s past ds l A c pl i h = loads_on past (tok token.block_entry start end) ds l (state.optional (IndentlessEntry side) end ∷ state.others side ∷ []) s refl (h.0, held l h.1)
taken_loads_by (state.pairs o) start end token.key s past ds l A c pl i h =
    loads_on past (tok token.key start end) ds l (state.optional (BlockPair Key) end ∷ state.colon (BlockPair Value) ∷ state.pairs o ∷ []) s refl (h.0, held l h.1)
taken_loads_by (state.pairs o) start end token.block_end s past ds l A c pl i h = mapping_closes start end (tok token.block_end start end) s past ds l refl (λ name. refl) pl h
taken_loads_by (state.colon place) start end token.value s past ds l A c pl i h = loads_on past (tok token.value start end) ds l (state.optional place end ∷ []) s refl (h.0, held l h.1)
taken_loads_by (state.with_properties w p) start end b s past ds l A c pl i h = properties_loads w p.anchor p.tag p.from p.to start end b s past ds l c pl h.0 h.1
taken_loads_by (state.items brackets.Sequence o) start end token.key s past ds l A c pl i h =
    loads_given past (tok token.key start end) ds l (item_at (item.node None None (item.mapping YAML_FLOW_MAPPING_STYLE)) start end)
    (state.optional (FlowPair brackets.Sequence Key) end ∷ state.colon (FlowPair brackets.Sequence Value) ∷ state.pair_end ∷ state.more brackets.Sequence o ∷ []) s (λ m. Added None l m) refl
    (node_passes None None (item.mapping YAML_FLOW_MAPPING_STYLE) start end ds l) (λ m a. (added_names None past l m h.0 a, held m a.rooted))
taken_loads_by (state.items brackets.Mapping o) start end token.key s past ds l A c pl i h =
    loads_on past (tok token.key start end) ds l (state.optional (FlowPair brackets.Mapping Key) end ∷ state.colon (FlowPair brackets.Mapping Value) ∷ state.more brackets.Mapping o ∷ []) s refl (h.0, held l h.1)
taken_loads_by (state.items brackets.Sequence o) start end token.flow_sequence_end s past ds l A c pl i h = sequence_closes start end (tok token.flow_sequence_end start end) s past ds l refl (λ name. refl) pl h
taken_loads_by (state.items brackets.Mapping o) start end token.flow_sequence_end s past ds l A c pl i h = absurd (was_take _ c)
taken_loads_by (state.items brackets.Sequence o) start end token.flow_mapping_end s past ds l A c pl i h = absurd (was_take _ c)
taken_loads_by (state.items brackets.Mapping o) start end token.flow_mapping_end s past ds l A c pl i h = mapping_closes start end (tok token.flow_mapping_end start end) s past ds l refl (λ name. refl) pl h
taken_loads_by (state.items brackets.Sequence o) start end b s past ds l A c pl i h = part_loads brackets.Sequence o start end b s past ds l (starts_part (starts_node Flow (type_of b)) problem.NoFlowNode c) pl h
taken_loads_by (state.items brackets.Mapping o) start end b s past ds l A c pl i h = part_loads brackets.Mapping o start end b s past ds l (starts_part (starts_node Flow (type_of b)) problem.NoFlowNode c) pl h
taken_loads_by (state.more bs o) start end token.flow_entry s past ds l A c pl i h = loads_on past (tok token.flow_entry start end) ds l (state.items bs o ∷ []) s refl h
taken_loads_by (state.more brackets.Sequence o) start end token.flow_sequence_end s past ds l A c pl i h = sequence_closes start end (tok token.flow_sequence_end start end) s past ds l refl (λ name. refl) pl h
taken_loads_by (state.more brackets.Mapping o) start end token.flow_mapping_end s past ds l A c pl i h = mapping_closes start end (tok token.flow_mapping_end start end) s past ds l refl (λ name. refl) pl h
taken_loads_by (state.more brackets.Sequence o) start end _ s past ds l A c pl i h = absurd (was_take _ c)
taken_loads_by (state.more brackets.Mapping o) start end _ s past ds l A c pl i h = absurd (was_take _ c)
taken_loads_by _ start end _ s past ds l A c pl i h = absurd (was_take _ c)

pub taken_loads : (x : State) (t : Token) (s : List State) (past : List Token) (ds : Directives)
    (l : Loading) (A : Type 0) → choice_at x (type_of t.body) ≡ Take → Plain s → SitsAt x s A → Fits
    (x ∷ s) past l → FedLoads past t ds l (given_by (taken_at x t) s)
taken_loads x t s past ds l A c pl i h = taken_loads_by x t.start_mark t.end_mark t.body s past ds l A c pl i h
