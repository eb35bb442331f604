-- What the document in the making knows of the tokens that were read: their anchors, and whether there is a root.
use Rattle.std.proofs.Common.{◌≡◌, ℕ, ℤ, Bool, true, false, if◌then◌else◌, ◌||◌, List, [], ◌∷◌, ◌++◌, Option, Some, None, is_some, cond, codes, refl, ap, ◌∙◌, arith}
use Rattle.std.specs.FinMap as map
use Rattle.yaml_parse_laws_trees.proofs.Words.{bytes_eq, nat_list_cmp_total, yaml_mark_t, yaml_scalar_style_t, Token, Fault, EventBody, RawEvent, Properties, Tag, Shape, item_at, node_at, State, Fed, stop, go, with_item, given_by, Directives, Settled, gave, noted, settle, placed, node_event, with_resolved, resolved, Anchors, is_same, Loading, named, closed, step, has_anchor, alias_fault, change_place}
use Rattle.yaml_parse_laws_trees.specs.parse_grammar.parse_model.Nodes.{Node}
use Rattle.yaml_parse_laws_trees.specs.parse_grammar.parse_model.Events as event
use Rattle.yaml_parse_laws_trees.specs.parse_grammar.Items as item
use Rattle.yaml_parse_laws_trees.specs.parse_grammar.States as state
use Rattle.yaml_parse_laws_trees.specs.parse_grammar.Resolve as resolve
use Rattle.yaml_parse_laws_trees.proofs.FaultsStanding.{other, told, Plain}
use Rattle.yaml_parse_laws_trees.proofs.Settling.{Done, bad, fine, then_read, read_all}
use Rattle.yaml_parse_loader.specs.Loading.{Open, next}
use Rattle.yaml_parse_laws_trees.proofs.ItemsLoaded.{Fared, ended, onward, unless_empty, then_fed, then_load, load_items}

-- ---- names

abbrev pub known : List ℕ → Loading → Bool
known name l = is_some (map.get l.anchors name)

abbrev pub Rooted : List Node → Type 0
Rooted [] = ⊥
Rooted (n ∷ ns) = Unit {0}

abbrev pub is_named : List ℕ → Option (List ℕ) → Bool
is_named name None = false
is_named name (Some met) = is_same name met

-- the names that are known, and that of an anchor whose node is to come, are those of the tokens' anchors
abbrev pub Owes : Option (List ℕ) → List Token → Loading → Type 0
Owes anchor past l = (name : List ℕ) → (is_named name anchor || known name l) ≡ has_anchor name past

abbrev pub Names : List Token → Loading → Type 0
Names past l = Owes None past l

-- what is named is a node
abbrev pub Held : Loading → Type 0
Held l = (name : List ℕ) → known name l ≡ true → Rooted l.document.nodes

pub held : (l : Loading) → Rooted l.document.nodes → Held l
held l h = λ name k. h

abbrev pub NoneNamed : List Token → Type 0
NoneNamed past = (name : List ℕ) → has_anchor name past ≡ false

abbrev pub FitsAt : State → List Token → Loading → Type 0
FitsAt state.stream past l = NoneNamed past
FitsAt state.first past l = NoneNamed past
FitsAt state.documents past l = Unit {0}
FitsAt (state.directives from) past l = Unit {0}
FitsAt state.document_end past l = Rooted l.document.nodes
FitsAt (state.optional place before) past l = Names past l × Held l
FitsAt (state.with_properties w p) past l = Owes p.anchor past l × Held l
FitsAt _ past l = Names past l × Rooted l.document.nodes

abbrev pub Fits : List State → List Token → Loading → Type 0
Fits [] past l = Unit {0}
Fits (x ∷ s) past l = FitsAt x past l

fits_top : (x : State) (s : List State) (past : List Token) (l : Loading) → told x ≡ other
    → Names past l → Rooted l.document.nodes → Fits (x ∷ s) past l
fits_top x s past l e n r = grind arith

pub fits_below : (s : List State) (past : List Token) (l : Loading) → Plain s → Names past l
    → Rooted l.document.nodes → Fits s past l
fits_below s past l p n r = grind (arith, fits_top)

-- ---- what a node adds

pub record Added (anchor : Option (List ℕ)) (l m : Loading) : Type 0 where
  pub anchors : m.anchors ≡ named anchor (next l) l.anchors
  pub rooted : Rooted m.document.nodes

rooted_push : (ns : List Node) (n : Node) → Rooted (ns ++ n ∷ [])
rooted_push [] n = tt
rooted_push (x ∷ ns) n = tt

found_either : (b : Bool) (n : ℤ) (o : Option ℤ) → is_some (cond b (Some n) o) ≡ (b || is_some o)
found_either b n o = grind arith

named_known : (anchor : Option (List ℕ)) (n : ℤ) (ks : Anchors) (name : List ℕ)
    → is_some (map.get (named anchor n ks) name)
    ≡ (is_named name anchor || is_some (map.get ks name))
named_known None n ks name = refl
named_known (Some met) n ks name =
    ap (λ (o : Option ℤ). is_some o) (map.get-insert nat_list_cmp_total ks met n name) ∙ found_either (is_same name met) n (map.get ks name)

pub added_names : (anchor : Option (List ℕ)) (past : List Token) (l m : Loading)
    → Owes anchor past l → Added anchor l m → Names past m
added_names anchor past l m o a name = ap (λ (ks : Anchors). is_some (map.get ks name)) a.anchors ∙ named_known anchor (next l) l.anchors name ∙ o name

-- ---- what an item passes

-- the item is refused for its tag, or the loader goes on with it and has that
abbrev pub Passes : Settled → RawEvent → Loading → (Loading → Type 0) → Type 0
Passes (resolve.refused f) i l Q = Unit {0}
Passes (gave body ds) i l Q = (m : Loading) × ((k : Loading → Fared) → then_fed (step (placed body i) l) k ≡ k m) × Q m
Passes (noted ds) i l Q = Q l

pub passes_on : (c : Settled) (i : RawEvent) (l : Loading) (P Q : Loading → Type 0)
    → ((m : Loading) → P m → Q m) → Passes c i l P → Passes c i l Q
passes_on (resolve.refused f) i l P Q h p = tt
passes_on (gave body ds) i l P Q h p = (p.0, p.1, h p.0 p.2)
passes_on (noted ds) i l P Q h p = h l p

abbrev NodeGoes : EventBody → RawEvent → Option (List ℕ) → Loading → Type 0
NodeGoes body i anchor l = (m : Loading) × ((k : Loading → Fared) → then_fed (step (placed body i) l) k ≡ k m) × Added anchor l m

scalar_goes : (anchor tag : Option (List ℕ)) (value : List ℕ) (plain quoted : Bool)
    (style : yaml_scalar_style_t) (i : RawEvent) (l : Loading)
    → NodeGoes (event.scalar anchor tag value plain quoted style) i anchor l
scalar_goes anchor tag value plain quoted style i l = (_, λ k. refl, record { anchors = refl; rooted = rooted_push l.document.nodes _ })

tagged_goes : (b : Bool) (anchor : Option (List ℕ)) (tag value : List ℕ)
    (style : yaml_scalar_style_t) (i : RawEvent) (l : Loading)
    → NodeGoes (if b then event.scalar anchor None value true false style else event.scalar anchor
    (Some tag) value false false style) i anchor l
tagged_goes true anchor tag value style i l = scalar_goes anchor None value true false style i l
tagged_goes false anchor tag value style i l = scalar_goes anchor (Some tag) value false false style i l

shape_goes : (anchor tag : Option (List ℕ)) (shape : Shape) (i : RawEvent) (l : Loading)
    → NodeGoes (node_event anchor tag shape) i anchor l
shape_goes anchor tag item.empty i l = scalar_goes anchor tag [] true true _ i l
shape_goes anchor None (item.scalar value style) i l = scalar_goes anchor None value true true style i l
shape_goes anchor (Some tag) (item.scalar value style) i l = tagged_goes (bytes_eq tag (codes "!")) anchor tag value style i l
shape_goes anchor tag _ i l = (_, λ k. refl, record { anchors = refl; rooted = rooted_push l.document.nodes _ })

resolved_passes : (o : Option (List ℕ)) (anchor : Option (List ℕ)) (shape : Shape)
    (from at : yaml_mark_t) (ds : Directives) (i : RawEvent) (l : Loading)
    → Passes (with_resolved o anchor shape from at ds) i l (λ m. Added anchor l m)
resolved_passes None anchor shape from at ds i l = tt
resolved_passes (Some tag) anchor shape from at ds i l = shape_goes anchor (Some tag) shape i l

pub node_passes : (anchor : Option (List ℕ)) (tag : Option Tag) (shape : Shape)
    (from to : yaml_mark_t) (ds : Directives) (l : Loading)
    → Passes (settle (item_at (item.node anchor tag shape) from to) ds)
    (item_at (item.node anchor tag shape) from to) l (λ m. Added anchor l m)
node_passes anchor None shape from to ds l = shape_goes anchor None shape (item_at (item.node anchor None shape) from to) l
node_passes anchor (Some t) shape from to ds l = resolved_passes (resolved ds.tags t.handle t.suffix) anchor shape from t.mark ds (item_at (item.node anchor (Some t) shape) from to) l

abbrev pub anchor_in : Option Properties → Option (List ℕ)
anchor_in None = None
anchor_in (Some p) = p.anchor

pub placed_passes : (p : Option Properties) (shape : Shape) (start end : yaml_mark_t)
    (ds : Directives) (l : Loading)
    → Passes (settle (node_at p shape start end) ds) (node_at p shape start end) l
    (λ m. Added (anchor_in p) l m)
placed_passes None shape start end ds l = node_passes None None shape start end ds l
placed_passes (Some p) shape start end ds l = node_passes p.anchor p.tag shape p.from end ds l

-- the end of a collection
rooted_change : (f : Node → Node) (k : ℕ) (ns : List Node) → Rooted ns
    → Rooted (change_place f k ns)
rooted_change f k ns h = grind arith

closed_rooted : (to : yaml_mark_t) (l : Loading) (os : List Open) → Rooted l.document.nodes
    → Rooted (closed to l os).document.nodes
closed_rooted to l os h = grind (arith, rooted_change)

closed_names : (to : yaml_mark_t) (l : Loading) (os : List Open) (past : List Token) → Names past l
    → Names past (closed to l os)
closed_names to l os past h = grind arith

pub closed_fits : (to : yaml_mark_t) (l : Loading) (s : List State) (past : List Token) → Plain s
    → Names past l → Rooted l.document.nodes → Fits s past (closed to l l.levels)
closed_fits to l s past p n r = fits_below s past (closed to l l.levels) p (closed_names to l l.levels past n) (closed_rooted to l l.levels r)

-- the end of a document
pub whole : (ns : List Node) (r : Fared) → Rooted ns → unless_empty ns r ≡ r
whole [] r h = absurd h
whole (n ∷ ns) r h = refl

-- ---- a step

abbrev pub Alike : Done → Fared → Type 0
Alike (bad e) r = r ≡ ended (Some e)
Alike (fine ds) r = (l : Loading) × (r ≡ onward ds l)

-- an alias without an anchor ends the loads; else the stack fits what is in the making
abbrev pub AtAlias : Option Fault → Directives → Fared → List State → List Token → Type 0
AtAlias (Some e) ds r s past = r ≡ ended (Some e)
AtAlias None ds r s past = (l : Loading) × (r ≡ onward ds l) × Fits s past l

abbrev pub Steps : List Token → Token → Done → Fared → List State → Type 0
Steps past t (bad e) r s = r ≡ ended (Some e)
Steps past t (fine ds) r s = AtAlias (alias_fault past t.body t.start_mark) ds r s (t ∷ past)

abbrev pub FedLoads : List Token → Token → Directives → Loading → Fed → Type 0
FedLoads past t ds l (stop is e) = Alike (read_all is ds) (load_items is ds l)
FedLoads past t ds l (go is s) = Steps past t (read_all is ds) (load_items is ds l) s

front_stop : (c : Settled) (i : RawEvent) (is : List RawEvent) (l : Loading) (Q : Loading → Type 0)
    → Passes c i l Q
    → ((m : Loading) → Q m → (d : Directives) → Alike (read_all is d) (load_items is d m))
    → Alike (then_read c (λ d. read_all is d)) (then_load c i l (λ d m. load_items is d m))
front_stop c i is l Q h k = grind arith

front_go : (past : List Token) (t : Token) (s : List State) (c : Settled) (i : RawEvent)
    (is : List RawEvent) (l : Loading) (Q : Loading → Type 0) → Passes c i l Q
    → ((m : Loading) → Q m → (d : Directives) → Steps past t (read_all is d) (load_items is d m) s)
    → Steps past t (then_read c (λ d. read_all is d)) (then_load c i l (λ d m. load_items is d m)) s
front_go past t s c i is l Q h k = grind arith

pub loads_with : (past : List Token) (t : Token) (ds : Directives) (l : Loading) (i : RawEvent)
    (fed : Fed) (Q : Loading → Type 0) → Passes (settle i ds) i l Q
    → ((m : Loading) → Q m → (d : Directives) → FedLoads past t d m fed)
    → FedLoads past t ds l (with_item i fed)
loads_with past t ds l i (stop is e) Q h k = front_stop (settle i ds) i is l Q h k
loads_with past t ds l i (go is s) Q h k = front_go past t s (settle i ds) i is l Q h k

at_none : (o : Option Fault) (ds : Directives) (s : List State) (past : List Token) (l : Loading)
    → o ≡ None → Fits s past l → AtAlias o ds (onward ds l) s past
at_none None ds s past l e h = (l, refl, h)
at_none (Some f) ds s past l e h = cc

-- a token that is no alias, or one with its anchor
pub loads_on : (past : List Token) (t : Token) (ds : Directives) (l : Loading)
    (above s : List State) → alias_fault past t.body t.start_mark ≡ None
    → Fits (above ++ s) (t ∷ past) l
    → FedLoads past t ds l (given_by (record { item = None; above = above }) s)
loads_on past t ds l above s e h = at_none (alias_fault past t.body t.start_mark) ds (above ++ s) (t ∷ past) l e h

pub loads_given : (past : List Token) (t : Token) (ds : Directives) (l : Loading) (i : RawEvent)
    (above s : List State) (Q : Loading → Type 0) → alias_fault past t.body t.start_mark ≡ None
    → Passes (settle i ds) i l Q
    → ((m : Loading) → Q m → Fits (above ++ s) (t ∷ past) m)
    → FedLoads past t ds l (given_by (record { item = Some i; above = above }) s)
loads_given past t ds l i above s Q e h k = loads_with past t ds l i (go [] (above ++ s)) Q h (λ m q d. at_none (alias_fault past t.body t.start_mark) d (above ++ s) (t ∷ past) m e (k m q))
