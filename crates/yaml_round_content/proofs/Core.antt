-- The loader without styles and marks, as a function of what the events say.
use Rattle.std.proofs.Common.{◌≡◌, ◌++◌, ℕ, zero, suc, ℤ, pos, Bool, true, false, List, [], ◌∷◌, length, map, Option, Some, None, refl, ap, ◌∙◌}
use Rattle.yaml_round_content.proofs.Words.{map-append, length-map, nat_cmp, slice_cmp, yaml_mark_t, yaml_version_directive_t, YAML_ANY_SCALAR_STYLE, YAML_ANY_SEQUENCE_STYLE, YAML_ANY_MAPPING_STYLE, Fault, EventBody, TagDirective, str_tag, Told, loaded_tag, Open, open_sequence, open_mapping, Loading, nothing_loaded, attach, named, LoadStep, goes_on, loaded, step, Loads, in_front, load_on, load_all, CoreNode, Core, core_body, core_node, core_of, change_place, seq_tag, map_tag, filled, filled_body, place_of, closed, aliased, enter_leaf, enter_open, step_body}
use Rattle.std.specs.FinMap as map
use Rattle.std.specs.FinMap.{FinMap}
use Rattle.yaml_parse_model.specs.Events as event
use Rattle.yaml_parse_model.specs.Nodes.{Node, NodeBody}
use Rattle.yaml_parse_model.specs.Nodes as node
use Rattle.yaml_parse_model.specs.Documents.{Document}
use Rattle.yaml_parse_loader.specs.Loading.{refused}

-- ---- the machine

-- the number of the node that each anchor names
abbrev pub Anchors : Type 0
Anchors = FinMap (slice_cmp nat_cmp) ℤ

pub record CoreLoading : Type 0 where
  pub document : Core
  pub levels : List Open
  pub anchors : Anchors

pub data CoreFed : Type 0 where
  core_goes_on : CoreLoading → CoreFed
  core_loaded : Core → CoreFed
  core_refused : CoreFed

pub record CoreLoads : Type 0 where
  pub documents : List Core
  pub refused : Bool

-- a node more, after that many
abbrev pub core_leaf : ℕ → Option (List ℕ) → CoreNode → CoreLoading → CoreLoading
core_leaf k anchor n l = record {
  document = record { version = l.document.version; directives = l.document.directives; nodes = l.document.nodes ++ n ∷ [] };
  levels = attach (pos (suc k)) l.levels;
  anchors = named anchor (pos (suc k)) l.anchors;
}

abbrev pub core_open : ℕ → Option (List ℕ) → CoreNode → Open → CoreLoading → CoreLoading
core_open k anchor n o l = record {
  document = record { version = l.document.version; directives = l.document.directives; nodes = l.document.nodes ++ n ∷ [] };
  levels = o ∷ attach (pos (suc k)) l.levels;
  anchors = named anchor (pos (suc k)) l.anchors;
}

abbrev pub change_core : (CoreNode → CoreNode) → ℕ → List CoreNode → List CoreNode
change_core f k [] = []
change_core f zero (n ∷ ns) = f n ∷ ns
change_core f (suc k) (n ∷ ns) = n ∷ change_core f k ns

abbrev pub core_filled : Open → CoreNode → CoreNode
core_filled o n = record { tag = n.tag; body = filled_body o n.body }

abbrev pub core_closed : CoreLoading → List Open → CoreLoading
core_closed l [] = l
core_closed l (o ∷ os) = record {
  document = record { version = l.document.version; directives = l.document.directives; nodes = change_core (core_filled o) (place_of o) l.document.nodes };
  levels = os;
  anchors = l.anchors;
}

abbrev pub core_aliased : Option ℤ → CoreLoading → CoreFed
core_aliased None l = core_refused
core_aliased (Some n) l = core_goes_on (record { document = l.document; levels = attach n l.levels; anchors = l.anchors })

abbrev pub core_started : Option yaml_version_directive_t → List TagDirective → CoreLoading
core_started version directives = record {
  document = record { version = version; directives = directives; nodes = [] };
  levels = [];
  anchors = map.empty;
}

abbrev pub core_scalar : Option (List ℕ) → List ℕ → CoreNode
core_scalar tag value = record { tag = loaded_tag tag str_tag; body = node.scalar value YAML_ANY_SCALAR_STYLE }

abbrev pub core_sequence : Option (List ℕ) → CoreNode
core_sequence tag = record { tag = loaded_tag tag seq_tag; body = node.sequence [] YAML_ANY_SEQUENCE_STYLE }

abbrev pub core_mapping : Option (List ℕ) → CoreNode
core_mapping tag = record { tag = loaded_tag tag map_tag; body = node.mapping [] YAML_ANY_MAPPING_STYLE }

abbrev pub core_step : EventBody → CoreLoading → CoreFed
core_step (event.document_start version directives implicit) l = core_goes_on (core_started version directives)
core_step (event.document_end implicit) l = core_loaded l.document
core_step (event.alias name) l = core_aliased (map.get l.anchors name) l
core_step (event.scalar anchor tag value plain quoted style) l = core_goes_on (core_leaf (length l.document.nodes) anchor (core_scalar tag value) l)
core_step (event.sequence_start anchor tag implicit style) l =
    core_goes_on (core_open (length l.document.nodes) anchor (core_sequence tag) (open_sequence (length l.document.nodes) []) l)
core_step (event.mapping_start anchor tag implicit style) l =
    core_goes_on (core_open (length l.document.nodes) anchor (core_mapping tag) (open_mapping (length l.document.nodes) [] None) l)
core_step event.sequence_end l = core_goes_on (core_closed l l.levels)
core_step event.mapping_end l = core_goes_on (core_closed l l.levels)
core_step _ l = core_goes_on l

abbrev pub core_nothing : CoreLoading
core_nothing = core_started None []

abbrev pub core_in_front : List CoreNode → Core → CoreLoads → CoreLoads
core_in_front [] d rest = record { documents = []; refused = false }
core_in_front (n ∷ ns) d rest = record { documents = d ∷ rest.documents; refused = rest.refused }

abbrev pub core_on : CoreFed → (CoreLoading → CoreLoads) → CoreLoads
core_on (core_goes_on l) rest = rest l
core_on (core_loaded d) rest = core_in_front d.nodes d (rest core_nothing)
core_on core_refused rest = record { documents = []; refused = true }

-- the documents of what events say, with or without a fault after them
unfoldable pub core_loads : List EventBody → Bool → CoreLoading → CoreLoads
core_loads [] f l = record { documents = []; refused = f }
core_loads (b ∷ bs) f l = core_on (core_step b l) (core_loads bs f)

-- ---- what the loader has, without styles and marks

abbrev pub core_loading : Loading → CoreLoading
core_loading l = record { document = core_of l.document; levels = l.levels; anchors = l.anchors }

abbrev pub core_fed : LoadStep → CoreFed
core_fed (goes_on l) = core_goes_on (core_loading l)
core_fed (loaded d) = core_loaded (core_of d)
core_fed (refused f) = core_refused

abbrev pub is_fault : Option Fault → Bool
is_fault None = false
is_fault (Some f) = true

abbrev pub cores : Loads → CoreLoads
cores a = record { documents = map core_of a.documents; refused = is_fault a.fault }

-- ---- one event

core_count : (l : Loading) → length l.document.nodes ≡ length (core_of l.document).nodes
core_count l = let e : length (map core_node l.document.nodes) ≡ length l.document.nodes = length-map l.document.nodes core_node in rw e refl

leaf_core : (l : Loading) (anchor : Option (List ℕ)) (n : Node)
    → core_loading (enter_leaf l anchor n)
    ≡ core_leaf (length (core_of l.document).nodes) anchor (core_node n) (core_loading l)
leaf_core l anchor n =
    let k = length l.document.nodes in
    let at : ℕ → List CoreNode → CoreLoading = λ k ns. record {
      document = record { version = l.document.version; directives = l.document.directives; nodes = ns };
      levels = attach (pos (suc k)) l.levels;
      anchors = named anchor (pos (suc k)) l.anchors;
    } in
    ap (λ (ns : List CoreNode). at k ns) (map-append core_node l.document.nodes (n ∷ [])) ∙ ap (λ (j : ℕ). at j (map core_node l.document.nodes ++ core_node n ∷ [])) (core_count l)

open_core : (l : Loading) (anchor : Option (List ℕ)) (n : Node) (o : ℕ → Open)
    → core_loading (enter_open l anchor n (o (length l.document.nodes)))
    ≡ core_open (length (core_of l.document).nodes) anchor (core_node n)
    (o (length (core_of l.document).nodes)) (core_loading l)
open_core l anchor n o =
    let k = length l.document.nodes in
    let at : ℕ → List CoreNode → CoreLoading = λ k ns. record {
      document = record { version = l.document.version; directives = l.document.directives; nodes = ns };
      levels = o k ∷ attach (pos (suc k)) l.levels;
      anchors = named anchor (pos (suc k)) l.anchors;
    } in
    ap (λ (ns : List CoreNode). at k ns) (map-append core_node l.document.nodes (n ∷ [])) ∙ ap (λ (j : ℕ). at j (map core_node l.document.nodes ++ core_node n ∷ [])) (core_count l)

filled_core : (o : Open) (b : NodeBody) → core_body (filled_body o b) ≡ filled_body o (core_body b)
filled_core (open_sequence place items) node.no = refl
filled_core (open_sequence place items) (node.scalar value style) = refl
filled_core (open_sequence place items) (node.sequence none style) = refl
filled_core (open_sequence place items) (node.mapping none style) = refl
filled_core (open_mapping place pairs key) node.no = refl
filled_core (open_mapping place pairs key) (node.scalar value style) = refl
filled_core (open_mapping place pairs key) (node.sequence none style) = refl
filled_core (open_mapping place pairs key) (node.mapping none style) = refl

changed_core : (o : Open) (to : yaml_mark_t) (k : ℕ) (ns : List Node)
    → map core_node (change_place (filled o to) k ns)
    ≡ change_core (core_filled o) k (map core_node ns)
changed_core o to k [] = refl
changed_core o to zero (n ∷ ns) = ap (λ (c : CoreNode). c ∷ map core_node ns) (ap (λ (b : NodeBody). let c : CoreNode = record { tag = n.tag; body = b } in c) (filled_core o n.body))
changed_core o to (suc k) (n ∷ ns) = ap (λ (cs : List CoreNode). core_node n ∷ cs) (changed_core o to k ns)

closed_core : (to : yaml_mark_t) (l : Loading) (os : List Open)
    → core_loading (closed to l os) ≡ core_closed (core_loading l) os
closed_core to l [] = refl
closed_core to l (o ∷ os) =
    ap (λ (ns : List CoreNode). let m : CoreLoading = record {
      document = record { version = l.document.version; directives = l.document.directives; nodes = ns };
      levels = os;
      anchors = l.anchors;
    } in m) (changed_core o to (place_of o) l.document.nodes)

aliased_core : (n : Option ℤ) (at : yaml_mark_t) (l : Loading)
    → core_fed (aliased n at l) ≡ core_aliased n (core_loading l)
aliased_core None at l = refl
aliased_core (Some n) at l = refl

pub step_core : (b : EventBody) (from to : yaml_mark_t) (l : Loading)
    → core_fed (step_body b from to l) ≡ core_step b (core_loading l)
step_core (event.alias name) from to l = aliased_core (map.get l.anchors name) from l
step_core (event.scalar anchor tag value plain quoted style) from to l = ap (λ (m : CoreLoading). core_goes_on m) (leaf_core l anchor _)
step_core (event.sequence_start anchor tag implicit style) from to l = ap (λ (m : CoreLoading). core_goes_on m) (open_core l anchor _ (λ k. open_sequence k []))
step_core (event.mapping_start anchor tag implicit style) from to l = ap (λ (m : CoreLoading). core_goes_on m) (open_core l anchor _ (λ k. open_mapping k [] None))
step_core event.sequence_end from to l = ap (λ (m : CoreLoading). core_goes_on m) (closed_core to l l.levels)
step_core event.mapping_end from to l = ap (λ (m : CoreLoading). core_goes_on m) (closed_core to l l.levels)
step_core _ from to l = refl

-- ---- whole runs

front_core : (ns : List Node) (d : Document) (rest : Loads)
    → cores (in_front ns d rest) ≡ core_in_front (map core_node ns) (core_of d) (cores rest)
front_core [] d rest = refl
front_core (n ∷ ns) d rest = refl

on_core : (x : LoadStep) (go : Loading → Loads) (more : CoreLoading → CoreLoads)
    → ((l : Loading) → cores (go l) ≡ more (core_loading l))
    → cores (load_on x go) ≡ core_on (core_fed x) more
on_core (goes_on l) go more h = h l
on_core (loaded d) go more h = front_core d.nodes d (go nothing_loaded) ∙ ap (λ (a : CoreLoads). core_in_front (map core_node d.nodes) (core_of d) a) (h nothing_loaded)
on_core (refused f) go more h = refl

abbrev pub bodies : List Told → List EventBody
bodies es = map (λ (t : Told). t.0.body) es

-- what is loaded, without styles and marks, is what the machine without them loads
pub load_cores : (es : List Told) (f : Option Fault) (l : Loading)
    → cores (load_all es f l) ≡ core_loads (bodies es) (is_fault f) (core_loading l)
unfolding load_all core_loads
load_cores [] f l = refl
load_cores (t ∷ es) f l =
    on_core (step t.0 l) (load_all es f) (core_loads (bodies es) (is_fault f)) (λ m. load_cores es f m)
    ∙ ap (λ (x : CoreFed). core_on x (core_loads (bodies es) (is_fault f))) (step_core t.0.body t.0.start_mark t.0.end_mark l)
