-- A document in the making, and what each event makes of it.
use Rattle.std.specs.Prelude.{ℕ, suc, ℤ, pos, Bool, false, List, [], ◌∷◌, ◌++◌, length, Option, Some, None, Result, Ok, Err, ◌≡◌, ◌⊎◌}
use Rattle.std.specs.FinMap as map
use Rattle.yaml_parse_model.specs.declared.yaml_mark_t.{yaml_mark_t}
use Rattle.yaml_parse_model.specs.declared.yaml_version_directive_t.{yaml_version_directive_t}
use Rattle.yaml_parse_model.specs.declared.yaml_fault_t.{yaml_fault_t}
use Rattle.yaml_parse_model.specs.declared.yaml_origin_t.TheVariants.{Loader}
use Rattle.yaml_parse_model.specs.scan_types.Tokens.{zero_mark}
use Rattle.yaml_parse_model.specs.scan_types.Faults.{Fault, fault_of, memory_fault}
use Rattle.yaml_parse_model.specs.declared.yaml_node_pair_t.{yaml_node_pair_t}
use Rattle.yaml_parse_model.specs.Events.{Event, EventBody, TagDirective}
use Rattle.yaml_parse_model.specs.Events as event
use Rattle.yaml_parse_model.specs.Nodes.{Node, NodeBody}
use Rattle.yaml_parse_model.specs.Nodes as node
use Rattle.yaml_parse_model.specs.Documents.{Document, with_node, change_place, no_document}
use Rattle.yaml_parse_loader.specs.Anchors.{Anchors}
use Rattle.yaml_parse_loader.specs.Numbering.{Head, scalar_node, sequence_node, mapping_node, undefined_alias}

-- an open collection: its place among the nodes, and what it holds so far; a mapping may have a key without its value
pub data Open : Type 0 where
  open_sequence : ℕ → List ℤ → Open
  open_mapping : ℕ → List yaml_node_pair_t → Option ℤ → Open

-- the document so far, in which open collections are empty yet; the open collections, the innermost first; the anchors
pub record Loading : Type 0 where
  pub document : Document
  pub levels : List Open
  pub anchors : Anchors

abbrev pub nothing_loaded : Loading
nothing_loaded = record { document = no_document; levels = []; anchors = map.empty }

-- a node's number becomes the next item, key or value of the innermost open collection
abbrev pub attached : ℤ → Open → Open
attached n (open_sequence place items) = open_sequence place (items ++ n ∷ [])
attached n (open_mapping place pairs None) = open_mapping place pairs (Some n)
attached n (open_mapping place pairs (Some key)) = let p : yaml_node_pair_t = record {
  key = key;
  value = n;
} in open_mapping place (pairs ++ p ∷ []) None

abbrev pub attach : ℤ → List Open → List Open
attach n [] = []
attach n (o ∷ os) = attached n o ∷ os

-- the number of the next node
abbrev pub next : Loading → ℤ
next l = pos (suc (length l.document.nodes))

-- a node more
abbrev pub with_leaf : Loading → Node → Anchors → Loading
with_leaf l n known = record {
  document = with_node l.document n;
  levels = attach (next l) l.levels;
  anchors = known;
}

-- a node more, which is open
abbrev pub with_open : Loading → Node → Open → Anchors → Loading
with_open l n o known = record {
  document = with_node l.document n;
  levels = o ∷ attach (next l)
      l.levels;
  anchors = known;
}

-- a collection gets what it holds, and its end
abbrev pub filled_body : Open → NodeBody → NodeBody
filled_body (open_sequence place items) (node.sequence none style) = node.sequence items style
filled_body (open_mapping place pairs key) (node.mapping none style) = node.mapping pairs style
filled_body o b = b

abbrev pub filled : Open → yaml_mark_t → Node → Node
filled o to n = record {
  body = filled_body o n.body;
  tag = n.tag;
  start_mark = n.start_mark;
  end_mark = to;
}

abbrev pub place_of : Open → ℕ
place_of (open_sequence place items) = place
place_of (open_mapping place pairs key) = place

abbrev pub closed : yaml_mark_t → Loading → List Open → Loading
closed to l [] = l
closed to l (o ∷ os) = record l {
  document = record l.document {
    nodes = change_place (filled o to)
        (place_of o) l.document.nodes;
  };
  levels = os;
}

-- what an event makes of it: it goes on, a document is loaded, or the event is refused
pub data LoadStep : Type 0 where
  goes_on : Loading → LoadStep
  loaded : Document → LoadStep
  refused : Fault → LoadStep

-- an alias stands for the node that its name names now
abbrev pub aliased : Option ℤ → yaml_mark_t → Loading → LoadStep
aliased None at l = refused (undefined_alias at)
aliased (Some n) at l = goes_on (record l { levels = attach n l.levels })

abbrev pub started : Option yaml_version_directive_t → List TagDirective → Bool → yaml_mark_t
    → Loading
started version directives implicit from = record {
  document = record {
    version = version;
    directives = directives;
    start_implicit = implicit;
    end_implicit = false;
    start_mark = from;
    end_mark = zero_mark;
    nodes = [];
  };
  levels = [];
  anchors = map.empty;
}

abbrev pub ended : Loading → Bool → yaml_mark_t → Document
ended l implicit to = record l.document { end_implicit = implicit; end_mark = to }

abbrev pub head_of : Option (List ℕ) → Option (List ℕ) → yaml_mark_t → yaml_mark_t → Head
head_of anchor tag from to = record { anchor = anchor; tag = tag; start_mark = from; end_mark = to }

-- from its start on a node is what its anchor names, also where that named another one before
abbrev pub named : Option (List ℕ) → ℤ → Anchors → Anchors
named None n known = known
named (Some anchor) n known = map.insert known anchor n

-- a node more, under its anchor
abbrev pub enter_leaf : Loading → Option (List ℕ) → Node → Loading
enter_leaf l anchor n = with_leaf l n (named anchor (next l) l.anchors)

abbrev pub enter_open : Loading → Option (List ℕ) → Node → Open → Loading
enter_open l anchor n o = with_open l n o (named anchor (next l) l.anchors)

abbrev pub step_body : EventBody → yaml_mark_t → yaml_mark_t → Loading → LoadStep
step_body (event.document_start version directives implicit) from to l = goes_on
    (started version directives implicit from)
step_body (event.document_end implicit) from to l = loaded (ended l implicit to)
step_body (event.alias name) from to l = aliased (map.get l.anchors name) from l
step_body (event.scalar anchor tag value plain quoted style) from to l =
    let h : Head = head_of anchor tag from to in goes_on
    (enter_leaf l anchor (scalar_node h value style))
step_body (event.sequence_start anchor tag implicit style) from to l =
    let h : Head = head_of anchor tag from to in goes_on
    (enter_open l anchor (sequence_node h [] style to) (open_sequence (length l.document.nodes) []))
step_body (event.mapping_start anchor tag implicit style) from to l =
    let h : Head = head_of anchor tag from to in goes_on (enter_open l anchor
    (mapping_node h [] style to) (open_mapping (length l.document.nodes) [] None))
step_body event.sequence_end from to l = goes_on (closed to l l.levels)
step_body event.mapping_end from to l = goes_on (closed to l l.levels)
step_body _ from to l = goes_on l

abbrev pub step : Event → Loading → LoadStep
step e l = step_body e.body e.start_mark e.end_mark l

-- memory ran out in the loader
abbrev pub IsStarved : yaml_fault_t → Type 0
IsStarved f = fault_of f ≡ memory_fault Loader

-- what the loader answered to an event is what the event makes of it, unless memory ran out. It starts anew after a
-- document and after a refusal
abbrev pub Feeds : LoadStep → Result (Option Document) yaml_fault_t → Loading → Type 0
Feeds fed (Ok None) new = fed ≡ goes_on new
Feeds fed (Ok (Some d)) new = (fed ≡ loaded d) × (new ≡ nothing_loaded)
Feeds fed (Err f) new = (IsStarved f ⊎ (fed ≡ refused (fault_of f))) × (new ≡ nothing_loaded)

-- ---- whole runs

-- the document that events begin with and the events after it; or the fault that comes first; or the document so far
pub data Loaded : Type 0 where
  unfinished : Loading → Loaded
  document : Document → List Event → Loaded
  faulty : Fault → Loaded

abbrev pub turn : LoadStep → (Loading → Loaded) → List Event → Loaded
turn (goes_on l) go rest = go l
turn (loaded d) go rest = document d rest
turn (refused f) go rest = faulty f

unfoldable pub load : List Event → Loading → Loaded
load [] l = unfinished l
load (e ∷ es) l = turn (step e l) (load es) es

-- a result and what follows it, or its fault
abbrev pub behind : {A : Type 0} → Result A Fault → (A → Loaded) → Loaded
behind (Ok x) go = go x
behind (Err f) go = faulty f
