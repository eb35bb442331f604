-- Which keys of a document's mappings are repeated.
use Rattle.std.specs.Prelude.{◌≡◌, ◌⊎◌, ℕ, ◌==◌, ℤ, pos, Bool, true, false, if◌then◌else◌, List, [], ◌∷◌, ◌++◌, All, AllPairs, Option, Some, None, Result, Ok, Err, option_map, codes, nat_eq}
use Rattle.std.specs.FinMap as map
use Rattle.std.specs.declared.alloc.AllocError.{AllocError}
use Rattle.std.specs.Cmp.Lexicographic.{pointwise}
use Rattle.yaml_parse_model.specs.declared.yaml_mark_t.{yaml_mark_t}
use Rattle.yaml_parse_model.specs.scan_types.Tokens.{zero_mark}
use Rattle.yaml_parse_model.specs.declared.yaml_node_pair_t.{yaml_node_pair_t}
use Rattle.yaml_parse_model.specs.declared.yaml_scalar_style_t.TheVariants.{YAML_PLAIN_SCALAR_STYLE}
use Rattle.yaml_parse_model.specs.Nodes.{Node, NodeBody}
use Rattle.yaml_parse_model.specs.Nodes as node
use Rattle.yaml_parse_model.specs.Documents.{node_at}
use Rattle.yaml_emit_graph.specs.Graph.{body_of_id}
use Rattle.yaml_round_documents.specs.Same.{AreSame}
use Rattle.yaml_round_documents.specs.Shapes.{Shapes}
use Rattle.yaml_round_documents.specs.Matching.{put_first}
use Rattle.yaml_round_documents.specs.Ranks.{IfJudged, IsRanking, label_of, natural}
use Rattle.yaml_round_documents.specs.declared.ranks.Ranks.{Ranks}
use Rattle.yaml_round_documents.specs.declared.repeated.yaml_same_key_t.{yaml_same_key_t}
use Rattle.yaml_round_documents.specs.declared.repeated.Teller.{Teller}

-- the keys of a mapping, in order
abbrev pub pair_keys : List yaml_node_pair_t → List ℤ
pair_keys [] = []
pair_keys (p ∷ ps) = p.key ∷ pair_keys ps

abbrev pub keys_of : NodeBody → List ℤ
keys_of node.no = []
keys_of (node.scalar value style) = []
keys_of (node.sequence items style) = []
keys_of (node.mapping pairs style) = pair_keys pairs

-- a plain `<<`, which may come again
abbrev pub is_plain_merge : NodeBody → Bool
is_plain_merge (node.scalar value YAML_PLAIN_SCALAR_STYLE) = pointwise nat_eq value (codes "<<")
is_plain_merge _ = false

-- where a node begins
abbrev pub mark_at : Option Node → yaml_mark_t
mark_at None = zero_mark
mark_at (Some n) = n.start_mark

-- where a node ends
abbrev pub end_at : Option Node → yaml_mark_t
end_at None = zero_mark
end_at (Some n) = n.end_mark

-- a key, and the first one of its mapping that is the same
abbrev pub same_key : List Node → ℤ → ℤ → yaml_same_key_t
same_key nodes key first = record {
  key = key;
  first = first;
  mark = mark_at (node_at nodes key);
  end_mark = end_at (node_at nodes key);
  first_mark = mark_at (node_at nodes first);
}

-- a key is reported where one before it is the same
abbrev pub told_of : List Node → ℤ → Option ℤ → List yaml_same_key_t
told_of nodes key None = []
told_of nodes key (Some first) = if is_plain_merge (body_of_id nodes key) then []
    else same_key nodes key first ∷ []

-- the first of these keys that is the same as that one; none where none is
abbrev pub IsFirstSame : List Node → ℤ → List ℤ → Option ℤ → Type 0
IsFirstSame nodes key [] first = first ≡ None
IsFirstSame nodes key (k ∷ keys) first = (AreSame nodes k key × (first ≡ Some k))
    ⊎ ((AreSame nodes k key → ⊥) × IsFirstSame nodes key keys first)

-- what is reported of these keys, with those before them in their mapping
abbrev pub AreToldBehind : List Node → List ℤ → List ℤ → List yaml_same_key_t → Type 0
AreToldBehind nodes before [] told = told ≡ []
AreToldBehind nodes before (key ∷ keys) told = (first : Option ℤ)
    × (others : List yaml_same_key_t) × (told ≡ told_of nodes key first ++ others)
    × IsFirstSame nodes key before first
    × AreToldBehind nodes (before ++ key ∷ []) keys others

-- mapping by mapping
abbrev pub AreToldIn : List Node → List Node → List yaml_same_key_t → Type 0
AreToldIn nodes [] told = told ≡ []
AreToldIn nodes (n ∷ ns) told = (keys : List yaml_same_key_t) × (others : List yaml_same_key_t)
    × (told ≡ keys ++ others) × AreToldBehind nodes [] (keys_of n.body) keys
    × AreToldIn nodes ns others

-- The keys, in order, to which an earlier key of their mapping is the same, each with the first
-- such one.
abbrev pub AreSameKeys : List Node → List yaml_same_key_t → Type 0
AreSameKeys nodes told = AreToldIn nodes nodes told

-- of two keys that are the same the later one is a plain `<<`
abbrev pub IsOnce : List Node → ℤ → ℤ → Type 0
IsOnce nodes first key = AreSame nodes first key → is_plain_merge (body_of_id nodes key) ≡ true

-- of each mapping the keys are distinct, except that a plain `<<` may come again
abbrev pub HaveDistinctKeys : List Node → Type 0
HaveDistinctKeys nodes = All (λ (n : Node). AllPairs (IsOnce nodes) (keys_of n.body)) nodes

-- a document's repeated keys come after those of the documents before
abbrev pub TellsMore : List Node → List yaml_same_key_t → List yaml_same_key_t → Type 0
TellsMore nodes old new = (keys : List yaml_same_key_t) × (new ≡ old ++ keys)
    × AreSameKeys nodes keys

-- ---- by labels: nodes have one label exactly where they are the same

-- the first of these keys with that label
abbrev pub first_with : (ℤ → ℕ) → ℕ → List ℤ → Option ℤ
first_with label l [] = None
first_with label l (key ∷ keys) = if label key == l then Some key else first_with label l keys

-- the repeated keys of these, with those before them in their mapping
abbrev pub told_behind : (ℤ → ℕ) → List Node → List ℤ → List ℤ → List yaml_same_key_t
told_behind label nodes before [] = []
told_behind label nodes before (key ∷ keys) = told_of nodes key
    (first_with label (label key) before)
    ++ told_behind label nodes (before ++ key ∷ []) keys

-- ---- the keys that were met, by their labels

-- the label by ranks
abbrev pub label_by : Ranks → ℤ → ℕ
label_by r id = label_of r.table.items r.given id

-- a label as a name
abbrev pub label_name : ℕ → List ℕ
label_name l = l ∷ 0 ∷ []

-- the key that was first met with a label
abbrev pub met_with : Shapes → ℕ → Option ℤ
met_with met l = option_map pos (map.get met (label_name l))

-- it is met where there was none
abbrev pub met_by : Shapes → ℕ → ℤ → Shapes
met_by met l key = put_first (map.get met (label_name l)) met (label_name l) (natural key)

-- what was met are these keys, for each label the first
abbrev pub HasMet : (ℤ → ℕ) → Shapes → List ℤ → Type 0
HasMet label met before = (l : ℕ) → met_with met l ≡ first_with label l before

-- a key was met: the first with its label is there
abbrev pub Meets : Shapes → ℕ → ℤ → Result (Option ℤ) AllocError → Shapes → Type 0
Meets old l key (Ok found) new = (found ≡ met_with old l) × (new ≡ met_by old l key)
Meets old l key (Err e) new = Unit {0}

-- a key was met, and reported where it is the same as an earlier one
pub record TellsKey (nodes : List Node) (l : ℕ) (key : ℤ) (old new : Shapes)
    (before after : List yaml_same_key_t) : Type 0 where
  pub told : after ≡ before ++ told_of nodes key (met_with old l)
  pub met : new ≡ met_by old l key

-- the repeated ones of a mapping's keys are reported
abbrev pub TellsKeys : List Node → List ℤ → List yaml_same_key_t → List yaml_same_key_t → Type 0
TellsKeys nodes keys old new = (told : List yaml_same_key_t) × (new ≡ old ++ told)
    × AreToldBehind nodes [] keys told

-- nodes that were judged have a rank, unless they hold a node that has none
abbrev pub IsTeller : List Node → Teller → Type 0
IsTeller nodes t = IsRanking nodes t.ranks × IfJudged nodes t.ranks t.judged
