-- What a walk over nodes still meets.
use Rattle.std.specs.Prelude.{◌≡◌, ◌≤◌, ◌<◌, ℕ, zero, suc, ◌+◌, ◌-◌, ◌^◌, ℤ, pos, Bool, true, false, List, [], ◌∷◌, length, drop, reverse, Option, Some, None, Result, Ok, Err}
use Rattle.std.specs.declared.alloc.AllocError.{AllocError}
use Rattle.yaml_parse_model.specs.declared.yaml_node_pair_t.{yaml_node_pair_t}
use Rattle.yaml_parse_model.specs.Nodes as model
use Rattle.yaml_emit_graph.specs.declared.walk.Turn.{Turn}
use Rattle.yaml_emit_graph.specs.declared.walk.Turn.TheVariants.{First, Again, Leave}
use Rattle.yaml_emit_graph.specs.declared.walk.Open.{Open}
use Rattle.yaml_emit_graph.specs.declared.walk.Walk.{Walk}
use Rattle.yaml_emit_graph.specs.Graph.{Met, is_met, meet, child_ids, is_collection, body_of_id}
use Rattle.yaml_emit_graph.specs.Onward.{Rest, over, visits, nothing_left}

-- what comes next of some numbers, at an index
abbrev pub NextHeld : List ℤ → ℕ → Option ℤ → Type 0
NextHeld held i None = drop i held ≡ []
NextHeld held i (Some id) = (drop i held ≡ id ∷ drop (i + 1) held) × (i + 1 < 2 ^ 64)

-- the open nodes, the innermost first
abbrev pub stack_of : Walk → List Open
stack_of w = reverse w.stack.items

-- a node of which nothing has come
abbrev pub opened : ℤ → Open
opened id = record { node = id; index = 0 }

-- The open nodes to their ends. None lies deeper than there are nodes.
unfoldable pub frames : List model.Node → List Open → Rest
frames nodes [] met = []
frames nodes (o ∷ os) met = over (visits (length nodes - length os) nodes)
    (drop o.index (child_ids (body_of_id nodes o.node)))
    (λ m. Leave o.node ∷ frames nodes os m) met

abbrev pub remaining_by : Bool → List model.Node → List Open → Rest
remaining_by true nodes os = frames nodes os
remaining_by false nodes os = visits (suc (length nodes)) nodes (pos 1) nothing_left

unfoldable pub remaining_turns : List model.Node → Walk → List Turn
remaining_turns nodes w = remaining_by w.started nodes (stack_of w) w.met.items

-- how many marks are set
abbrev pub marked : Met → ℕ
marked [] = 0
marked (true ∷ ms) = suc (marked ms)
marked (false ∷ ms) = marked ms

-- the marks are those of the nodes, and each open node was met
pub record IsWalk (nodes : List model.Node) (w : Walk) : Type 0 where
  pub sized : length w.met.items ≡ length nodes
  pub deep : length (stack_of w) ≤ marked w.met.items
  pub begun : w.started ≡ false → stack_of w ≡ []

-- one number more has come
abbrev pub onward : Open → Open
onward o = record { node = o.node; index = o.index + 1 }

-- the number of a pair's key, or of its value
abbrev pub half_of : yaml_node_pair_t → ℕ → ℤ
half_of p zero = p.key
half_of p (suc n) = p.value

-- a node was marked, and nothing else
abbrev pub Marks : Walk → Walk → Type 0
Marks old new = (new.started ≡ old.started) × (new.stack ≡ old.stack)

abbrev pub with_opened : Bool → ℤ → List Open → List Open
with_opened true id os = opened id ∷ os
with_opened false id os = os

-- a node was visited: it was met before, or it is marked, and open where it is a collection
abbrev pub Visited : List model.Node → ℤ → Walk → Result Turn AllocError → Walk → Type 0
Visited nodes id old (Ok (Again i)) new = (i ≡ id) × (is_met old.met.items id ≡ true) × (new ≡ old)
Visited nodes id old (Ok (First i)) new =
    (i ≡ id) × (is_met old.met.items id ≡ false) × (new.met.items ≡ meet old.met.items id)
    × (new.started ≡ old.started)
    × (stack_of new ≡ with_opened (is_collection (body_of_id nodes id)) id (stack_of old))
Visited nodes id old (Ok (Leave i)) new = ⊥
Visited nodes id old (Err e) new = Unit {0}

-- a walk gives what comes next, and the rest is still to come
abbrev pub Comes : List model.Node → Walk → Result (Option Turn) AllocError → Walk → Type 0
Comes nodes old (Ok None) new = (remaining_turns nodes old ≡ []) × IsWalk nodes new
Comes nodes old (Ok (Some t)) new = (remaining_turns nodes old ≡ t ∷ remaining_turns nodes new)
    × IsWalk nodes new
Comes nodes old (Err e) new = Unit {0}
