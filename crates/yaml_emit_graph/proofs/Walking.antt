-- A walk goes on.
use Rattle.std.proofs.Common.{◌≡◌, ℕ, ◌+◌, ◌-◌, ◌/◌, ◌%◌, ◌^◌, ◌<◌, ◌≤◌, List, [], ◌∷◌, ◌++◌, length, get_or, drop, reverse, Bool, true, false, refl, sym, subst, ◌∙◌, ap, arith, Option, Some, None, rules}
use Rattle.std.specs.Prelude.{zero, suc, ℤ, pos, replicate, set, Ok, MatchOption, vec_len}
use Rattle.std.proofs.lemmas.List.{length-set, length-replicate, drop_all, reverse-append, nil_from_length}
use Rattle.yaml_parse_model.specs.declared.yaml_node_pair_t.{yaml_node_pair_t}
use Rattle.yaml_parse_model.specs.Nodes as model
use Rattle.yaml_emit_graph.specs.declared.walk.Turn.{Turn}
use Rattle.yaml_emit_graph.specs.declared.walk.Turn.TheVariants.{First, Again, Leave}
use Rattle.yaml_emit_graph.specs.declared.walk.Open.{Open}
use Rattle.yaml_emit_graph.specs.declared.walk.Walk.{Walk}
use Rattle.yaml_emit_graph.specs.Graph.{Met, met_at, meet_at, is_met, meet, pair_ids, child_ids, is_collection, body_of_id}
use Rattle.yaml_emit_graph.specs.Onward.{Rest, over, inside, visits, nothing_left, turns_onward}
use Rattle.yaml_emit_graph.specs.Walk.{NextHeld, half_of, onward, stack_of, frames, remaining_by, remaining_turns, marked, IsWalk, with_opened, Visited, Comes}

-- a node that was met is named again
pub visit_again : (n : ℕ) (nodes : List model.Node) (id : ℤ) (r : Rest) (met : Met)
    → is_met met id ≡ true → visits (suc n) nodes id r met ≡ Again id ∷ r met
unfolding visits
visit_again n nodes id r met h = rw h refl

-- a node that was not met is written first
pub visit_first : (n : ℕ) (nodes : List model.Node) (id : ℤ) (r : Rest) (met : Met)
    → is_met met id ≡ false
    → visits (suc n) nodes id r met ≡ First id
    ∷ inside (visits n nodes) id (body_of_id nodes id) r (meet met id)
unfolding visits
visit_first n nodes id r met h = rw h refl

inside_frames : (b : model.NodeBody) (n : ℕ) (nodes : List model.Node) (id : ℤ) (os : List Open)
    (met : Met) → body_of_id nodes id ≡ b → n ≡ length nodes - length os
    → inside (visits n nodes) id b (frames nodes os) met
    ≡ frames nodes (with_opened (is_collection b) id os) met
unfolding frames
inside_frames (model.sequence items style) n nodes id os met e k = rw (e, k) refl
inside_frames (model.mapping pairs style) n nodes id os met e k = rw (e, k) refl
inside_frames _ n nodes id os met e k = refl

sum_set : (met : Met) (k : ℕ) → get_or met k true ≡ false
    → marked (set met k true) ≡ suc (marked met)
sum_set [] k h = absurd (cc)
sum_set (true ∷ xs) zero h = absurd (cc)
sum_set (false ∷ xs) zero h = refl
sum_set (true ∷ xs) (suc k) h = ap suc (sum_set xs k h)
sum_set (false ∷ xs) (suc k) h = sum_set xs k h

pub sum_meet_at : (met : Met) (p : Option ℕ) → met_at met p ≡ false
    → marked (meet_at met p) ≡ suc (marked met)
sum_meet_at met p h = grind (arith, sum_set)

pub length_meet_at : (met : Met) (p : Option ℕ) → length (meet_at met p) ≡ length met
length_meet_at met p = grind (arith, length-set)

pub sum_most : (met : Met) → marked met ≤ length met
sum_most [] = omega arith
sum_most (true ∷ xs) = let e = sum_most xs in omega arith
sum_most (false ∷ xs) = let e = sum_most xs in omega arith

length_opened : (b : Bool) (id : ℤ) (os : List Open)
    → length (with_opened b id os) ≤ suc (length os)
length_opened b id os = grind arith

first_walk : (nodes : List model.Node) (old new : Walk) (id : ℤ) → IsWalk nodes old
    → old.started ≡ true → is_met old.met.items id ≡ false → new.met.items ≡ meet old.met.items id
    → new.started ≡ old.started
    → stack_of new ≡ with_opened (is_collection (body_of_id nodes id)) id (stack_of old)
    → IsWalk nodes new
first_walk nodes old new id w s h m t k = search (rules, length_meet_at, sum_meet_at, length_opened)

-- a node was visited, with the open nodes to come
pub visited : (nodes : List model.Node) (mid new : Walk) (id : ℤ) (t : Turn) (n : ℕ)
    → mid.started ≡ true → IsWalk nodes mid → n ≡ length nodes - length (stack_of mid)
    → Visited nodes id mid (Ok t) new
    → (visits (suc n) nodes id (frames nodes (stack_of mid)) mid.met.items ≡ t
    ∷ remaining_turns nodes new) × IsWalk nodes new
unfolding remaining_turns
visited nodes mid new id t n s w k v = grind (arith, visit_again, visit_first, inside_frames, first_walk)

-- the next child of an open node
child_comes : (nodes : List model.Node) (old : Walk) (o : Open) (os : List Open) (id : ℤ) (n : ℕ)
    → old.started ≡ true → stack_of old ≡ o ∷ os → length nodes - length os ≡ suc n
    → drop o.index (child_ids (body_of_id nodes o.node))
    ≡ id ∷ drop (o.index + 1) (child_ids (body_of_id nodes o.node))
    → remaining_turns nodes old
    ≡ visits (suc n) nodes id (frames nodes (onward o ∷ os)) old.met.items
unfolding remaining_turns frames over
child_comes nodes old o os id n s k f l =
    let met : Met = old.met.items in
    let r : Rest = λ m. Leave o.node ∷ frames nodes os m in
    let a : remaining_turns nodes old ≡ frames nodes (o ∷ os) met = rw (s, k) refl in
    a ∙ ap (λ z. over (visits (length nodes - length os) nodes) z r met) l
    ∙ ap (λ z. visits z nodes id (frames nodes (onward o ∷ os)) met) f

-- the depth is less than the number of nodes
pub depth_left : (nodes : List model.Node) (w : Walk) (o : Open) (os : List Open) → IsWalk nodes w
    → stack_of w ≡ o ∷ os → length nodes - length os ≡ suc (length nodes - length (o ∷ os))
depth_left nodes w o os h k = grind (arith, sum_most)

-- ---- pairs

pair_next : (ps : List yaml_node_pair_t) (i h r : ℕ) (d : yaml_node_pair_t) → i ≡ h + h + r
    → r < 2 → h < length ps
    → drop i (pair_ids ps) ≡ half_of (get_or ps h d) r ∷ drop (i + 1) (pair_ids ps)
unfolding pair_ids
pair_next [] i h r d e b k = absurd (omega arith)
pair_next (p ∷ ps) i zero zero d e b k = let z : i ≡ 0 = omega arith in rw z refl
pair_next (p ∷ ps) i zero (suc zero) d e b k = let z : i ≡ 1 = omega arith in rw z refl
pair_next (p ∷ ps) i zero (suc (suc r)) d e b k = absurd (omega arith)
pair_next (p ∷ ps) i (suc h) r d e b k =
    let z : i ≡ suc (suc (h + h + r)) = omega arith in
    let o : i + 1 ≡ suc (suc (h + h + r + 1)) = omega arith in
    rw (o, z) (pair_next ps (h + h + r) h r d refl b (omega arith))

length_ids : (ps : List yaml_node_pair_t) → length (pair_ids ps) ≡ length ps + length ps
unfolding pair_ids
length_ids [] = refl
length_ids (p ∷ ps) = let e = length_ids ps in omega arith

pub pair_comes : (ps : List yaml_node_pair_t) (i : ℕ) (d : yaml_node_pair_t) (v : ℤ)
    → v ≡ half_of (get_or ps (i / 2) d) (i % 2) → i / 2 < length ps → length ps < 2 ^ 63
    → NextHeld (pair_ids ps) i (Some v)
pair_comes ps i d v e h s = grind (arith, pair_next)

pub pair_none : (ps : List yaml_node_pair_t) (i : ℕ) → length ps ≤ i / 2
    → NextHeld (pair_ids ps) i None
pair_none ps i h = drop_all i (pair_ids ps) (let e = length_ids ps in omega arith)

-- one more node is open
pub stack_more : (ls items : List Open) (o : Open) → items ≡ ls ++ o ∷ []
    → reverse items ≡ o ∷ reverse ls
stack_more ls items o e = ap reverse e ∙ reverse-append ls (o ∷ [])

-- no node is open
no_turns : (nodes : List model.Node) (w : Walk) → w.started ≡ true → stack_of w ≡ []
    → remaining_turns nodes w ≡ []
unfolding remaining_turns frames
no_turns nodes w s t = rw (s, t) refl

-- a walk with the same marks and no more open nodes
same_walk : (nodes : List model.Node) (old new : Walk) → IsWalk nodes old → new.started ≡ true
    → new.met ≡ old.met → length (stack_of new) ≤ length (stack_of old) → IsWalk nodes new
same_walk nodes old new w s m l = grind arith

-- none was open
pub none_comes : (nodes : List model.Node) (old new : Walk) → old.started ≡ true
    → IsWalk nodes old → stack_of old ≡ [] → stack_of new ≡ [] → new.met ≡ old.met
    → new.started ≡ true → (remaining_turns nodes old ≡ []) × IsWalk nodes new
none_comes nodes old new s w k l m b =
    let none : length (stack_of new) ≡ 0 = ap length l in
    (no_turns nodes old s k, same_walk nodes old new w b m (omega (arith, none)))

pub none_popped : (nodes : List model.Node) (old new : Walk) (r : Option Open)
    → ((o : Open) → r ≡ Some o → ⊥)
    → MatchOption r ((vec_len old.stack ≡ 0) × (vec_len new.stack ≡ 0)) (λ _. vec_len new.stack + 1 ≡ vec_len old.stack)
    → old.started ≡ true → IsWalk nodes old → new.met ≡ old.met → new.started ≡ true
    → (remaining_turns nodes old ≡ []) × IsWalk nodes new
none_popped nodes old new None n h s w m b =
    let e : old.stack.items ≡ [] = nil_from_length _ (sym old.stack.ok.0 ∙ h.0) in
    let f : new.stack.items ≡ [] = nil_from_length _ (sym new.stack.ok.0 ∙ h.1) in
    none_comes nodes old new s w (ap reverse e) (ap reverse f) m b
none_popped nodes old new (Some o) n h s w m b = absurd (n o refl)

-- an open node ends
pub leave_comes : (nodes : List model.Node) (old new : Walk) (o : Open) → old.started ≡ true
    → stack_of old ≡ o ∷ stack_of new → IsWalk nodes old
    → drop o.index (child_ids (body_of_id nodes o.node)) ≡ [] → new.met ≡ old.met
    → new.started ≡ true
    → (remaining_turns nodes old ≡ Leave o.node ∷ remaining_turns nodes new) × IsWalk nodes new
unfolding remaining_turns frames over
leave_comes nodes old new o s k w l m b =
    let less : length (stack_of old) ≡ suc (length (stack_of new)) = ap length k in
    (rw (s, k, l, b, m) refl, same_walk nodes old new w b m (omega (arith, less)))

-- the next child of the innermost open node is visited
pub child_met : (nodes : List model.Node) (old mid new : Walk) (o : Open) (id : ℤ) (t : Turn)
    → old.started ≡ true → (os : List Open) → stack_of old ≡ o ∷ os → IsWalk nodes old
    → stack_of mid ≡ onward o ∷ os → mid.met ≡ old.met → mid.started ≡ true
    → NextHeld (child_ids (body_of_id nodes o.node)) o.index (Some id) → (i : ℤ) → i ≡ id
    → Visited nodes i mid (Ok t) new
    → (remaining_turns nodes old ≡ t ∷ remaining_turns nodes new) × IsWalk nodes new
child_met nodes old mid new o id t s os e w f m sm next i same u =
    let v : Visited nodes id mid (Ok t) new = subst (λ z. Visited nodes z mid (Ok t) new) same u in
    let n : ℕ = length nodes - length (o ∷ os) in
    let g : length (stack_of old) ≡ suc (length os) = ap length e in
    let h : length (stack_of mid) ≡ suc (length os) = ap length f in
    let a = child_comes nodes old o os id n s e (depth_left nodes old o os w e) next.0 in
    let b : visits (suc n) nodes id (frames nodes (onward o ∷ os)) old.met.items ≡ visits (suc n) nodes id (frames nodes (stack_of mid)) mid.met.items = rw (f, m) refl in
    let w' : IsWalk nodes mid = same_walk nodes old mid w sm m (omega (arith, g, h)) in
    let c = visited nodes mid new id t n sm w' (ap (λ z. length nodes - z) (sym h)) v in
    (a ∙ b ∙ c.0, c.1)

-- the root is visited
pub root_met : (nodes : List model.Node) (old mid new : Walk) (t : Turn) → old.started ≡ false
    → IsWalk nodes old
    → stack_of mid ≡ stack_of old → mid.met ≡ old.met → mid.started ≡ true
    → Visited nodes (pos 1) mid (Ok t) new
    → (remaining_turns nodes old ≡ t ∷ remaining_turns nodes new) × IsWalk nodes new
unfolding remaining_turns frames
root_met nodes old mid new t s w f m sm v =
    let e : stack_of old ≡ [] = w.begun s in
    let h : length (stack_of mid) ≡ 0 = ap length (f ∙ e) in
    let a : remaining_turns nodes old ≡ visits (suc (length nodes)) nodes (pos 1) nothing_left old.met.items = ap (λ z. remaining_by z nodes (stack_of old) old.met.items) s in
    let b : visits (suc (length nodes)) nodes (pos 1) nothing_left old.met.items ≡ visits (suc (length nodes)) nodes (pos 1) (frames nodes (stack_of mid)) mid.met.items = rw (f ∙ e, m) refl in
    let w' : IsWalk nodes mid = same_walk nodes old mid w sm m (omega (arith, ap length f)) in
    let c = visited nodes mid new (pos 1) t (length nodes) sm w' (omega (arith, h)) v in
    (a ∙ b ∙ c.0, c.1)

-- nothing was met
pub fresh_walk : (nodes : List model.Node) (w : Walk) (count : ℕ) → count ≡ length nodes
    → w.started ≡ false → stack_of w ≡ [] → w.met.items ≡ replicate count false
    → IsWalk nodes w × (remaining_turns nodes w ≡ turns_onward nodes)
unfolding remaining_turns turns_onward
fresh_walk nodes w count n s k m = grind (arith, length-replicate)

-- no turn was given
pub none_left : (nodes : List model.Node) (old new : Walk) (r : Option Turn)
    → ((t : Turn) → r ≡ Some t → ⊥) → Comes nodes old (Ok r) new → remaining_turns nodes old ≡ []
none_left nodes old new r n h = grind arith
