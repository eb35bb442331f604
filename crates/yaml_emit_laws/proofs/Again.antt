-- What a derivation of visits meets again is met again by the walk of a dump.
use Rattle.std.proofs.Common.{◌≡◌, ◌<◌, ◌≤◌, ◌+◌, ℕ, zero, suc, ℤ, pos, Bool, true, false, List, [], ◌∷◌, length, Some, refl, ap, subst, ◌∙◌, inl, inr, arith, slice_get}
use Rattle.yaml_emit_laws.proofs.DumpsWords.{nat_tests, slice_get_within, yaml_node_pair_t, Node, NodeBody, VisitsInPreorder, IsInPreorder, done, again, first, children, pair_numbers, Turn, First, Again, Leave, Met, is_met, pair_ids, is_collection, Rest, over, visits, nothing_left, turns_onward, turns_joined, AgainsAre, MeetsAgain, met_so, AgainsAreTurns}
use Rattle.yaml_emit_graph.specs.emit_layout.parse_model.Nodes as model
use Rattle.yaml_emit_graph.specs.Onward.{inside}
use Rattle.yaml_emit_laws.proofs.Marks.{met_old, met_new, meets, none_yet}

-- ---- how many nodes are visited

pub onward : (nodes : List Node) (seen after : ℕ) (ids : List ℤ)
    → VisitsInPreorder nodes seen ids after → seen ≤ after
onward nodes seen after ids (done s) = omega arith
onward nodes seen after ids (again s k e more h v) = onward nodes s e more v
onward nodes seen after ids (first s b e more n at v w) =
    let x = onward nodes (suc s) b (children n.body) v in let y = onward nodes b e more w in omega (arith, x, y)

pub inside_all : (nodes : List Node) (seen after : ℕ) (ids : List ℤ) → seen ≤ length nodes
    → VisitsInPreorder nodes seen ids after → after ≤ length nodes
inside_all nodes seen after ids le (done s) = le
inside_all nodes seen after ids le (again s k e more h v) = inside_all nodes s e more le v
inside_all nodes seen after ids le (first s b e more n at v w) =
    let here = slice_get_within nodes s n at in
    inside_all nodes b e more (inside_all nodes (suc s) b (children n.body) (omega (arith, here)) v) w

-- ---- one turn

again_turn : (f : ℕ) (nodes : List Node) (id : ℤ) (rest : Rest) (met : Met) → is_met met id ≡ true
    → visits f nodes id rest met ≡ Again id ∷ rest met
unfolding visits
again_turn f nodes id rest met h = grind (arith, nat_tests)

first_turn : (f : ℕ) (nodes : List Node) (seen : ℕ) (n : Node) (rest : Rest)
    → slice_get nodes seen ≡ Some n → seen < length nodes
    → visits (suc f) nodes (pos (suc seen)) rest (met_so nodes seen) ≡ First (pos (suc seen))
    ∷ inside (visits f nodes) (pos (suc seen)) n.body rest (met_so nodes (suc seen))
unfolding visits
first_turn f nodes seen n rest at h = grind (arith, slice_get, met_new, meets)

-- what follows the nodes that a node holds
abbrev left : Bool → ℤ → Rest → Rest
left true id rest = λ m. Leave id ∷ rest m
left false id rest = rest

same_pairs : (ps : List yaml_node_pair_t) → pair_ids ps ≡ pair_numbers ps
unfolding pair_ids
same_pairs [] = refl
same_pairs (p ∷ ps) = ap (λ (ids : List ℤ). p.key ∷ p.value ∷ ids) (same_pairs ps)

held : (visit : ℤ → Rest → Rest) (id : ℤ) (body : NodeBody) (rest : Rest) (met : Met)
    → inside visit id body rest met ≡ over visit (children body) (left (is_collection body) id rest)
    met
unfolding over
held visit id (model.mapping pairs style) rest met = ap (λ (ids : List ℤ). over visit ids (left true id rest) met) (same_pairs pairs)
held visit id _ rest met = refl

-- ---- what is true of all that turns meet again

abbrev AllMet : ℕ → (ℕ → Type 0) → List Turn → Type 0
AllMet count P ts = (k : ℕ) → k < count → MeetsAgain k ts → P k

behind_left : (count : ℕ) (P : ℕ → Type 0) (b : Bool) (id : ℤ) (rest : Rest) (met : Met)
    → AllMet count P (left b id rest met) → AllMet count P (rest met)
behind_left count P b id rest met h = grind (arith, nat_tests)

into : (count : ℕ) (P : ℕ → Type 0) (f : ℕ) (nodes : List Node) (seen : ℕ) (n : Node) (rest : Rest)
    → slice_get nodes seen ≡ Some n → seen < length nodes
    → AllMet count P (visits (suc f) nodes (pos (suc seen)) rest (met_so nodes seen))
    → AllMet count P (over (visits f nodes) (children n.body)
    (left (is_collection n.body) (pos (suc seen)) rest) (met_so nodes (suc seen)))
into count P f nodes seen n rest at h all =
    let e : visits (suc f) nodes (pos (suc seen)) rest (met_so nodes seen) ≡ First (pos (suc seen)) ∷ over (visits f nodes) (children n.body) (left (is_collection n.body) (pos (suc seen)) rest) (met_so nodes (suc seen))
    = first_turn f nodes seen n rest at h ∙ ap (λ (ts : List Turn). First (pos (suc seen)) ∷ ts) (held (visits f nodes) (pos (suc seen)) n.body rest (met_so nodes (suc seen))) in
    let moved : AllMet count P (First (pos (suc seen)) ∷ over (visits f nodes) (children n.body) (left (is_collection n.body) (pos (suc seen)) rest) (met_so nodes (suc seen))) = subst (λ (ts : List Turn). AllMet count P ts) e all in
    λ k w m. moved k w (inr m)

-- What is true of all that the turns of some visits meet again is true of all that the derivation does, and of what follows.
abbrev Tells : (P : ℕ → Type 0) (nodes : List Node) (seen : ℕ) (ids : List ℤ) (after : ℕ)
    → VisitsInPreorder nodes seen ids after → Type 0
Tells P nodes seen ids after v = (f : ℕ) (rest : Rest) → length nodes < f + seen → seen ≤ length nodes → AllMet (length nodes) P (over (visits f nodes) ids rest (met_so nodes seen))
    → AgainsAre P v × AllMet (length nodes) P (rest (met_so nodes after))

none_tells : (P : ℕ → Type 0) (nodes : List Node) (s : ℕ) → Tells P nodes s [] s (done s)
unfolding over
none_tells P nodes s f rest fuel le all = (tt, all)

again_tells : (P : ℕ → Type 0) (nodes : List Node) (s k e : ℕ) (more : List ℤ) (h : k < s)
    (v : VisitsInPreorder nodes s more e) → Tells P nodes s more e v
    → Tells P nodes s (pos (suc k) ∷ more) e (again s k e more h v)
unfolding over
again_tells P nodes s k e more h v next f rest fuel le all =
    let moved : AllMet (length nodes) P (Again (pos (suc k)) ∷ over (visits f nodes) more rest (met_so nodes s))
    = subst (λ (ts : List Turn). AllMet (length nodes) P ts) (again_turn f nodes (pos (suc k)) (over (visits f nodes) more rest) (met_so nodes s) (met_old nodes s k h)) all in
    let r = next f rest fuel le (λ j w m. moved j w (inr m)) in
    ((moved k (omega (arith, h, le)) (inl refl), r.0), r.1)

first_tells : (P : ℕ → Type 0) (nodes : List Node) (s b e : ℕ) (more : List ℤ) (n : Node)
    (at : slice_get nodes s ≡ Some n) (v : VisitsInPreorder nodes (suc s) (children n.body) b)
    (w : VisitsInPreorder nodes b more e)
    → Tells P nodes (suc s) (children n.body) b v → Tells P nodes b more e w
    → Tells P nodes s (pos (suc s) ∷ more) e (first s b e more n at v w)
unfolding over
first_tells P nodes s b e more n at v w inner outer zero rest fuel le all = absurd (omega (arith, fuel, le))
first_tells P nodes s b e more n at v w inner outer (suc f) rest fuel le all =
    let here = slice_get_within nodes s n at in
    let on = onward nodes (suc s) b (children n.body) v in
    let r = inner f (left (is_collection n.body) (pos (suc s)) (over (visits (suc f) nodes) more rest)) (omega (arith, fuel)) (omega (arith, here))
    (into (length nodes) P f nodes s n (over (visits (suc f) nodes) more rest) at here all) in
    let q = outer (suc f) rest (omega (arith, fuel, on)) (inside_all nodes (suc s) b (children n.body) (omega (arith, here)) v)
    (behind_left (length nodes) P (is_collection n.body) (pos (suc s)) (over (visits (suc f) nodes) more rest) (met_so nodes b) r.1) in
    ((r.0, q.0), q.1)

told : (P : ℕ → Type 0) (nodes : List Node) (seen : ℕ) (ids : List ℤ) (after : ℕ)
    (v : VisitsInPreorder nodes seen ids after) → Tells P nodes seen ids after v
told P nodes seen ids after (done s) = none_tells P nodes s
told P nodes seen ids after (again s k e more h v) = again_tells P nodes s k e more h v (told P nodes s more e v)
told P nodes seen ids after (first s b e more n at v w) =
    first_tells P nodes s b e more n at v w (told P nodes (suc s) (children n.body) b v) (told P nodes b more e w)

again_onward : (nodes : List Node) (v : IsInPreorder nodes)
    → AgainsAre (λ k. (k < length nodes) × MeetsAgain k (turns_onward nodes)) v
unfolding turns_onward over
again_onward nodes v =
    let none = λ (k : ℕ) (m : MeetsAgain k (over (visits (suc (length nodes)) nodes) (pos 1 ∷ []) nothing_left (met_so nodes 0))).
    subst (λ (met : Met). MeetsAgain k (over (visits (suc (length nodes)) nodes) (pos 1 ∷ []) nothing_left met)) (none_yet nodes) m in
    let r = told (λ k. (k < length nodes) × MeetsAgain k (turns_onward nodes)) nodes 0 (pos 1 ∷ []) (length nodes) v (suc (length nodes)) nothing_left (omega arith) (omega arith) (λ k w m. (w, none k m)) in r.0

pub again_turns : AgainsAreTurns
again_turns nodes v = subst (λ (ts : List Turn). AgainsAre (λ k. (k < length nodes) × MeetsAgain k ts) v) (turns_joined nodes) (again_onward nodes v)
