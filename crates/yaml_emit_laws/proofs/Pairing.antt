-- A mapping's keys and values, two by two: what is said of the items that they are together holds of the pairs.
use Rattle.std.proofs.Common.{◌≡◌, ◌+◌, ℕ, ℤ, List, [], ◌∷◌, ◌++◌, length, Result, Ok, Err, refl, ap, ◌∙◌, arith}
use Rattle.yaml_emit_laws.proofs.DumpsWords.{yaml_node_pair_t, Fault, Node, Anchored, Numbered, ◌>>=◌, number, number_items, number_pairs, pair_numbers, Met, items_by, pairs_by, as_content, as_contents, as_pairs, AreAsMany}
use Rattle.yaml_emit_graph.specs.emit_layout.Content as emit

abbrev pub paired : emit.Nodes → emit.Pairs
paired emit.no_nodes = emit.no_pairs
paired (emit.node k emit.no_nodes) = emit.no_pairs
paired (emit.node k (emit.node v vs)) = emit.pair k v (paired vs)

pub pairs_written : (visit : ℤ → (emit.Node → Met → emit.Node) → Met → emit.Node)
    (ps : List yaml_node_pair_t) (rest : emit.Pairs → Met → emit.Node) (met : Met)
    → pairs_by visit ps rest met ≡ items_by visit (pair_numbers ps) (λ vs. rest (paired vs)) met
unfolding pairs_by items_by
pairs_written visit [] rest met = refl
pairs_written visit (p ∷ ps) rest met =
    ap (λ (go : emit.Node → Met → emit.Node). visit p.key go met)
    (λ i x m. visit p.value (λ y n. pairs_written visit ps (λ vs o. rest (emit.pair x y vs) o) n i) m)

-- ---- numbers, two by two

abbrev pairs_of : List ℤ → List yaml_node_pair_t
pairs_of [] = []
pairs_of (k ∷ []) = []
pairs_of (k ∷ v ∷ ids) = let p : yaml_node_pair_t = record { key = k; value = v } in p ∷ pairs_of ids

abbrev two : Numbered (List ℤ) → Result (Numbered (List yaml_node_pair_t)) Fault
two r = Ok (record { number = pairs_of r.number; nodes = r.nodes; before = r.before })

abbrev more : Numbered ℤ → Numbered (List ℤ) → Result (Numbered (List ℤ)) Fault
more r s = Ok (record { number = r.number ∷ s.number; nodes = r.nodes ++ s.nodes; before = s.before })

abbrev joined : Numbered ℤ → Numbered ℤ → Numbered (List yaml_node_pair_t)
    → Result (Numbered (List yaml_node_pair_t)) Fault
joined r s t = let p : yaml_node_pair_t = record { key = r.number; value = s.number } in Ok (record { number = p ∷ t.number; nodes = r.nodes ++ (s.nodes ++ t.nodes); before = t.before })

third : (r s : Numbered ℤ) (z : Result (Numbered (List ℤ)) Fault)
    → ((z >>= two) >>= joined r s) ≡ (((z >>= more s) >>= more r) >>= two)
third r s (Ok t) = refl
third r s (Err e) = refl

second : (r : Numbered ℤ) (y : Result (Numbered ℤ) Fault)
    (z : Numbered ℤ → Result (Numbered (List ℤ)) Fault)
    (w : Numbered ℤ → Result (Numbered (List yaml_node_pair_t)) Fault)
    → ((s : Numbered ℤ) → w s ≡ (z s >>= two))
    → (y >>= (λ s. w s >>= joined r s)) ≡ (((y >>= (λ s. z s >>= more s)) >>= more r) >>= two)
second r (Ok s) z w h = ap (λ q. q >>= joined r s) (h s) ∙ third r s (z s)
second r (Err e) z w h = refl

first : (x : Result (Numbered ℤ) Fault) (y : Numbered ℤ → Result (Numbered ℤ) Fault)
    (z : Numbered ℤ → Numbered ℤ → Result (Numbered (List ℤ)) Fault)
    (w : Numbered ℤ → Numbered ℤ → Result (Numbered (List yaml_node_pair_t)) Fault)
    → ((r s : Numbered ℤ) → w r s ≡ (z r s >>= two))
    → (x >>= (λ r. y r >>= (λ s. w r s >>= joined r s)))
    ≡ ((x >>= (λ r. (y r >>= (λ s. z r s >>= more s)) >>= more r)) >>= two)
first (Ok r) y z w h = second r (y r) (z r) (w r) (h r)
first (Err e) y z w h = refl

abbrev AreEven : emit.Nodes → Type 0
AreEven emit.no_nodes = Unit {0}
AreEven (emit.node k emit.no_nodes) = ⊥
AreEven (emit.node k (emit.node v vs)) = AreEven vs

are_even : (vs : emit.Nodes) (ps : List yaml_node_pair_t) → AreAsMany vs (pair_numbers ps)
    → AreEven vs
are_even emit.no_nodes [] h = tt
are_even (emit.node k vs) [] h = absurd h
are_even (emit.node k (emit.node v vs)) (p ∷ ps) h = are_even vs ps h
are_even _ (p ∷ ps) h = absurd h

numbered_by_two : (vs : emit.Nodes) (count : ℕ) (before : Anchored) → AreEven vs
    → number_pairs (as_pairs (paired vs)) count before
    ≡ (number_items (as_contents vs) count before >>= two)
unfolding number number_items number_pairs
numbered_by_two emit.no_nodes count before h = refl
numbered_by_two (emit.node k emit.no_nodes) count before h = absurd h
numbered_by_two (emit.node k (emit.node v vs)) count before h =
    first (number (as_content k) count before) (λ r. number (as_content v) (count + length r.nodes) r.before) (λ r s. number_items (as_contents vs) (count + length r.nodes + length s.nodes) s.before)
    (λ r s. number_pairs (as_pairs (paired vs)) (count + length r.nodes + length s.nodes) s.before) (λ r s. numbered_by_two vs (count + length r.nodes + length s.nodes) s.before h)

numbers_paired : (ps : List yaml_node_pair_t) → pairs_of (pair_numbers ps) ≡ ps
numbers_paired [] = refl
numbers_paired (p ∷ ps) = ap (λ qs. p ∷ qs) (numbers_paired ps)

pub paired_numbers : (ps : List yaml_node_pair_t) (vs : emit.Nodes) (count : ℕ) (before : Anchored)
    (nodes : List Node) (after : Anchored) → AreAsMany vs (pair_numbers ps)
    → number_items (as_contents vs) count before
    ≡ Ok (record { number = pair_numbers ps; nodes = nodes; before = after })
    → number_pairs (as_pairs (paired vs)) count before
    ≡ Ok (record { number = ps; nodes = nodes; before = after })
paired_numbers ps vs count before nodes after h e = grind (arith, numbered_by_two, are_even, numbers_paired)
