-- What is marked, by depths.
use Rattle.std.proofs.Common.{◌≡◌, ℕ, zero, suc, ◌+◌, ◌*◌, ◌<◌, true, true≢false, ◌||◌, nat_lt, List, [], ◌∷◌, sym, ◌∙◌, subst, inl, inr, arith, suc-mul}
use Rattle.yaml_emit_laws.proofs.Shared.{or_left, or_right, or_cases, nat_tests, Node, alias_node, scalar_node, sequence_node, mapping_node, Nodes, no_nodes, node, Pairs, no_pairs, pair, Document, MOST, ColumnsAreByDepth}
use Rattle.yaml_emit_laws.specs.Depths.{StandsAt, ItemStandsAt, PartStandsAt, RootStandsAt, IsTooDeep}
use Rattle.yaml_emit_laws.proofs.ColumnsMarks.{node_marks, items_marks, pairs_marks, documents_marks, written_marks}

-- Below an indentation of m, one is past the columns at some depth of those at which P says that
-- there is a node.
record Past (i m : ℕ) (P : ℕ → Type 0) : Type 0 where
  pub depth : ℕ
  pub stands : P depth
  pub past : MOST < m + depth * i

past_here : (m : ℕ) → nat_lt MOST m ≡ true → (i : ℕ) → MOST < m + 0 * i
past_here m h i = grind (arith, nat_tests)

marked_here : (i m : ℕ) → MOST < m + 0 * i → nat_lt MOST m ≡ true
marked_here i m h = grind (arith, nat_tests)

step : (i m d : ℕ) → m + i + d * i ≡ m + suc d * i
step i m d = let e = suc-mul d i in omega (arith, e)

deeper_past : (i m d : ℕ) → MOST < m + i + d * i → MOST < m + suc d * i
deeper_past i m d h = subst (λ n. MOST < n) (step i m d) h

shallower_past : (i m d : ℕ) → MOST < m + suc d * i → MOST < m + i + d * i
shallower_past i m d h = subst (λ n. MOST < n) (sym (step i m d)) h

-- ---- what is marked is too deep

mutual
  unfolding node_marks items_marks pairs_marks StandsAt ItemStandsAt PartStandsAt

  node_past : (i m : ℕ) (n : Node) → node_marks i m n ≡ true → Past i m (λ d. StandsAt d n)
  node_past i m (alias_node name) h = absurd (true≢false (sym h))
  node_past i m (scalar_node x) h = record { depth = 0; stands = tt; past = past_here m h i }
  node_past i m (sequence_node q items) h =
      elim (or_cases (nat_lt MOST m) (items_marks i (m + i) items) h) [
        | inl k ↦ record { depth = 0; stands = tt; past = past_here m k i }
        | inr k ↦ let r = items_past i (m + i) items k in record { depth = suc r.depth; stands = r.stands; past = deeper_past i m r.depth r.past }
      ]
  node_past i m (mapping_node q pairs) h =
      elim (or_cases (nat_lt MOST m) (pairs_marks i (m + i) pairs) h) [
        | inl k ↦ record { depth = 0; stands = tt; past = past_here m k i }
        | inr k ↦ let r = pairs_past i (m + i) pairs k in record { depth = suc r.depth; stands = r.stands; past = deeper_past i m r.depth r.past }
      ]

  items_past : (i m : ℕ) (ns : Nodes) → items_marks i m ns ≡ true
      → Past i m (λ d. ItemStandsAt d ns)
  items_past i m no_nodes h = absurd (true≢false (sym h))
  items_past i m (node x xs) h =
      elim (or_cases (node_marks i m x) (items_marks i m xs) h) [
        | inl k ↦ let r = node_past i m x k in record { depth = r.depth; stands = inl r.stands; past = r.past }
        | inr k ↦ let r = items_past i m xs k in record { depth = r.depth; stands = inr r.stands; past = r.past }
      ]

  pairs_past : (i m : ℕ) (ps : Pairs) → pairs_marks i m ps ≡ true
      → Past i m (λ d. PartStandsAt d ps)
  pairs_past i m no_pairs h = absurd (true≢false (sym h))
  pairs_past i m (pair k v ps) h =
      elim (or_cases (node_marks i m k) (node_marks i m v || pairs_marks i m ps) h) [
        | inl e ↦ let r = node_past i m k e in record { depth = r.depth; stands = inl r.stands; past = r.past }
        | inr more ↦ elim (or_cases (node_marks i m v) (pairs_marks i m ps) more) [
          | inl e ↦ let r = node_past i m v e in record { depth = r.depth; stands = inr (inl r.stands); past = r.past }
          | inr e ↦ let r = pairs_past i m ps e in record { depth = r.depth; stands = inr (inr r.stands); past = r.past }
        ]
      ]

documents_past : (i : ℕ) (ds : List Document) → documents_marks i ds ≡ true
    → Past i i (λ d. RootStandsAt d ds)
unfolding documents_marks RootStandsAt
documents_past i [] h = absurd (true≢false (sym h))
documents_past i (x ∷ xs) h =
    elim (or_cases (node_marks i i x.root) (documents_marks i xs) h) [
      | inl k ↦ let r = node_past i i x.root k in record { depth = r.depth; stands = inl r.stands; past = r.past }
      | inr k ↦ let r = documents_past i xs k in record { depth = r.depth; stands = inr r.stands; past = r.past }
    ]

-- ---- and what is too deep is marked

mutual
  unfolding node_marks items_marks pairs_marks StandsAt ItemStandsAt PartStandsAt

  node_marked : (i m d : ℕ) (n : Node) → StandsAt d n → MOST < m + d * i → node_marks i m n ≡ true
  node_marked i m d (alias_node name) h p = absurd h
  node_marked i m zero (scalar_node x) h p = marked_here i m p
  node_marked i m (suc d) (scalar_node x) h p = absurd h
  node_marked i m zero (sequence_node q items) h p = or_left (nat_lt MOST m) (items_marks i (m + i) items) (marked_here i m p)
  node_marked i m (suc d) (sequence_node q items) h p = or_right (nat_lt MOST m) (items_marks i (m + i) items) (items_marked i (m + i) d items h (shallower_past i m d p))
  node_marked i m zero (mapping_node q pairs) h p = or_left (nat_lt MOST m) (pairs_marks i (m + i) pairs) (marked_here i m p)
  node_marked i m (suc d) (mapping_node q pairs) h p = or_right (nat_lt MOST m) (pairs_marks i (m + i) pairs) (pairs_marked i (m + i) d pairs h (shallower_past i m d p))

  items_marked : (i m d : ℕ) (ns : Nodes) → ItemStandsAt d ns → MOST < m + d * i
      → items_marks i m ns ≡ true
  items_marked i m d no_nodes h p = absurd h
  items_marked i m d (node x xs) (inl h) p = or_left (node_marks i m x) (items_marks i m xs) (node_marked i m d x h p)
  items_marked i m d (node x xs) (inr h) p = or_right (node_marks i m x) (items_marks i m xs) (items_marked i m d xs h p)

  pairs_marked : (i m d : ℕ) (ps : Pairs) → PartStandsAt d ps → MOST < m + d * i
      → pairs_marks i m ps ≡ true
  pairs_marked i m d no_pairs h p = absurd h
  pairs_marked i m d (pair k v ps) (inl h) p = or_left (node_marks i m k) (node_marks i m v || pairs_marks i m ps) (node_marked i m d k h p)
  pairs_marked i m d (pair k v ps) (inr (inl h)) p =
      or_right (node_marks i m k) (node_marks i m v || pairs_marks i m ps) (or_left (node_marks i m v) (pairs_marks i m ps) (node_marked i m d v h p))
  pairs_marked i m d (pair k v ps) (inr (inr h)) p =
      or_right (node_marks i m k) (node_marks i m v || pairs_marks i m ps) (or_right (node_marks i m v) (pairs_marks i m ps) (pairs_marked i m d ps h p))

documents_marked : (i d : ℕ) (ds : List Document) → RootStandsAt d ds → MOST < i + d * i
    → documents_marks i ds ≡ true
unfolding documents_marks RootStandsAt
documents_marked i d [] h p = absurd h
documents_marked i d (x ∷ xs) (inl h) p = or_left (node_marks i i x.root) (documents_marks i xs) (node_marked i i d x.root h p)
documents_marked i d (x ∷ xs) (inr h) p = or_right (node_marks i i x.root) (documents_marks i xs) (documents_marked i d xs h p)

-- ---- both ways

times : (i d : ℕ) → i + d * i ≡ (d + 1) * i
times i d = let e = suc-mul d i in omega (arith, e)

pub too_deep : (i : ℕ) (ds : List Document) → documents_marks i ds ≡ true → IsTooDeep i ds
too_deep i ds h = let r = documents_past i ds h in record { depth = r.depth; stands = r.stands; past = subst (λ n. MOST < n) (times i r.depth) r.past }

pub deep_marked : (i : ℕ) (ds : List Document) → IsTooDeep i ds → documents_marks i ds ≡ true
deep_marked i ds h = documents_marked i h.depth ds h.stands (subst (λ n. MOST < n) (sym (times i h.depth)) h.past)

pub by_depth : ColumnsAreByDepth
by_depth s canonical ds =
    let e = written_marks s ds canonical in
    (λ h. too_deep s.indent ds (sym e ∙ h), λ h. e ∙ deep_marked s.indent ds h)
