-- Pairs are compared one after another, and all in the end.
use Rattle.std.proofs.Common.{◌≡◌, ℕ, zero, suc, ◌+◌, ◌<◌, ◌≤◌, ℤ, pos, Bool, true, false, cond, List, [], ◌∷◌, ◌++◌, length, take, Option, Some, None, refl, sym, subst, ◌∙◌, ap, inl, inr, arith, append_assoc, append-nil, add-one}
use Rattle.std.specs.Prelude.{◌⊎◌, ◌==◌, slice_get, Result, Ok, Err, OnOk}
use Rattle.std.proofs.lemmas.List.{take_all, length-map}
use Rattle.yaml_parse_model.specs.Nodes.{Node, NodeBody}
use Rattle.yaml_emit_graph.specs.Graph.{body_of_id, tag_of_id}
use Rattle.yaml_round_documents.specs.Ranks.{LabelsTell, kind_of}
use Rattle.yaml_round_documents.specs.declared.ranks.BothLabels.{BothLabels}
use Rattle.yaml_round_documents.specs.declared.difference.yaml_node_difference_t.{yaml_node_difference_t}
use Rattle.yaml_round_documents.specs.declared.walk.yaml_node_match_t.{yaml_node_match_t as Pair}
use Rattle.yaml_round_documents.specs.declared.walk.Walk.{Walk}
use Rattle.yaml_round_documents.specs.Matching.{matched, numbered, place_from}
use Rattle.yaml_round_documents.specs.Pairs.{AreReached, ComparedAt, IsAmong, IsOneOf, held_pairs, held_values, key_labels, pair_with, pairs_by, roots}
use Rattle.yaml_round_documents.specs.Differences.{AreDifferences, own_cause, told_cause, told_held, told_in, told_of}
use Rattle.yaml_round_documents.specs.Steps.{Begins, Compares, ComparesAll, ComparesPair, ComparesTo, IsWalk, Meets, Pushes, PushesOn, first_of, second_of}
use Rattle.yaml_round_documents.proofs.Numbering.{numbered_many}
use Rattle.yaml_round_documents.proofs.Walking.{either, in_front, pushes_none}

-- ---- a pair

abbrev same_kind : List Node → List Node → Pair → Bool
same_kind nodes others p = kind_of (body_of_id nodes p.first) == kind_of (body_of_id others p.second)

abbrev own_told : List Node → List Node → ℕ → Pair → List yaml_node_difference_t
own_told nodes others n p = told_cause n p (own_cause (body_of_id nodes p.first) (body_of_id others p.second) (tag_of_id nodes p.first) (tag_of_id others p.second))

pub alike_compared : (nodes others : List Node) (labels : BothLabels) (i : ℕ) (p : Pair)
    (old new : Walk) (before now after : List yaml_node_difference_t)
    → same_kind nodes others p ≡ true
    → now ≡ before ++ own_told nodes others i p
    → after ≡ now ++ told_held i p (key_labels (first_of labels) (body_of_id nodes p.first))
    (key_labels (second_of labels) (body_of_id others p.second))
    → PushesOn labels (pairs_by i 0 (held_values (body_of_id nodes p.first))
    (held_values (body_of_id others p.second))
    (matched (key_labels (first_of labels) (body_of_id nodes p.first))
    (key_labels (second_of labels) (body_of_id others p.second)))) old new
    → ComparesPair nodes others labels i p old new before after
alike_compared nodes others labels i p old new before now after k n a h =
    let f = first_of labels in
    let g = second_of labels in
    let held = told_held i p (key_labels f (body_of_id nodes p.first)) (key_labels g (body_of_id others p.second)) in
    let some = pairs_by i 0 (held_values (body_of_id nodes p.first)) (held_values (body_of_id others p.second)) (matched (key_labels f (body_of_id nodes p.first)) (key_labels g (body_of_id others p.second))) in
    record {
      told = a ∙ ap (λ z. z ++ held) n ∙ append_assoc before (own_told nodes others i p) held
          ∙ ap (λ b. before ++ (own_told nodes others i p ++ cond b held [])) (sym k);
      pushes = (h.0, subst (λ b. Pushes f g (cond b some []) old.pairs.items new.pairs.items) (sym k) h.1);
    }

pub unlike_compared : (nodes others : List Node) (labels : BothLabels) (i : ℕ) (p : Pair)
    (w : Walk) (before now : List yaml_node_difference_t) → same_kind nodes others p ≡ false
    → now ≡ before ++ own_told nodes others i p → IsWalk w
    → ComparesPair nodes others labels i p w w before now
unlike_compared nodes others labels i p w before now k n h =
    let f = first_of labels in
    let g = second_of labels in
    let held = told_held i p (key_labels f (body_of_id nodes p.first)) (key_labels g (body_of_id others p.second)) in
    let some = pairs_by i 0 (held_values (body_of_id nodes p.first)) (held_values (body_of_id others p.second)) (matched (key_labels f (body_of_id nodes p.first)) (key_labels g (body_of_id others p.second))) in
    record {
      told = n ∙ ap (λ z. before ++ z) (sym (append-nil (own_told nodes others i p)))
          ∙ ap (λ b. before ++ (own_told nodes others i p ++ cond b held [])) (sym k);
      pushes = (h, subst (λ b. Pushes f g (cond b some []) w.pairs.items w.pairs.items) (sym k) (pushes_none labels w h).1);
    }

-- ---- as many partners as there are labels

pub matched_many : (own others : List ℕ) (partners : List (Option ℕ)) (n : ℕ)
    → partners ≡ matched own others → length own ≡ n → length partners ≡ n
matched_many own others partners n e s =
    ap length e ∙ length-map (numbered [] own) (λ x. place_from 0 x (numbered [] others)) ∙ numbered_many [] own ∙ s

-- ---- pair after pair

taken_more : (done : ℕ) (pairs added : List Pair) (p : Pair) → slice_get pairs done ≡ Some p
    → take (suc done) (pairs ++ added) ≡ take done pairs ++ p ∷ []
taken_more done [] added p e = absurd (cc)
taken_more zero (q ∷ pairs) added p e = let i : q ≡ p = cc in ap (λ z. z ∷ []) i
taken_more (suc done) (q ∷ pairs) added p e = ap (λ z. q ∷ z) (taken_more done pairs added p e)

is_one : (done : ℕ) (pairs : List Pair) (p : Pair) → slice_get pairs done ≡ Some p
    → IsOneOf p.first p.second pairs
is_one done [] p e = absurd (cc)
is_one zero (q ∷ pairs) p e = let i : q ≡ p = cc in inl (ap (λ (z : Pair). z.first) (sym i), ap (λ (z : Pair). z.second) (sym i))
is_one (suc done) (q ∷ pairs) p e = inr (is_one done pairs p e)

none_at : {A : Type 0} (done : ℕ) (xs : List A) → slice_get xs done ≡ None → length xs ≤ done
none_at done [] e = omega arith
none_at zero (x ∷ xs) e = absurd (cc)
none_at (suc done) (x ∷ xs) e = let h = none_at done xs e in omega arith

told_push : (f g : ℤ → ℕ) (nodes others : List Node) (n : ℕ) (ps : List Pair) (p : Pair)
    → told_in f g nodes others n (ps ++ p ∷ [])
    ≡ told_in f g nodes others n ps ++ told_of f g nodes others (n + length ps) p
told_push f g nodes others n [] p =
    let e : n ≡ n + 0 = omega arith in
    append-nil (told_of f g nodes others n p) ∙ ap (λ k. told_of f g nodes others k p) e
told_push f g nodes others n (q ∷ ps) p =
    let e : suc n + length ps ≡ n + suc (length ps) = omega arith in
    ap (λ z. told_of f g nodes others n q ++ z) (told_push f g nodes others (suc n) ps p)
    ∙ ap (λ k. told_of f g nodes others n q ++ (told_in f g nodes others (suc n) ps ++ told_of f g nodes others k p)) e
    ∙ sym (append_assoc (told_of f g nodes others n q) (told_in f g nodes others (suc n) ps) (told_of f g nodes others (n + suc (length ps)) p))

taken_many : (done : ℕ) (pairs : List Pair) (p : Pair) → slice_get pairs done ≡ Some p
    → length (take done pairs) ≡ done
taken_many done [] p e = absurd (cc)
taken_many zero (q ∷ pairs) p e = refl
taken_many (suc done) (q ∷ pairs) p e = ap suc (taken_many done pairs p e)

-- ---- each pair is held by an earlier one

holder_is : (n k : ℕ) (own others : List ℤ) (partners : List (Option ℕ)) (p : Pair)
    → IsAmong p (pairs_by n k own others partners) → p.holder ≡ n
holder_is n k [] others partners p h = absurd h
holder_is n k (a ∷ own) others [] p h = absurd h
holder_is n k (a ∷ own) others (None ∷ partners) p h = holder_is n (suc k) own others partners p h
holder_is n k (a ∷ own) others (Some at ∷ partners) p h =
    elim (slice_get others at) as (λ o. IsAmong p (pair_with n k a o ++ pairs_by n (suc k) own others partners) → p.holder ≡ n) [
      | None ↦ λ i. holder_is n (suc k) own others partners p i
      | Some b ↦ λ i. elim i [
        | inl e ↦ ap (λ (z : Pair). z.holder) e
        | inr r ↦ holder_is n (suc k) own others partners p r
      ]
    ] h

holder_of : (f g : ℤ → ℕ) (n : ℕ) (b c : NodeBody) (p : Pair) → IsAmong p (held_pairs f g n b c)
    → p.holder ≡ n
holder_of f g n b c p h =
    elim (kind_of b == kind_of c) as (λ z. IsAmong p (cond z (pairs_by n 0 (held_values b) (held_values c) (matched (key_labels f b) (key_labels g c))) []) → p.holder ≡ n) [
      | true ↦ λ i. holder_is n 0 (held_values b) (held_values c) (matched (key_labels f b) (key_labels g c)) p i
      | false ↦ λ i. absurd i
    ] h

got_front : (ps qs : List Pair) (at : ℕ) (p : Pair) → slice_get ps at ≡ Some p
    → slice_get (ps ++ qs) at ≡ Some p
got_front [] qs at p e = absurd (cc)
got_front (x ∷ ps) qs zero p e = e
got_front (x ∷ ps) qs (suc at) p e = got_front ps qs at p e

got_below : (ps : List Pair) (at : ℕ) (p : Pair) → slice_get ps at ≡ Some p → at < length ps
got_below [] at p e = absurd (cc)
got_below (x ∷ ps) zero p e = omega arith
got_below (x ∷ ps) (suc at) p e = let h = got_below ps at p e in omega arith

got_among : (ps : List Pair) (at : ℕ) (p : Pair) → slice_get ps at ≡ Some p → IsAmong p ps
got_among [] at p e = absurd (cc)
got_among (x ∷ ps) zero p e = let i : x ≡ p = cc in inl (sym i)
got_among (x ∷ ps) (suc at) p e = inr (got_among ps at p e)

-- what is at a place of two lists joined is in the first one, or in the second one and there no earlier
got_either : (ps qs : List Pair) (at : ℕ) (p : Pair) → slice_get (ps ++ qs) at ≡ Some p
    → (slice_get ps at ≡ Some p) ⊎ ((length ps ≤ at) × IsAmong p qs)
got_either [] qs at p e = inr (omega arith, got_among qs at p e)
got_either (x ∷ ps) qs zero p e = inl e
got_either (x ∷ ps) qs (suc at) p e = elim (got_either ps qs at p e) [
  | inl h ↦ inl h
  | inr h ↦ inr (omega (arith, h.0), h.1)
]

reached_on : (nodes others : List Node) (f g : ℤ → ℕ) (done : ℕ) (p : Pair)
    (pairs added : List Pair) → AreReached nodes others f g pairs → slice_get pairs done ≡ Some p
    → ((q : Pair) → IsAmong q added
    → IsAmong q (held_pairs f g done (body_of_id nodes p.first) (body_of_id others p.second)))
    → AreReached nodes others f g (pairs ++ added)
reached_on nodes others f g done p pairs added h e among at q i = elim (got_either pairs added at q i) [
  | inl k ↦ elim (h at q k) [
    | inl root ↦ inl root
    | inr m ↦ inr (m.0, m.1, got_front pairs added q.holder m.0 m.2, m.3)
  ]
  | inr m ↦
      let held = among q m.1 in
      let is = holder_of f g done (body_of_id nodes p.first) (body_of_id others p.second) q held in
      let w = got_below pairs done p e in
      inr (
        p,
        omega (arith, m.0, is, w),
        ap (slice_get (pairs ++ added)) is ∙ got_front pairs added done p e,
        subst (λ n. IsAmong q (held_pairs f g n (body_of_id nodes p.first) (body_of_id others p.second))) (sym is) held,
      )
]

any_number : (n k : ℕ) (at : ℕ) (own others : List ℤ) (partners : List (Option ℕ)) (a b : ℤ)
    → IsOneOf a b (pairs_by n at own others partners)
    → IsOneOf a b (pairs_by k at own others partners)
any_number n k at [] others partners a b h = absurd h
any_number n k at (x ∷ own) others [] a b h = absurd h
any_number n k at (x ∷ own) others (None ∷ partners) a b h = any_number n k (suc at) own others partners a b h
any_number n k at (x ∷ own) others (Some i ∷ partners) a b h =
    elim (slice_get others i) as (λ o. IsOneOf a b (pair_with n at x o ++ pairs_by n (suc at) own others partners)
    → IsOneOf a b (pair_with k at x o ++ pairs_by k (suc at) own others partners)) [
      | None ↦ λ j. any_number n k (suc at) own others partners a b j
      | Some y ↦ λ j. elim j [
        | inl e ↦ inl e
        | inr r ↦ inr (any_number n k (suc at) own others partners a b r)
      ]
    ] h

-- which nodes are held is no matter of the number
renumbered : (f g : ℤ → ℕ) (n k : ℕ) (b c : NodeBody) (x y : ℤ) → IsOneOf x y (held_pairs f g n b c)
    → IsOneOf x y (held_pairs f g k b c)
renumbered f g n k b c x y h =
    elim (kind_of b == kind_of c) as (λ z. IsOneOf x y (cond z (pairs_by n 0 (held_values b) (held_values c) (matched (key_labels f b) (key_labels g c))) [])
    → IsOneOf x y (cond z (pairs_by k 0 (held_values b) (held_values c) (matched (key_labels f b) (key_labels g c))) [])) [
      | true ↦ λ i. any_number n k 0 (held_values b) (held_values c) (matched (key_labels f b) (key_labels g c)) x y i
      | false ↦ λ i. i
    ] h

compared_suc : (nodes others : List Node) (f g : ℤ → ℕ) (done : ℕ) (p : Pair)
    (pairs new : List Pair) (told after : List yaml_node_difference_t)
    → ComparesTo nodes others f g done pairs told → slice_get pairs done ≡ Some p
    → after ≡ told ++ told_of f g nodes others done p
    → Pushes f g (held_pairs f g done (body_of_id nodes p.first) (body_of_id others p.second)) pairs
    new
    → ComparesTo nodes others f g (suc done) new after
unfolding ComparedAt
compared_suc nodes others f g done p pairs new told after h e t s =
    let many : done ≡ 0 + length (take done pairs) = omega (arith, taken_many done pairs p e) in
    let taken : take (suc done) new ≡ take done pairs ++ p ∷ [] = ap (take (suc done)) s.is ∙ taken_more done pairs s.added p e in
    record {
      told = t ∙ ap (λ z. z ++ told_of f g nodes others done p) h.told
          ∙ ap (λ k. told_in f g nodes others 0 (take done pairs) ++ told_of f g nodes others k p) many
          ∙ sym (told_push f g nodes others 0 (take done pairs) p) ∙ ap (told_in f g nodes others 0) (sym taken);
      root = subst (IsOneOf (pos 1) (pos 1)) (sym s.is) (in_front (pos 1) (pos 1) pairs s.added h.root);
      reached = subst (AreReached nodes others f g) (sym s.is) (reached_on nodes others f g done p pairs s.added h.reached e s.among);
      sound = λ a b one. elim (either a b pairs s.added (subst (IsOneOf a b) s.is one)) [
        | inl l ↦ h.sound a b l
        | inr r ↦ let from = s.sound a b r in
            let c = h.sound p.first p.second (is_one done pairs p e) in
            (suc c.0, (p.first, p.second, c.1, renumbered f g done 0 (body_of_id nodes p.first) (body_of_id others p.second) a b from.0, from.1))
      ];
      whole = λ c d a b one held n. elim (either c d (take done pairs) (p ∷ []) (subst (IsOneOf c d) taken one)) [
        | inl l ↦ subst (IsOneOf a b) (sym s.is) (in_front a b pairs s.added (h.whole c d a b l held n))
        | inr r ↦ elim r [
          | inl i ↦ s.whole a b (renumbered f g 0 done (body_of_id nodes p.first) (body_of_id others p.second) a b (subst (λ z. IsOneOf a b (held_pairs f g 0 (body_of_id nodes p.first) (body_of_id others z))) i.1 (subst (λ z. IsOneOf a b (held_pairs f g 0 (body_of_id nodes z) (body_of_id others d))) i.0 held))) n
          | inr z ↦ absurd z
        ]
      ];
    }

pub compared_next : (nodes others : List Node) (labels : BothLabels) (done : ℕ) (p : Pair)
    (old new : Walk) (told after : List yaml_node_difference_t)
    → Compares nodes others labels done old told → slice_get old.pairs.items done ≡ Some p
    → ComparesPair nodes others labels done p old new told after
    → Compares nodes others labels (done + 1) new after
compared_next nodes others labels done p old new told after h e c =
    rw add-one (compared_suc nodes others (first_of labels) (second_of labels) done p old.pairs.items new.pairs.items told after h e c.told c.pushes.1)

-- all were compared, where none is left
pub compared_all : (nodes others : List Node) (labels : BothLabels) (done : ℕ) (w : Walk)
    (told : List yaml_node_difference_t) → IsWalk w → Compares nodes others labels done w told
    → slice_get w.pairs.items done ≡ None → ComparesAll nodes others labels w told
compared_all nodes others labels done w told i h e =
    let pairs = w.pairs.items in
    let f = first_of labels in
    let g = second_of labels in
    let same : take done pairs ≡ take (length pairs) pairs = take_all done pairs (none_at done pairs e) ∙ sym (take_all (length pairs) pairs (omega arith)) in (
      i,
      record {
        told = h.told ∙ ap (told_in f g nodes others 0) same;
        root = h.root;
        reached = h.reached;
        sound = h.sound;
        whole = λ c d a b one held n. h.whole c d a b (subst (IsOneOf c d) (sym same) one) held n;
      },
    )

-- ---- from the roots on

only_one : (at : ℕ) (p : Pair) → slice_get (roots ∷ []) at ≡ Some p → (at ≡ 0) × (p ≡ roots)
only_one zero p e = let i : roots ≡ p = cc in (refl, sym i)
only_one (suc at) p e = absurd (cc)

begins : (nodes others : List Node) (f g : ℤ → ℕ) (pairs : List Pair)
    → pairs ≡ roots ∷ []
    → ComparesTo nodes others f g 0 pairs []
unfolding ComparedAt
begins nodes others f g pairs e = record {
  told = refl;
  root = subst (IsOneOf (pos 1) (pos 1)) (sym e) (inl (refl, refl));
  reached = λ at p i. inl (only_one at p (subst (λ z. slice_get z at ≡ Some p) e i));
  sound = λ a b one. elim (subst (IsOneOf a b) e one) [
    | inl i ↦ (0, i)
    | inr z ↦ absurd z
  ];
  whole = λ c d a b one held n. absurd one;
}

pub roots_met : (nodes others : List Node) (labels : BothLabels) (old new : Walk)
    → old.pairs.items ≡ [] → Meets roots old new
    → Begins nodes others labels new []
roots_met nodes others labels old new e (i, inl k) = absurd (subst (IsOneOf (pos 1) (pos 1)) e k.1)
roots_met nodes others labels old new e (i, inr k) =
    begins nodes others (first_of labels) (second_of labels) new.pairs.items (k ∙ ap (λ z. z ++ roots ∷ []) e)

reached : (nodes others : List Node) (f g : ℤ → ℕ) (pairs : List Pair)
    (told : List yaml_node_difference_t) → ComparesTo nodes others f g (length pairs) pairs told
    → (n : ℕ) (a b : ℤ) → ComparedAt n nodes others f g a b → IsOneOf a b pairs
unfolding ComparedAt
reached nodes others f g pairs told h zero a b c =
    subst (λ z. IsOneOf a z pairs) (sym c.1) (subst (λ z. IsOneOf z (pos 1) pairs) (sym c.0) h.root)
reached nodes others f g pairs told h (suc n) a b (c, d, above, held, ne) =
    h.whole c d a b (subst (IsOneOf c d) (sym (take_all (length pairs) pairs (omega arith))) (reached nodes others f g pairs told h n c d above)) held ne

pub differences : (nodes others : List Node) (labels : BothLabels) (w : Walk)
    (told : List yaml_node_difference_t) → LabelsTell nodes others labels
    → ComparesAll nodes others labels w told → AreDifferences nodes others w.pairs.items told
differences nodes others labels w told t (i, h) = record {
  first = first_of labels;
  second = second_of labels;
  tell = t;
  once = i.once;
  compared = λ a b. (h.sound a b, λ c. reached nodes others (first_of labels) (second_of labels) w.pairs.items told h c.0 a b c.1);
  reached = h.reached;
  told = h.told ∙ ap (told_in (first_of labels) (second_of labels) nodes others 0) (take_all (length w.pairs.items) w.pairs.items (omega arith));
}

-- both clauses of an answer
pub on_both : {X Y : Type 0} {P Q R : Type 0} (r : Result X Y) → (P → Q → R) → OnOk r P → OnOk r Q
    → OnOk r R
on_both (Ok x) go p q = go p q
on_both (Err e) go p q = tt
