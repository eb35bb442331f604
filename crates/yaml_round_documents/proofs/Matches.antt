-- Labels are the same lists exactly where all are matched in order.
use Rattle.std.proofs.Common.{◌≡◌, ℕ, suc, ◌≤◌, true, false, cond, List, [], ◌∷◌, ◌++◌, map, Option, Some, None, refl, sym, subst, ◌∙◌, ap, inl, inr, arith}
use Rattle.std.specs.Prelude.{◌⊎◌, ◌==◌, nat_lt}
use Rattle.std.specs.Cmp.{eq_by_cmp_equiv}
use Rattle.std.specs.Cmp.Lexicographic.{nat_list_cmp_total}
use Rattle.std.proofs.lemmas.Bool.{eq-eqb}
use Rattle.std.proofs.lemmas.Bool.Decides.{nat_tests}
use Rattle.std.proofs.lemmas.Map.Lookups.{exact_bytes}
use Rattle.yaml_round_documents.proofs.Labels.{tied}
use Rattle.yaml_round_documents.specs.declared.difference.yaml_node_cause_t.{yaml_node_cause_t}
use Rattle.yaml_round_documents.specs.declared.walk.yaml_node_match_t.{yaml_node_match_t as Pair}
use Rattle.yaml_round_documents.specs.Matching.{in_order, is_equal, matched, numbered, place_from, times}
use Rattle.yaml_round_documents.specs.Differences.{told_alone}
use Rattle.yaml_round_documents.proofs.Numbering.{times_push}

abbrev Names : Type 0
Names = List (List ℕ)

abbrev IsIn : List ℕ → Names → Type 0
IsIn x [] = ⊥
IsIn x (y ∷ ys) = (x ≡ y) ⊎ IsIn x ys

abbrev Distinct : Names → Type 0
Distinct [] = Unit {0}
Distinct (x ∷ xs) = (IsIn x xs → ⊥) × Distinct xs

abbrev AllFound : List (Option ℕ) → Type 0
AllFound [] = Unit {0}
AllFound (None ∷ ps) = ⊥
AllFound (Some p ∷ ps) = AllFound ps

abbrev AllAbove : ℕ → List (Option ℕ) → Type 0
AllAbove from [] = Unit {0}
AllAbove from (None ∷ ps) = AllAbove from ps
AllAbove from (Some p ∷ ps) = (from ≤ p) × AllAbove from ps

equal_is : (x y : List ℕ) → is_equal x y ≡ true → x ≡ y
equal_is x y e = exact_bytes x y (tied _ e)

is_itself : (x : List ℕ) → is_equal x x ≡ true
is_itself x = (eq_by_cmp_equiv nat_list_cmp_total).refl x

not_equal : (x y : List ℕ) → (x ≡ y → ⊥) → is_equal x y ≡ false
not_equal x y ne = elim (is_equal x y) as (λ b. is_equal x y ≡ b → b ≡ false) [ true ↦ λ e. absurd (ne (equal_is x y e)) | false ↦ λ e. refl ] refl

abbrev places : ℕ → Names → Names → List (Option ℕ)
places at ys xs = map (λ x. place_from at x ys) xs

-- ---- numbers of equal labels

numbered_least : (before ls : List ℕ) (l k : ℕ) → IsIn (l ∷ k ∷ []) (numbered before ls)
    → times l before ≤ k
numbered_least before [] l k h = absurd h
numbered_least before (m ∷ ls) l k (inl e) =
    let i : l ≡ m = cc in
    let j : k ≡ times m before = cc in
    let t : times l before ≡ times m before = ap (λ z. times z before) i in omega arith
numbered_least before (m ∷ ls) l k (inr h) =
    let i = numbered_least (before ++ m ∷ []) ls l k h in
    let t = times_push l before m in
    elim (l == m) as (λ b. times l (before ++ m ∷ []) ≡ cond b (suc (times l before)) (times l before) → times l before ≤ k) [
      | true ↦ λ e. omega arith
      | false ↦ λ e. omega arith
    ] t

pub numbered_distinct : (before ls : List ℕ) → Distinct (numbered before ls)
numbered_distinct before [] = tt
numbered_distinct before (l ∷ ls) = (
  λ h. let i = numbered_least (before ++ l ∷ []) ls l (times l before) h in
      let t : times l (before ++ l ∷ []) ≡ suc (times l before) = times_push l before l ∙ ap (λ b. cond b (suc (times l before)) (times l before)) (eq-eqb l l refl) in
      absurd (omega arith),
  numbered_distinct (before ++ l ∷ []) ls,
)

labels_back : (before more xs ys : List ℕ) → numbered before xs ≡ numbered more ys → xs ≡ ys
labels_back before more [] [] e = refl
labels_back before more [] (y ∷ ys) e = absurd (cc)
labels_back before more (x ∷ xs) [] e = absurd (cc)
labels_back before more (x ∷ xs) (y ∷ ys) e =
    let h : x ∷ times x before ∷ [] ≡ y ∷ times y more ∷ [] = cc in
    let i : x ≡ y = cc in
    let t : numbered (before ++ x ∷ []) xs ≡ numbered (more ++ y ∷ []) ys = cc in
    let r = labels_back (before ++ x ∷ []) (more ++ y ∷ []) xs ys t in
    λ j. i j ∷ r j

-- ---- all are found, in order

found_in : (at : ℕ) (x : List ℕ) (ys : Names) (p : ℕ) → place_from at x ys ≡ Some p → IsIn x ys
found_in at x [] p e = absurd (cc)
found_in at x (y ∷ ys) p e =
    elim (is_equal x y) as (λ b. is_equal x y ≡ b → cond b (Some at) (place_from (suc at) x ys) ≡ Some p → IsIn x (y ∷ ys)) [
      | true ↦ λ h f. inl (equal_is x y h)
      | false ↦ λ h f. inr (found_in (suc at) x ys p f)
    ] refl e

above_by : (from to : ℕ) (ps : List (Option ℕ)) → from ≤ to → AllAbove to ps → AllAbove from ps
above_by from to [] w h = tt
above_by from to (None ∷ ps) w h = above_by from to ps w h
above_by from to (Some p ∷ ps) w h = (omega arith, above_by from to ps w h.1)

lt_no : (p from : ℕ) → nat_lt p from ≡ false → from ≤ p
lt_no p from e = grind (arith, nat_tests)

-- what is in order from a place on is above it
in_order_above : (from : ℕ) (ps : List (Option ℕ)) → in_order from ps ≡ true → AllAbove from ps
in_order_above from [] e = tt
in_order_above from (None ∷ ps) e = in_order_above from ps e
in_order_above from (Some p ∷ ps) e =
    elim (nat_lt p from) as (λ b. nat_lt p from ≡ b → cond b false (in_order (suc p) ps) ≡ true → (from ≤ p) × AllAbove from ps) [
      | true ↦ λ h f. absurd (cc)
      | false ↦ λ h f. let w = lt_no p from h in (w, above_by from (suc p) ps (omega arith) (in_order_above (suc p) ps f))
    ] refl e

order_tail : (from p : ℕ) (ps : List (Option ℕ)) → in_order from (Some p ∷ ps) ≡ true
    → in_order (suc p) ps ≡ true
order_tail from p ps e =
    elim (nat_lt p from) as (λ b. cond b false (in_order (suc p) ps) ≡ true → in_order (suc p) ps ≡ true) [
      | true ↦ λ f. absurd (cc)
      | false ↦ λ f. f
    ] e

above_tail : (from : ℕ) (o : Option ℕ) (ps : List (Option ℕ)) → AllAbove from (o ∷ ps)
    → AllAbove from ps
above_tail from None ps k = k
above_tail from (Some p) ps k = k.1

-- what is found above the first place is found among the others
skips : (at : ℕ) (y : List ℕ) (ys xs : Names) → AllAbove (suc at) (places at (y ∷ ys) xs)
    → places at (y ∷ ys) xs ≡ places (suc at) ys xs
skips at y ys [] h = refl
skips at y ys (x ∷ xs) h =
    elim (is_equal x y) as (λ b. AllAbove (suc at) (cond b (Some at) (place_from (suc at) x ys) ∷ places at (y ∷ ys) xs)
    → cond b (Some at) (place_from (suc at) x ys) ∷ places at (y ∷ ys) xs ≡ places (suc at) ys (x ∷ xs)) [
      | true ↦ λ k. absurd (omega (arith, k.0))
      | false ↦ λ k. ap (λ z. place_from (suc at) x ys ∷ z) (skips at y ys xs (above_tail (suc at) (place_from (suc at) x ys) (places at (y ∷ ys) xs) k))
    ] h

-- what is above the first place isn't the first
not_first : (at : ℕ) (y : List ℕ) (ys xs : Names) → AllAbove (suc at) (places at (y ∷ ys) xs)
    → IsIn y xs → ⊥
not_first at y ys [] h i = i
not_first at y ys (x ∷ xs) h (inl e) =
    let t : is_equal x y ≡ true = ap (λ z. is_equal x z) e ∙ is_itself x in
    let k : AllAbove (suc at) (Some at ∷ places at (y ∷ ys) xs) = subst (λ b. AllAbove (suc at) (cond b (Some at) (place_from (suc at) x ys) ∷ places at (y ∷ ys) xs)) t h in
    absurd (omega (arith, k.0))
not_first at y ys (x ∷ xs) h (inr i) = not_first at y ys xs (above_tail (suc at) (place_from at x (y ∷ ys)) (places at (y ∷ ys) xs) h) i

place_least : (at : ℕ) (x : List ℕ) (ys : Names) (n : ℕ) → place_from at x ys ≡ Some n → at ≤ n
place_least at x [] n e = absurd (cc)
place_least at x (y ∷ ys) n e =
    elim (is_equal x y) as (λ b. cond b (Some at) (place_from (suc at) x ys) ≡ Some n → at ≤ n) [
      | true ↦ λ f. let i : at ≡ n = cc in omega arith
      | false ↦ λ f. let w = place_least (suc at) x ys n f in omega arith
    ] e

abbrev AllIn : Names → Names → Type 0
AllIn ys xs = (y : List ℕ) → IsIn y ys → IsIn y xs

pub same_names : (at : ℕ) (xs ys : Names) → Distinct ys → in_order at (places at ys xs) ≡ true
    → AllFound (places at ys xs) → AllIn ys xs → xs ≡ ys
same_names at [] [] d o f back = refl
same_names at [] (y ∷ ys) d o f back = absurd (back y (inl refl))
same_names at (x ∷ xs) [] d o f back = absurd f
same_names at (x ∷ xs) (y ∷ ys) d o f back =
    elim (is_equal x y) as (λ b. is_equal x y ≡ b
    → in_order at (cond b (Some at) (place_from (suc at) x ys) ∷ places at (y ∷ ys) xs) ≡ true
    → AllFound (cond b (Some at) (place_from (suc at) x ys) ∷ places at (y ∷ ys) xs) → x ∷ xs ≡ y ∷ ys) [
      | true ↦ λ e p q. let is = equal_is x y e in
          let order = order_tail at at (places at (y ∷ ys) xs) p in
          let rest = skips at y ys xs (in_order_above (suc at) (places at (y ∷ ys) xs) order) in
          let others : AllIn ys xs = λ z i. elim (back z (inr i)) [
            | inl s ↦ absurd (d.0 (subst (λ w. IsIn w ys) (s ∙ is) i))
            | inr k ↦ k
          ] in
          let r = same_names (suc at) xs ys d.1 (subst (λ z. in_order (suc at) z ≡ true) rest order) (subst AllFound rest q) others in
          λ j. is j ∷ r j
      | false ↦ λ e p q. absurd (later (place_from (suc at) x ys) refl e p q)
    ] refl o f
  where
    later : (o : Option ℕ) → place_from (suc at) x ys ≡ o → is_equal x y ≡ false
        → in_order at (place_from (suc at) x ys ∷ places at (y ∷ ys) xs) ≡ true
        → AllFound (place_from (suc at) x ys ∷ places at (y ∷ ys) xs) → ⊥
    later None i e p q = subst (λ z. AllFound (z ∷ places at (y ∷ ys) xs)) i q
    later (Some n) i e p q =
        let w = place_least (suc at) x ys n i in
        let order = order_tail at n (places at (y ∷ ys) xs) (subst (λ z. in_order at (z ∷ places at (y ∷ ys) xs) ≡ true) i p) in
        let above = above_by (suc at) (suc n) (places at (y ∷ ys) xs) (omega arith) (in_order_above (suc n) (places at (y ∷ ys) xs) order) in
        elim (back y (inl refl)) [
          | inl s ↦ let t : true ≡ false = sym (ap (is_equal x) s ∙ is_itself x) ∙ e in absurd (cc)
          | inr k ↦ not_first at y ys xs above k
        ]

-- ---- the same labels are matched each with itself

abbrev pub somes : ℕ → Names → List (Option ℕ)
somes at [] = []
somes at (x ∷ xs) = Some at ∷ somes (suc at) xs

passed : (at : ℕ) (y : List ℕ) (ys xs : Names) → (IsIn y xs → ⊥)
    → places at (y ∷ ys) xs ≡ places (suc at) ys xs
passed at y ys [] n = refl
passed at y ys (x ∷ xs) n =
    let e : is_equal x y ≡ false = not_equal x y (λ i. n (inl (sym i))) in
    let r = passed at y ys xs (λ i. n (inr i)) in
    ap (λ b. cond b (Some at) (place_from (suc at) x ys) ∷ places at (y ∷ ys) xs) e ∙ ap (λ z. place_from (suc at) x ys ∷ z) r

own_places : (at : ℕ) (xs : Names) → Distinct xs → places at xs xs ≡ somes at xs
own_places at [] d = refl
own_places at (x ∷ xs) d =
    ap (λ b. cond b (Some at) (place_from (suc at) x xs) ∷ places at (x ∷ xs) xs) (is_itself x)
    ∙ ap (λ z. Some at ∷ z) (passed at x xs xs d.0 ∙ own_places (suc at) xs d.1)

pub matched_itself : (labels : List ℕ) → matched labels labels ≡ somes 0 (numbered [] labels)
matched_itself labels = own_places 0 (numbered [] labels) (numbered_distinct [] labels)

lt_same : (n : ℕ) → nat_lt n n ≡ false
lt_same n = grind (arith, nat_tests)

pub somes_in_order : (at : ℕ) (xs : Names) → in_order at (somes at xs) ≡ true
somes_in_order at [] = refl
somes_in_order at (x ∷ xs) = ap (λ b. cond b false (in_order (suc at) (somes (suc at) xs))) (lt_same at) ∙ somes_in_order (suc at) xs

pub somes_not_alone : (i : ℕ) (p : Pair) (c : yaml_node_cause_t) (k at : ℕ) (xs : Names)
    → told_alone i p c k (somes at xs) ≡ []
somes_not_alone i p c k at [] = refl
somes_not_alone i p c k at (x ∷ xs) = somes_not_alone i p c (suc k) (suc at) xs

-- ---- where none is alone, all are found

not_alone_found : (i : ℕ) (p : Pair) (c : yaml_node_cause_t) (at : ℕ) (ps : List (Option ℕ))
    → told_alone i p c at ps ≡ [] → AllFound ps
not_alone_found i p c at [] e = tt
not_alone_found i p c at (None ∷ ps) e = absurd (cc)
not_alone_found i p c at (Some n ∷ ps) e = not_alone_found i p c (suc at) ps e

all_in : (xs ys : Names) → AllFound (places 0 xs ys) → AllIn ys xs
all_in xs [] f y i = absurd i
all_in xs (z ∷ ys) f y i =
    elim (place_from 0 z xs) as (λ o. place_from 0 z xs ≡ o → AllFound (o ∷ places 0 xs ys) → IsIn y xs) [
      | None ↦ λ e k. absurd k
      | Some n ↦ λ e k. elim i [
        | inl s ↦ subst (λ w. IsIn w xs) (sym s) (found_in 0 z xs n e)
        | inr j ↦ all_in xs ys k y j
      ]
    ] refl f

-- where all are matched in order, the labels are the same
pub same_labels : (i : ℕ) (p : Pair) (c d : yaml_node_cause_t) (own others : List ℕ)
    → in_order 0 (matched own others) ≡ true → told_alone i p c 0 (matched own others) ≡ []
    → told_alone i p d 0 (matched others own) ≡ [] → own ≡ others
same_labels i p c d own others o a b =
    labels_back [] [] own others (same_names 0 (numbered [] own) (numbered [] others) (numbered_distinct [] others) o
    (not_alone_found i p c 0 (matched own others) a)
    (all_in (numbered [] own) (numbered [] others) (not_alone_found i p d 0 (matched others own) b)))
