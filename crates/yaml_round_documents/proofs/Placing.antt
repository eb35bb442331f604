-- The places of names.
use Rattle.std.proofs.Common.{◌≡◌, ℕ, suc, ◌+◌, ◌<◌, ◌≤◌, true, false, cond, List, [], ◌∷◌, ◌++◌, length, map, get_or, take, Option, Some, None, refl, sym, ◌∙◌, ap, arith}
use Rattle.std.specs.FinMap as map
use Rattle.std.specs.FinMap.{get-empty, get-insert}
use Rattle.std.specs.Ordering.{nat_cmp}
use Rattle.std.specs.Cmp.Lexicographic.{slice_cmp, nat_list_cmp_total}
use Rattle.std.proofs.lemmas.Map.Lookups.{exact_bytes}
use Rattle.std.proofs.lemmas.List.{map-append, length-map, length-take-le, take_more, take_all}
use Rattle.yaml_round_documents.specs.Shapes.{Shapes}
use Rattle.yaml_round_documents.proofs.Labels.{tied}
use Rattle.yaml_round_documents.specs.declared.matching.Numbered.{Numbered}
use Rattle.yaml_round_documents.specs.Matching.{ArePlaces, is_equal, matched, name_of, numbered, place_from, places_in, put_first}

-- the first, or else the other
abbrev pub or_else : {A : Type 0} → Option A → Option A → Option A
or_else None o = o
or_else (Some n) o = Some n

or_nothing : (o : Option ℕ) → or_else o None ≡ o
or_nothing None = refl
or_nothing (Some n) = refl

-- one more comes last
place_push : (at : ℕ) (q x : List ℕ) (ys : List (List ℕ))
    → place_from at q (ys ++ x ∷ [])
    ≡ or_else (place_from at q ys) (cond (is_equal q x) (Some (at + length ys)) None)
place_push at q x [] = let e : at ≡ at + 0 = omega arith in ap (λ n. cond (is_equal q x) (Some n) None) e
place_push at q x (y ∷ ys) =
    elim (is_equal q y) as (λ b. cond b (Some at) (place_from (suc at) q (ys ++ x ∷ []))
    ≡ or_else (cond b (Some at) (place_from (suc at) q ys)) (cond (is_equal q x) (Some (at + length (y ∷ ys))) None)) [
      | true ↦ refl
      | false ↦ let e : suc at + length ys ≡ at + length (y ∷ ys) = omega arith in
          place_push (suc at) q x ys ∙ ap (λ n. or_else (place_from (suc at) q ys) (cond (is_equal q x) (Some n) None)) e
    ]

-- the table has the places of the first names
pub record PlacedTo (names : List Numbered) (at : ℕ) (places : Shapes) : Type 0 where
  pub has : (q : List ℕ) → map.get places q ≡ place_from 0 q (map name_of (take at names))

pub none_placed : (names : List Numbered) (places : Shapes) → places ≡ map.empty
    → PlacedTo names 0 places
none_placed names places e = record { has = λ q. ap (λ m. map.get m q) e ∙ get-empty (slice_cmp nat_cmp) q }

-- a place is put where there is none
pub put_is : (places : Shapes) (x q : List ℕ) (at : ℕ)
    → map.get (put_first (map.get places x) places x at) q
    ≡ or_else (map.get places q) (cond (is_equal q x) (Some at) None)
put_is places x q at =
    elim (map.get places x) as (λ o. map.get places x ≡ o
    → map.get (put_first o places x at) q ≡ or_else (map.get places q) (cond (is_equal q x) (Some at) None)) [
      | Some p ↦ λ h. elim (is_equal q x) as (λ b. is_equal q x ≡ b
          → map.get places q ≡ or_else (map.get places q) (cond b (Some at) None)) [
            | true ↦ λ e. let g : map.get places q ≡ Some p = ap (map.get places) (exact_bytes q x (tied _ e)) ∙ h in
                g ∙ sym (ap (λ o. or_else o (Some at)) g)
            | false ↦ λ e. sym (or_nothing (map.get places q))
          ] refl
      | None ↦ λ h. get-insert nat_list_cmp_total places x at q
          ∙ elim (is_equal q x) as (λ b. is_equal q x ≡ b
          → cond b (Some at) (map.get places q) ≡ or_else (map.get places q) (cond b (Some at) None)) [
            | true ↦ λ e. let g : map.get places q ≡ None = ap (map.get places) (exact_bytes q x (tied _ e)) ∙ h in
                sym (ap (λ o. or_else o (Some at)) g)
            | false ↦ λ e. sym (or_nothing (map.get places q))
          ] refl
    ] refl

pub placed_next : (names : List Numbered) (at : ℕ) (d : Numbered) (old new : Shapes)
    → PlacedTo names at old → at < length names
    → new ≡ put_first (map.get old (name_of (get_or names at d))) old (name_of (get_or names at d)) at
    → PlacedTo names (at + 1) new
placed_next names at d old new h w e =
    let x = name_of (get_or names at d) in
    let front = map name_of (take at names) in
    let sized : 0 + length front ≡ at = omega (arith, length-map (take at names) name_of, length-take-le at names (omega arith)) in
    let taken : map name_of (take (at + 1) names) ≡ front ++ x ∷ [] = ap (map name_of) (take_more names at d w) ∙ map-append name_of (take at names) (get_or names at d ∷ []) in
    record {
      has = λ q. ap (λ m. map.get m q) e ∙ put_is old x q at
          ∙ ap (λ o. or_else o (cond (is_equal q x) (Some at) None)) (h.has q)
          ∙ ap (λ n. or_else (place_from 0 q front) (cond (is_equal q x) (Some n) None)) (sym sized)
          ∙ sym (place_push 0 q x front) ∙ ap (place_from 0 q) (sym taken);
    }

pub all_placed : (names : List Numbered) (at : ℕ) (places : Shapes) → PlacedTo names at places
    → length names ≤ at → ArePlaces (map name_of names) places
all_placed names at places h w q = h.has q ∙ ap (λ z. place_from 0 q (map name_of z)) (take_all at names w)

-- by the places of the others
map_by : (f g : List ℕ → Option ℕ) → ((x : List ℕ) → f x ≡ g x) → (ns : List Numbered)
    → map (λ n. f (name_of n)) ns ≡ map g (map name_of ns)
map_by f g h [] = refl
map_by f g h (n ∷ ns) = λ i. h (name_of n) i ∷ map_by f g h ns i

pub found_by : (names others : List Numbered) (places : Shapes) (found : List (Option ℕ))
    → ArePlaces (map name_of others) places
    → found ≡ map (λ (n : Numbered). map.get places (name_of n)) names
    → found ≡ places_in (map name_of others) (map name_of names)
found_by names others places found p e =
    e ∙ map_by (map.get places) (λ x. place_from 0 x (map name_of others)) p names

pub matched_by : (own others : List ℕ) (names other_names : List Numbered)
    (found : List (Option ℕ)) → map name_of names ≡ numbered [] own
    → map name_of other_names ≡ numbered [] others
    → found ≡ places_in (map name_of other_names) (map name_of names) → found ≡ matched own others
matched_by own others names other_names found n m e =
    e ∙ ap (λ z. places_in z (map name_of names)) m ∙ ap (places_in (numbered [] others)) n
