-- Keys of two collections: the k-th of equal ones is matched with the k-th.
use Rattle.std.specs.Prelude.{◌≡◌, ℕ, suc, ◌==◌, nat_lt, Bool, true, false, if◌then◌else◌, List, [], ◌∷◌, ◌++◌, map, Option, Some, None, Result, Ok, Err}
use Rattle.std.specs.declared.alloc.AllocError.{AllocError}
use Rattle.std.specs.Ordering.{eq_by_cmp, nat_cmp}
use Rattle.std.specs.Cmp.Lexicographic.{slice_cmp}
use Rattle.std.specs.FinMap as map
use Rattle.yaml_round_documents.specs.Shapes.{Shapes}
use Rattle.yaml_round_documents.specs.declared.matching.Numbered.{Numbered}

-- the lists are equal
abbrev pub is_equal : List ℕ → List ℕ → Bool
is_equal xs ys = eq_by_cmp (slice_cmp nat_cmp) xs ys

-- how often a label is among these
abbrev pub times : ℕ → List ℕ → ℕ
times l [] = 0
times l (x ∷ xs) = if l == x then suc (times l xs) else times l xs

-- each label, with how often it is before it
abbrev pub numbered : List ℕ → List ℕ → List (List ℕ)
numbered before [] = []
numbered before (l ∷ ls) = (l ∷ times l before ∷ []) ∷ numbered (before ++ l ∷ []) ls

-- the place, from a first one on, where that is first
abbrev pub place_from : ℕ → List ℕ → List (List ℕ) → Option ℕ
place_from at x [] = None
place_from at x (y ∷ ys) = if is_equal x y then Some at else place_from (suc at) x ys

-- of each the place where it is first among the others
abbrev pub places_in : List (List ℕ) → List (List ℕ) → List (Option ℕ)
places_in others own = map (λ x. place_from 0 x others) own

-- Of each label the place among the others with which it is matched: where it is as often before.
abbrev pub matched : List ℕ → List ℕ → List (Option ℕ)
matched own others = places_in (numbered [] others) (numbered [] own)

-- what is matched is so in order, from a place on
abbrev pub in_order : ℕ → List (Option ℕ) → Bool
in_order from [] = true
in_order from (None ∷ ps) = in_order from ps
in_order from (Some p ∷ ps) = if nat_lt p from then false else in_order (suc p) ps

-- the place from which it has to go on; none where that isn't in order
abbrev pub order_after : ℕ → Option ℕ → Option ℕ
order_after from None = Some from
order_after from (Some p) = if nat_lt p from then None else Some (suc p)

-- ---- by tables

-- a label with its number as a list
abbrev pub name_of : Numbered → List ℕ
name_of n = n.label ∷ n.number ∷ []

abbrev pub or_none : Option ℕ → ℕ
or_none None = 0
or_none (Some n) = n

-- how often a label was counted
abbrev pub counted : Shapes → ℕ → ℕ
counted counts l = or_none (map.get counts (l ∷ 0 ∷ []))

-- it is counted once more
abbrev pub Counts : Shapes → ℕ → Result ℕ AllocError → Shapes → Type 0
Counts old l (Ok n) new = (n ≡ counted old l) × (new ≡ map.insert old (l ∷ 0 ∷ []) (suc n))
Counts old l (Err e) new = Unit {0}

-- a place is put where there is none
abbrev pub put_first : Option ℕ → Shapes → List ℕ → ℕ → Shapes
put_first None places x at = map.insert places x at
put_first (Some p) places x at = places

-- the table has the first place of each
abbrev pub ArePlaces : List (List ℕ) → Shapes → Type 0
ArePlaces names places = (x : List ℕ) → map.get places x ≡ place_from 0 x names
