-- A table of anchors by the bytes of the names.
use Rattle.std.proofs.Common.{◌≡◌, ℕ, List, [], ◌∷◌, map, Some, cond, refl, ap, sym, ◌∙◌, Vec}
use Rattle.std.specs.Global.{Global}
use Rattle.std.specs.declared.cmp.Ordering.TheVariants.{Less, Equal, Greater}
use Rattle.std.specs.Ordering.{nat_cmp, match_ordering}
use Rattle.std.specs.Cmp.Lexicographic.{slice_cmp, nat_list_cmp_total}
use Rattle.std.specs.Map.{lookup}
use Rattle.std.specs.BTreeMap.{is_at, insert_entry}
use Rattle.std.specs.FinMap.{from_entries, insert, get, find, put, get-insert, get-from_entries, same_map, slice_cmp-IsAntisymmetric, nat_cmp-IsAntisymmetric}
use Rattle.std.specs.FinMap.Entries.{by_order, find-put}

abbrev Name : Type 0
Name = Vec ℕ Global

-- an entry, its name as a list
abbrev pub entry_of : {X : Type 0} → Name × X → List ℕ × X
entry_of e = (e.0.items, e.1)

pub found : {X : Type 0} (name : List ℕ) (es : List (Name × X))
    → lookup (is_at (λ (k : Name). slice_cmp nat_cmp name k.items)) es
    ≡ get (from_entries {R = slice_cmp nat_cmp} (map entry_of es)) name
found name es = looked name es ∙ sym (get-from_entries nat_list_cmp_total (map entry_of es) name)
  where
    looked : {X : Type 0} (name : List ℕ) (es : List (Name × X))
        → lookup (is_at (λ (k : Name). slice_cmp nat_cmp name k.items)) es
        ≡ find (slice_cmp nat_cmp) name (map entry_of es)
    looked name [] = refl
    looked name (e ∷ es) = ap (cond _ (Some e.1)) (looked name es)

put_name : {X : Type 0} (es : List (Name × X)) (k : Name) (v : X)
    → map entry_of (insert_entry (λ (a b : Name). slice_cmp nat_cmp a.items b.items) es k v)
    ≡ put (slice_cmp nat_cmp) k.items v (map entry_of es)
put_name [] k v = refl
put_name (e ∷ es) k v =
    elim (slice_cmp nat_cmp k.items e.0.items) as (λ r. map entry_of (match_ordering r ((k, v) ∷ e ∷ es) ((e.0, v) ∷ es) (e ∷ insert_entry (λ (a b : Name). slice_cmp nat_cmp a.items b.items) es k v))
    ≡ by_order r ((k.items, v) ∷ entry_of e ∷ map entry_of es) ((e.0.items, v) ∷ map entry_of es) (entry_of e ∷ put (slice_cmp nat_cmp) k.items v (map entry_of es))) [
      | Less ↦ refl
      | Equal ↦ refl
      | Greater ↦ ap (λ es. entry_of e ∷ es) (put_name es k v)
    ]

pub inserted : {X : Type 0} (es : List (Name × X)) (k : Name) (v : X)
    → from_entries {R = slice_cmp nat_cmp}
    (map entry_of (insert_entry (λ (a b : Name). slice_cmp nat_cmp a.items b.items) es k v))
    ≡ insert (from_entries (map entry_of es)) k.items v
inserted es k v = same_map nat_list_cmp_total (slice_cmp-IsAntisymmetric nat_cmp-IsAntisymmetric) _ _ (λ q.
    get-from_entries nat_list_cmp_total _ q
    ∙ ap (find (slice_cmp nat_cmp) q) (put_name es k v)
    ∙ find-put (slice_cmp nat_cmp) nat_list_cmp_total q k.items v (map entry_of es)
    ∙ sym (get-insert nat_list_cmp_total (from_entries (map entry_of es)) k.items v q ∙ ap (cond _ (Some v)) (get-from_entries nat_list_cmp_total (map entry_of es) q)))
