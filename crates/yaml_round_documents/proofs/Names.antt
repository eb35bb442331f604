-- A table by names.
use Rattle.std.proofs.Common.{◌≡◌, ℕ, List, [], ◌∷◌, map, Some, cond, refl, ap, sym, ◌∙◌, Vec}
use Rattle.std.specs.Global.{Global}
use Rattle.std.specs.declared.cmp.Ordering.{Ordering}
use Rattle.std.specs.declared.cmp.Ordering.TheVariants.{Less, Equal, Greater}
use Rattle.std.specs.Ordering.{is_eq, nat_cmp, match_ordering, ordering_then}
use Rattle.std.specs.Cmp.Lexicographic.{slice_cmp, nat_list_cmp_total}
use Rattle.std.specs.Map.{lookup}
use Rattle.std.specs.BTreeMap.{is_at, insert_entry}
use Rattle.std.specs.FinMap.{from_entries, insert, get, find, put, get-insert, get-from_entries, same_map, slice_cmp-IsAntisymmetric, nat_cmp-IsAntisymmetric}
use Rattle.std.specs.FinMap.Entries.{by_order, find-put}
use Rattle.yaml_round_documents.specs.Shapes.{list_of}

abbrev Name : Type 0
Name = ℕ × ℕ × Vec ℕ Global

-- an entry, its name as a list
abbrev pub entry_of : Name × ℕ → List ℕ × ℕ
entry_of e = (list_of e.0, e.1)

abbrev name_cmp : Name → Name → Ordering
name_cmp a b = ordering_then (ordering_then (nat_cmp a.0 b.0) (nat_cmp a.1 b.1)) (slice_cmp nat_cmp a.2.items b.2.items)

-- as lists
as_lists : (a b : Name) → name_cmp a b ≡ slice_cmp nat_cmp (list_of a) (list_of b)
as_lists a b = then_then (nat_cmp a.0 b.0) (nat_cmp a.1 b.1) (slice_cmp nat_cmp a.2.items b.2.items)
  where
    then_then : (o p q : Ordering) → ordering_then (ordering_then o p) q ≡ ordering_then o (ordering_then p q)
    then_then Less p q = refl
    then_then Equal p q = refl
    then_then Greater p q = refl

pub found : (name : Name) (es : List (Name × ℕ))
    → lookup (is_at (λ k. name_cmp name k)) es
    ≡ get (from_entries {R = slice_cmp nat_cmp} (map entry_of es)) (list_of name)
found name es = looked name es ∙ sym (get-from_entries nat_list_cmp_total (map entry_of es) (list_of name))
  where
    looked : (name : Name) (es : List (Name × ℕ))
        → lookup (is_at (λ k. name_cmp name k)) es
        ≡ find (slice_cmp nat_cmp) (list_of name) (map entry_of es)
    looked name [] = refl
    looked name (e ∷ es) = λ i. cond (is_eq (as_lists name e.0 i)) (Some e.1) (looked name es i)

put_name : (es : List (Name × ℕ)) (k : Name) (v : ℕ)
    → map entry_of (insert_entry name_cmp es k v)
    ≡ put (slice_cmp nat_cmp) (list_of k) v (map entry_of es)
put_name [] k v = refl
put_name (e ∷ es) k v =
    ap (λ r. map entry_of (match_ordering r ((k, v) ∷ e ∷ es) ((e.0, v) ∷ es) (e ∷ insert_entry name_cmp es k v))) (as_lists k e.0)
    ∙ elim (slice_cmp nat_cmp (list_of k) (list_of e.0)) as (λ r. map entry_of (match_ordering r ((k, v) ∷ e ∷ es) ((e.0, v) ∷ es) (e ∷ insert_entry name_cmp es k v))
    ≡ by_order r ((list_of k, v) ∷ entry_of e ∷ map entry_of es) ((list_of e.0, v) ∷ map entry_of es) (entry_of e ∷ put (slice_cmp nat_cmp) (list_of k) v (map entry_of es))) [
      | Less ↦ refl
      | Equal ↦ refl
      | Greater ↦ ap (λ es. entry_of e ∷ es) (put_name es k v)
    ]

pub inserted : (es : List (Name × ℕ)) (k : Name) (v : ℕ)
    → from_entries {R = slice_cmp nat_cmp} (map entry_of (insert_entry name_cmp es k v))
    ≡ insert (from_entries (map entry_of es)) (list_of k) v
inserted es k v = same_map nat_list_cmp_total (slice_cmp-IsAntisymmetric nat_cmp-IsAntisymmetric) _ _ (λ q.
    get-from_entries nat_list_cmp_total _ q
    ∙ ap (find (slice_cmp nat_cmp) q) (put_name es k v)
    ∙ find-put (slice_cmp nat_cmp) nat_list_cmp_total q (list_of k) v (map entry_of es)
    ∙ sym (get-insert nat_list_cmp_total (from_entries (map entry_of es)) (list_of k) v q ∙ ap (cond _ (Some v)) (get-from_entries nat_list_cmp_total (map entry_of es) q)))
