-- The entries of an index, and the first directive by them.
use Rattle.std.proofs.Common.{◌≡◌, ℕ, ◌+◌, ◌<◌, ◌≤◌, List, [], ◌∷◌, ◌++◌, length, drop, get_or, map, Bool, true, false, refl, sym, ◌∙◌, ap, arith, subst, Option, None, Some, append-nil, append_assoc}
use Rattle.std.specs.Prelude.{zero, suc, Vec}
use Rattle.std.specs.Global.{Global}
use Rattle.std.specs.Ordering.{nat_cmp, ordering_then, is_lt}
use Rattle.std.specs.Cmp.Lexicographic.{slice_cmp}
use Rattle.std.specs.List.{All, Contains}
use Rattle.std.specs.List.Sorted.{IsPermutation, IsSorted}
use Rattle.std.proofs.lemmas.List.{get_or-map, get_or_default, drop_more, drop_all, map-append, length-map}
use Rattle.std.proofs.lemmas.List.Elements.{All-get_or, All-from_get_or}
use Rattle.std.proofs.lemmas.List.Sorted.{IsPermutation-map, All-permutation, Contains-permutation}
use Rattle.yaml_scan_model.specs.declared.record.yaml_tag_directive_t.{yaml_tag_directive_t}
use Rattle.yaml_parse_model.specs.Events.{TagDirective, directive_of}
use Rattle.yaml_emit_layout.specs.Tags.{has_shorter_prefix, directive_for}
use Rattle.yaml_emit_core.specs.Prefixes.{Entry, entry_of, at, entry_cmp, numbered, directive_at, IsIndex, IsFirstShorter, IsAtMost, IsNumber}
use Rattle.yaml_emit_core.proofs.Sorting.{Begins, begins}
use Rattle.yaml_emit_core.proofs.TableLemmas.{chosen}

-- ---- numbering

pub numbered_more : (es after : List (Vec ℕ Global × ℕ)) (ds : List yaml_tag_directive_t)
    (all : List Entry) (i : ℕ) (d : yaml_tag_directive_t) (v : Vec ℕ Global) → i < length ds
    → d ≡ get_or ds i d → v.items ≡ (get_or ds i d).prefix.items → after ≡ es ++ (v, i) ∷ []
    → map entry_of es ++ numbered i (map directive_of (drop i ds)) ≡ all
    → map entry_of after ++ numbered (i + 1) (map directive_of (drop (i + 1) ds)) ≡ all
unfolding numbered
numbered_more es after ds all i d v h is text more e =
    let rest : List Entry = numbered (i + 1) (map directive_of (drop (i + 1) ds)) in
    ap (λ (z : List (Vec ℕ Global × ℕ)). map entry_of z ++ rest) more
    ∙ ap (λ z. z ++ rest) (map-append entry_of es ((v, i) ∷ []))
    ∙ append_assoc (map entry_of es) ((v.items, i) ∷ []) rest
    ∙ ap (λ z. map entry_of es ++ (z, i) ∷ rest) text
    ∙ sym (ap (λ z. map entry_of es ++ numbered i (map directive_of z)) (drop_more ds i d h))
    ∙ e

pub numbered_all : (es : List (Vec ℕ Global × ℕ)) (ds : List yaml_tag_directive_t)
    (all : List Entry) (i : ℕ) → length ds ≤ i
    → map entry_of es ++ numbered i (map directive_of (drop i ds)) ≡ all → map entry_of es ≡ all
unfolding numbered
numbered_all es ds all i h e = sym (append-nil (map entry_of es)) ∙ sym (ap (λ z. map entry_of es ++ numbered i (map directive_of z)) (drop_all i ds h)) ∙ e

length_numbered : (n : ℕ) (ds : List TagDirective) → length (numbered n ds) ≡ length ds
unfolding numbered
length_numbered n [] = refl
length_numbered n (d ∷ ds) = ap suc (length_numbered (n + 1) ds)

numbered_at : (n : ℕ) (ds : List TagDirective) (j : ℕ) (e : Entry) → j < length ds
    → get_or (numbered n ds) j e ≡ ((directive_at ds j).prefix, n + j)
unfolding numbered
numbered_at n [] j e h = absurd (omega arith)
numbered_at n (d ∷ ds) zero e h = let k : n ≡ n + 0 = omega arith in ap (λ z. (d.prefix, z)) k
numbered_at n (d ∷ ds) (suc j) e h = let k : n + 1 + j ≡ n + suc j = omega arith in numbered_at (n + 1) ds j e (omega arith) ∙ ap (λ z. ((directive_at ds j).prefix, z)) k

numbered_first : (ds : List TagDirective) (j : ℕ) (e : Entry) → j < length ds
    → get_or (numbered 0 ds) j e ≡ ((directive_at ds j).prefix, j)
numbered_first ds j e h = let z : 0 + j ≡ j = omega arith in numbered_at 0 ds j e h ∙ ap (λ k. ((directive_at ds j).prefix, k)) z

-- ---- sorting

pub sorted_mapped : (es : List (Vec ℕ Global × ℕ))
    → IsSorted (λ (x y : Vec ℕ Global × ℕ). ordering_then (slice_cmp nat_cmp x.0.items y.0.items)
    (nat_cmp x.1 y.1)) es → IsSorted entry_cmp (map entry_of es)
sorted_mapped [] s k d low h = absurd (omega arith)
sorted_mapped (x ∷ es) s k d low h =
    let n : length (map entry_of (x ∷ es)) ≡ length (x ∷ es) = length-map (x ∷ es) entry_of in
    let k1 : k + 1 < length (x ∷ es) = omega arith in
    let k0 : k < length (x ∷ es) = omega arith in
    let P : Entry → Entry → Type 0 = λ a b. is_lt (entry_cmp a b) ≡ false in
    let Q : Entry → Type 0 = λ a. P a (get_or (map entry_of (x ∷ es)) k d) in
    let R : Entry → Type 0 = λ b. P (entry_of (get_or (x ∷ es) (k + 1) x)) b in
    subst Q (sym (get_or-map entry_of (x ∷ es) (k + 1) x d k1)) (subst R (sym (get_or-map entry_of (x ∷ es) k x d k0)) (s k x low k1))

pub index_made : (ds : List TagDirective) (before after : List (Vec ℕ Global × ℕ))
    → map entry_of before ≡ numbered 0 ds → IsPermutation before after
    → IsSorted (λ (x y : Vec ℕ Global × ℕ). ordering_then (slice_cmp nat_cmp x.0.items y.0.items)
    (nat_cmp x.1 y.1)) after → IsIndex ds (map entry_of after)
index_made ds before after e p s = record {
  all = let P : List Entry → Type 0 = λ z. IsPermutation z (map entry_of after) in subst P e (IsPermutation-map entry_of before after p);
  sorted = sorted_mapped after s;
}

-- ---- what the search has found, of the directives

Names : List TagDirective → Entry → Type 0
Names ds e = (e.1 < length ds) × ((directive_at ds e.1).prefix ≡ e.0)

names : (ds : List TagDirective) (xs : List Entry) → IsIndex ds xs → All (Names ds) xs
unfolding Names
names ds xs x = All-permutation (Names ds) (numbered 0 ds) xs x.all (All-from_get_or (Names ds) (numbered 0 ds) ([], 0) (λ j h.
    let l : j < length ds = omega (arith, length_numbered 0 ds) in
    let P : Entry → Type 0 = λ e. (e.1 < length ds) × ((directive_at ds e.1).prefix ≡ e.0) in
    subst P (sym (numbered_first ds j ([], 0) l)) (l, refl)))

has : (ds : List TagDirective) (xs : List Entry) (j : ℕ) → IsIndex ds xs → j < length ds
    → Contains xs ((directive_at ds j).prefix, j)
has ds xs j x h = Contains-permutation (numbered 0 ds) xs ((directive_at ds j).prefix, j) x.all (j, omega (arith, length_numbered 0 ds), numbered_first ds j ((directive_at ds j).prefix, j) h)

-- a directive that the tag can be written by isn't before the first
not_before : (ds : List TagDirective) (xs : List Entry) (tag : List ℕ) (best : Option ℕ) (j : ℕ)
    → IsIndex ds xs → IsFirstShorter xs tag (length tag) best → j < length ds
    → has_shorter_prefix (directive_at ds j).prefix tag ≡ true → IsAtMost best j
not_before ds xs tag best j x f h e =
    let c = has ds xs j x h in
    let is : at xs c.0 ≡ ((directive_at ds j).prefix, j) = sym (get_or_default xs c.0 ((directive_at ds j).prefix, j) ([], 0) c.1) ∙ c.2 in
    let e' : has_shorter_prefix (at xs c.0).0 tag ≡ true = ap (λ (z : Entry). has_shorter_prefix z.0 tag) is ∙ e in
    let b : Begins (at xs c.0).0 tag = begins (at xs c.0).0 tag e' in
    let P : ℕ → Type 0 = λ n. IsAtMost best n in
    subst P (ap (λ (z : Entry). z.1) is) (f.least c.0 c.1 e' b.shorter)

found_there : (ds : List TagDirective) (xs : List Entry) (tag : List ℕ) (n : ℕ) → IsIndex ds xs
    → IsFirstShorter xs tag (length tag) (Some n)
    → (n < length ds) × (has_shorter_prefix (directive_at ds n).prefix tag ≡ true)
unfolding Names
found_there ds xs tag n x f =
    let w = f.found in
    let m : Names ds (at xs w.0) = All-get_or (Names ds) xs w.0 ([], 0) w.1 (names ds xs x) in
    let P : ℕ → Type 0 = λ k. (k < length ds) × (has_shorter_prefix (directive_at ds k).prefix tag ≡ true) in
    subst P w.3 (m.0, ap (λ p. has_shorter_prefix p tag) m.1 ∙ w.2)

-- ---- the first directive

not_taken : (d : TagDirective) (ds : List TagDirective) (tag : List ℕ) (o : Option TagDirective)
    (b : Bool) → has_shorter_prefix d.prefix tag ≡ b → (has_shorter_prefix d.prefix tag ≡ true → ⊥)
    → directive_for ds tag ≡ o → directive_for (d ∷ ds) tag ≡ o
not_taken d ds tag o true e n k = absurd (n e)
not_taken d ds tag o false e n k = chosen d ds tag false e ∙ k

none_for : (ds : List TagDirective) (tag : List ℕ)
    → ((j : ℕ) → j < length ds → has_shorter_prefix (directive_at ds j).prefix tag ≡ true → ⊥)
    → directive_for ds tag ≡ None
unfolding directive_for
none_for [] tag h = refl
none_for (d ∷ ds) tag h = not_taken d ds tag None (has_shorter_prefix d.prefix tag) refl (h 0 (omega arith)) (none_for ds tag (λ j l. h (suc j) (omega arith)))

some_for : (ds : List TagDirective) (tag : List ℕ) (n : ℕ) → n < length ds
    → has_shorter_prefix (directive_at ds n).prefix tag ≡ true
    → ((j : ℕ) → j < length ds → has_shorter_prefix (directive_at ds j).prefix tag ≡ true → n ≤ j)
    → directive_for ds tag ≡ Some (directive_at ds n)
some_for [] tag n h e first = absurd (omega arith)
some_for (d ∷ ds) tag zero h e first = chosen d ds tag true e
some_for (d ∷ ds) tag (suc n) h e first =
    not_taken d ds tag (Some (directive_at ds n)) (has_shorter_prefix d.prefix tag) refl
    (λ f. let l : suc n ≤ 0 = first 0 (omega arith) f in absurd (omega arith))
    (some_for ds tag n (omega arith) e (λ j l k. let m : suc n ≤ suc j = first (suc j) (omega arith) k in omega arith))

pub number_by : (ds : List TagDirective) (xs : List Entry) (tag : List ℕ) (best : Option ℕ)
    → IsIndex ds xs → IsFirstShorter xs tag (length tag) best → IsNumber ds tag best
number_by ds xs tag None x f = none_for ds tag (λ j h e. not_before ds xs tag None j x f h e)
number_by ds xs tag (Some n) x f =
    let k = found_there ds xs tag n x f in
    let b : Begins (directive_at ds n).prefix tag = begins (directive_at ds n).prefix tag k.1 in
    (k.0, b.shorter, some_for ds tag n k.0 k.1 (λ j h e. not_before ds xs tag (Some n) j x f h e))
