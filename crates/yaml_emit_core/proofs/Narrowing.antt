-- The search narrows the part whose prefixes agree with the tag.
use Rattle.std.proofs.Common.{◌≡◌, ℕ, ◌+◌, ◌<◌, ◌≤◌, List, [], ◌∷◌, length, take, get_or, map, Bool, true, false, refl, sym, ◌∙◌, ap, arith, subst, inl, inr, Option, None, Some, eq-eqb}
use Rattle.std.specs.Prelude.{zero, suc, Vec, nat_lt, nat_le, ◌==◌, cond, if◌then◌else◌}
use Rattle.std.specs.Global.{Global}
use Rattle.std.specs.declared.cmp.Ordering.{Ordering}
use Rattle.std.specs.declared.cmp.Ordering.TheVariants.{Less, Equal, Greater}
use Rattle.std.specs.Ordering.{nat_cmp, ordering_then, is_lt}
use Rattle.std.specs.Cmp.Lexicographic.{slice_cmp}
use Rattle.std.specs.Cmp.{IsTotalOrder}
use Rattle.std.specs.List.Sorted.{IsSorted}
use Rattle.std.proofs.lemmas.Bool.{cases_lt, cond_both, ltb-false, leb-true, leb-false, eqb-true}
use Rattle.std.proofs.lemmas.List.{take_all, length-map}
use Rattle.std.proofs.lemmas.Cmp.{then_total, on_total, nat_list_cmp_total, nat_cmp_total, tied_itself}
use Rattle.std.proofs.lemmas.List.Sorted.{sorted_far, ranks_by}
use Rattle.yaml_emit_layout.specs.Tags.{has_shorter_prefix}
use Rattle.yaml_emit_core.specs.Prefixes.{Entry, entry_of, at, entry_cmp, key, smaller, IsFirstShorter, IsFound, IsAtMost}
use Rattle.yaml_emit_core.proofs.Sorting.{at_of, Agree, begins, begun, begins_key, agree_more, key_behind, key_within}

-- ---- the order of two prefixes

first_not_less : (r s : Ordering) → is_lt (ordering_then r s) ≡ false → is_lt r ≡ false
first_not_less Less s e = e
first_not_less Equal s e = refl
first_not_less Greater s e = refl

no_less : (b c : Bool) → is_lt (cond b Less (cond c Equal Greater)) ≡ false → b ≡ false
no_less true c e = absurd (cc)
no_less false c e = refl

at_most : (m n : ℕ) → is_lt (nat_cmp n m) ≡ false → m ≤ n
at_most m n e = ltb-false n m (no_less (nat_lt n m) (n == m) e)

behind_tie : (o r : Ordering) → o ≡ Equal → is_lt (ordering_then o r) ≡ false → is_lt r ≡ false
behind_tie o r h e = subst (λ z. is_lt (ordering_then z r) ≡ false) h e

-- of two that agree in the first bytes, the later has no smaller key
key_rises : (d : ℕ) (a b : List ℕ) → is_lt (slice_cmp nat_cmp b a) ≡ false → d ≤ length a
    → d ≤ length b → take d a ≡ take d b → key a d ≤ key b d
unfolding key
key_rises d [] b e h k s = omega arith
key_rises zero (x ∷ a) [] e h k s = absurd (cc)
key_rises (suc d) (x ∷ a) [] e h k s = absurd (omega arith)
key_rises zero (x ∷ a) (y ∷ b) e h k s = let l : x ≤ y = at_most x y (first_not_less (nat_cmp y x) (slice_cmp nat_cmp b a) e) in omega arith
key_rises (suc d) (x ∷ a) (y ∷ b) e h k s = let same : (x ≡ y) × (take d a ≡ take d b) = (cc, cc) in key_rises d a b (behind_tie (nat_cmp y x) (slice_cmp nat_cmp b a) (ap (nat_cmp y) same.0 ∙ tied_itself nat_cmp_total y) e) (omega arith) (omega arith) same.1

-- ---- entries in order

order_total : IsTotalOrder entry_cmp
order_total = then_total (on_total (λ (x : Entry). x.0) nat_list_cmp_total) (on_total (λ (x : Entry). x.1) nat_cmp_total)

far : (xs : List Entry) (i j : ℕ) → IsSorted entry_cmp xs → i ≤ j → j < length xs
    → is_lt (entry_cmp (at xs j) (at xs i)) ≡ false
far xs i j s h k = sorted_far (λ x y. is_lt (entry_cmp x y)) (ranks_by order_total (λ (x : Entry). x)) xs s i j ([], 0) h k

-- ---- an edge of a part

abbrev pub Rises : (ℕ → ℕ) → ℕ → ℕ → Type 0
Rises f from to = (i j : ℕ) → from ≤ i → i ≤ j → j < to → f i ≤ f j

-- ---- the search

-- at a depth: the part agrees with the tag so far, and the longer prefixes of the tag are in it
pub record Searching (xs : List Entry) (tag : List ℕ) (from to depth : ℕ) (best : Option ℕ) : Type 0 where
  pub room : from ≤ to
  pub inside : to ≤ length xs
  pub agree : (k : ℕ) → from ≤ k → k < to → Agree depth (at xs k).0 tag
  pub others : (k : ℕ) → k < length xs → has_shorter_prefix (at xs k).0 tag ≡ true
      → depth ≤ length (at xs k).0 → (from ≤ k) × (k < to)
  pub first : IsFirstShorter xs tag depth best

-- the keys of the part rise
pub part_rises : (xs : List Entry) (tag : List ℕ) (from to depth : ℕ) (best : Option ℕ)
    → IsSorted entry_cmp xs → Searching xs tag from to depth best
    → Rises (λ k. key (at xs k).0 depth) from to
part_rises xs tag from to depth best s w i j a b c =
    let ai = w.agree i a (omega arith) in
    let aj = w.agree j (omega arith) c in
    let r : j < length xs = omega (arith, w.inside) in
    key_rises depth (at xs i).0 (at xs j).0 (first_not_less (slice_cmp nat_cmp (at xs j).0 (at xs i).0) (nat_cmp (at xs j).1 (at xs i).1) (far xs i j s b r)) ai.long aj.long (ai.same ∙ sym aj.same)

-- ---- the best so far

abbrev ended : Entry → ℕ → Option ℕ
ended x depth = if length x.0 == depth then Some x.1 else None

left_most : (a b : Option ℕ) (m : ℕ) → IsAtMost a m → IsAtMost (smaller a b) m
left_most None b m h = absurd h
left_most (Some x) None m h = h
left_most (Some x) (Some y) m h = cond_both (nat_le x y) x y (λ z. z ≤ m) (λ _. h) (λ e. omega (arith, h, leb-false x y e))

right_most : (a b : Option ℕ) (m : ℕ) → IsAtMost b m → IsAtMost (smaller a b) m
right_most None b m h = h
right_most (Some x) None m h = absurd h
right_most (Some x) (Some y) m h = cond_both (nat_le x y) x y (λ z. z ≤ m) (λ e. omega (arith, h, leb-true x y e)) (λ _. h)

found_smaller : (xs : List Entry) (tag : List ℕ) (a b : Option ℕ) → IsFound xs tag a
    → IsFound xs tag b → IsFound xs tag (smaller a b)
found_smaller xs tag None b f g = g
found_smaller xs tag (Some x) None f g = f
found_smaller xs tag (Some x) (Some y) f g = cond_both (nat_le x y) x y (λ z. IsFound xs tag (Some z)) (λ _. f) (λ _. g)

whole : (p t : List ℕ) (d : ℕ) → Agree d p t → length p ≤ d → take d t ≡ p
whole p t d a h = sym a.same ∙ take_all d p h

found_at : (xs : List Entry) (tag : List ℕ) (k depth : ℕ) → k < length xs
    → Agree depth (at xs k).0 tag → depth < length tag → IsFound xs tag (ended (at xs k) depth)
found_at xs tag k depth h a l =
    cond_both (length (at xs k).0 == depth) (Some (at xs k).1) None (IsFound xs tag)
    (λ e.
    let same : length (at xs k).0 ≡ depth = eqb-true (length (at xs k).0) depth e in
    (k, h, begun (at xs k).0 tag (omega arith) (ap (λ n. take n tag) same ∙ whole (at xs k).0 tag depth a (omega arith)), refl))
    (λ _. tt)

ended_at : (x : Entry) (depth : ℕ) → length x.0 ≡ depth → ended x depth ≡ Some x.1
ended_at x depth h = let e : (length x.0 == depth) ≡ true = eq-eqb (length x.0) depth h in rw e refl

-- no prefix of the part that ends here comes before the part's first
least_here : (xs : List Entry) (tag : List ℕ) (from to depth : ℕ) (best : Option ℕ)
    → IsSorted entry_cmp xs → Searching xs tag from to depth best → (k : ℕ) → from ≤ k → k < to
    → length (at xs k).0 ≤ depth
    → IsAtMost (ended (at xs from) depth) (at xs k).1
least_here xs tag from to depth best s w k a b h =
    let af = w.agree from (omega arith) (omega arith) in
    let ak = w.agree k a b in
    let rises : key (at xs from).0 depth ≤ key (at xs k).0 depth = part_rises xs tag from to depth best s w from k (omega arith) a b in
    let none : key (at xs k).0 depth ≡ 0 = key_behind (at xs k).0 depth h in
    let short : length (at xs from).0 ≤ depth = no_key (at xs from).0 depth (omega arith) in
    let same : (at xs from).0 ≡ (at xs k).0 = sym (whole (at xs from).0 tag depth af short) ∙ whole (at xs k).0 tag depth ak h in
    let r : k < length xs = omega (arith, w.inside) in
    let P : Option ℕ → Type 0 = λ o. IsAtMost o (at xs k).1 in
    subst P (sym (ended_at (at xs from) depth (omega (arith, af.long)))) (at_most (at xs from).1 (at xs k).1 (behind_tie (slice_cmp nat_cmp (at xs k).0 (at xs from).0) (nat_cmp (at xs k).1 (at xs from).1) (ap (slice_cmp nat_cmp (at xs k).0) same ∙ tied_itself nat_list_cmp_total (at xs k).0) (far xs from k s a r)))
  where
    no_key : (p : List ℕ) (d : ℕ) → key p d ≤ 0 → length p ≤ d
    no_key p d h = elim (cases_lt d (length p)) [ inl l ↦ (let e = key_within p d l in absurd (omega (arith, e))) | inr m ↦ m ]

pub better : (xs : List Entry) (tag : List ℕ) (from to depth : ℕ) (best : Option ℕ)
    → IsSorted entry_cmp xs → Searching xs tag from to depth best → from < to → depth < length tag
    → IsFirstShorter xs tag (depth + 1) (smaller best (ended (at xs from) depth))
better xs tag from to depth best s w h l = record {
  found = found_smaller xs tag best (ended (at xs from) depth) w.first.found (found_at xs tag from depth (omega (arith, w.inside)) (w.agree from (omega arith) h) l);
  least = λ k r e m. elim (cases_lt (length (at xs k).0) depth) [
    | inl before ↦ left_most best (ended (at xs from) depth) (at xs k).1 (w.first.least k r e before)
    | inr here ↦ (let o = w.others k r e here in right_most best (ended (at xs from) depth) (at xs k).1 (least_here xs tag from to depth best s w k o.0 o.1 (omega arith)))
  ];
}

-- ---- narrowing

pub narrowed : (xs : List Entry) (tag : List ℕ) (from to depth start end byte : ℕ)
    (best more : Option ℕ) → Searching xs tag from to depth best → depth < length tag
    → byte ≡ get_or tag depth 0 → IsFirstShorter xs tag (depth + 1) more
    → from ≤ start → start ≤ to
    → ((k : ℕ) → from ≤ k → k < start → key (at xs k).0 depth < byte + 1)
    → ((k : ℕ) → start ≤ k → k < to → byte + 1 ≤ key (at xs k).0 depth)
    → start ≤ end → end ≤ to → ((k : ℕ) → start ≤ k → k < end → key (at xs k).0 depth < byte + 2)
    → ((k : ℕ) → end ≤ k → k < to → byte + 2 ≤ key (at xs k).0 depth)
    → Searching xs tag start end (depth + 1) more
narrowed xs tag from to depth start end byte best more w l is f a b below above a2 b2 below2 above2 = record {
  room = a2;
  inside = omega (arith, w.inside);
  agree = λ k h m. agree_more depth byte (at xs k).0 tag (w.agree k (omega arith) (omega arith)) l is (above k h (omega arith)) (below2 k h m);
  others = λ k r e long.
      let o = w.others k r e (omega arith) in
      let is_next : key (at xs k).0 depth ≡ get_or tag depth 0 + 1 = begins_key depth (at xs k).0 tag (begins (at xs k).0 tag e) (omega arith) in
      elim (cases_lt k start) [
        | inl early ↦ (let no = below k o.0 early in absurd (omega (arith, no, is_next, is)))
        | inr fine ↦ elim (cases_lt k end) [
          | inl good ↦ (fine, good)
          | inr late ↦ (let no = above2 k late o.1 in absurd (omega (arith, no, is_next, is)))
        ]
      ];
  first = f;
}

-- ---- what the code holds

pub better_by : (es : List (Vec ℕ Global × ℕ)) (tag : List ℕ) (from to depth : ℕ)
    (best r more : Option ℕ) (e : Vec ℕ Global × ℕ) → IsSorted entry_cmp (map entry_of es)
    → Searching (map entry_of es) tag from to depth best → from < to → depth < length tag
    → e ≡ get_or es from e → r ≡ ended (entry_of e) depth → more ≡ smaller best r
    → IsFirstShorter (map entry_of es) tag (depth + 1) more
better_by es tag from to depth best r more e s w h l is re me =
    let n : length (map entry_of es) ≡ length es = length-map es entry_of in
    let there : at (map entry_of es) from ≡ entry_of e = at_of es from e (omega (arith, w.inside)) is in
    let P : Option ℕ → Type 0 = λ o. IsFirstShorter (map entry_of es) tag (depth + 1) o in
    subst P (ap (λ (x : Entry). smaller best (ended x depth)) there ∙ sym (ap (smaller best) re) ∙ sym me) (better (map entry_of es) tag from to depth best s w h l)
