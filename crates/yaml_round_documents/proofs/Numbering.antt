-- Labels with their numbers.
use Rattle.std.proofs.Common.{◌≡◌, ℕ, suc, ◌+◌, ◌<◌, ◌≤◌, Bool, true, false, cond, List, [], ◌∷◌, ◌++◌, length, map, get_or, take, drop, Ok, refl, sym, ◌∙◌, ap, inl, inr, append_assoc, append-nil}
use Rattle.std.specs.Prelude.{◌==◌}
use Rattle.std.specs.FinMap as map
use Rattle.std.specs.FinMap.{get-empty}
use Rattle.std.specs.Ordering.{nat_cmp}
use Rattle.std.specs.Cmp.Lexicographic.{slice_cmp}
use Rattle.std.proofs.lemmas.Bool.{cases_eq, eq-eqb, ne_eqb}
use Rattle.std.proofs.lemmas.List.{map-append, take_more, drop_more, drop_all}
use Rattle.yaml_round_documents.specs.Shapes.{Shapes}
use Rattle.yaml_round_documents.proofs.Labels.{inserted_apart, inserted_has}
use Rattle.yaml_round_documents.specs.declared.matching.Numbered.{Numbered}
use Rattle.yaml_round_documents.specs.Matching.{Counts, counted, name_of, numbered, or_none, times}

-- one more comes last
pub times_push : (l : ℕ) (xs : List ℕ) (x : ℕ)
    → times l (xs ++ x ∷ []) ≡ cond (l == x) (suc (times l xs)) (times l xs)
times_push l [] x = refl
times_push l (y ∷ xs) x =
    elim (l == y) as (λ b. cond b (suc (times l (xs ++ x ∷ []))) (times l (xs ++ x ∷ []))
    ≡ cond (l == x) (suc (cond b (suc (times l xs)) (times l xs))) (cond b (suc (times l xs)) (times l xs))) [
      | false ↦ times_push l xs x
      | true ↦ ap suc (times_push l xs x) ∙ inward (l == x) (times l xs)
    ]
  where
    inward : (b : Bool) (n : ℕ) → suc (cond b (suc n) n) ≡ cond b (suc (suc n)) (suc n)
    inward true n = refl
    inward false n = refl

-- the first ones are numbered and counted
pub record NumberedTo (labels : List ℕ) (at : ℕ) (names : List Numbered) (counts : Shapes) : Type 0
  where
    pub told : map name_of names ++ numbered (take at labels) (drop at labels) ≡ numbered [] labels
    pub count : (l : ℕ) → counted counts l ≡ times l (take at labels)

none_numbered : (labels : List ℕ) → NumberedTo labels 0 [] map.empty
none_numbered labels = record {
  told = refl;
  count = λ l. ap or_none (get-empty (slice_cmp nat_cmp) (l ∷ 0 ∷ []));
}

one_apart : (l x : ℕ) → (l ≡ x → ⊥) → (l ∷ 0 ∷ [] ≡ x ∷ 0 ∷ []) → ⊥
one_apart l x ne e = ne (cc)

counted_more : (counts : Shapes) (xs : List ℕ) (x n l : ℕ)
    → ((m : ℕ) → counted counts m ≡ times m xs) → n ≡ counted counts x
    → counted (map.insert counts (x ∷ 0 ∷ []) (suc n)) l ≡ times l (xs ++ x ∷ [])
counted_more counts xs x n l h is =
    elim (cases_eq l x) [
      | inl e ↦ let new = map.insert counts (x ∷ 0 ∷ []) (suc n) in
          ap (λ z. counted new z) e ∙ ap or_none (inserted_has counts (x ∷ 0 ∷ []) (suc n))
          ∙ ap suc (is ∙ h x) ∙ sym (times_push x xs x ∙ ap (λ b. cond b (suc (times x xs)) (times x xs)) (eq-eqb x x refl))
          ∙ ap (λ z. times z (xs ++ x ∷ [])) (sym e)
      | inr ne ↦ ap or_none (inserted_apart counts (x ∷ 0 ∷ []) (l ∷ 0 ∷ []) (suc n) (one_apart l x ne)) ∙ h l
          ∙ sym (times_push l xs x ∙ ap (λ b. cond b (suc (times l xs)) (times l xs)) (ne_eqb l x ne))
    ]

numbered_next : (labels : List ℕ) (at : ℕ) (names : List Numbered) (counts new : Shapes) (n : ℕ)
    → NumberedTo labels at names counts → at < length labels
    → Counts counts (get_or labels at 0) (Ok n) new
    → NumberedTo labels (at + 1) (names ++ record { label = get_or labels at 0; number = n } ∷ []) new
numbered_next labels at names counts new n h w c =
    let x = get_or labels at 0 in
    let front = take at labels in
    let rest = drop (at + 1) labels in
    let taken : take (at + 1) labels ≡ front ++ x ∷ [] = take_more labels at 0 w in
    let left : drop at labels ≡ x ∷ rest = drop_more labels at 0 w in
    let is : n ≡ times x front = c.0 ∙ h.count x in
    record {
      told = ap (λ z. z ++ numbered (take (at + 1) labels) rest) (map-append name_of names (record { label = x; number = n } ∷ []))
          ∙ append_assoc (map name_of names) ((x ∷ n ∷ []) ∷ []) (numbered (take (at + 1) labels) rest)
          ∙ ap (λ z. map name_of names ++ ((x ∷ n ∷ []) ∷ numbered z rest)) taken
          ∙ ap (λ z. map name_of names ++ ((x ∷ z ∷ []) ∷ numbered (front ++ x ∷ []) rest)) is
          ∙ ap (λ z. map name_of names ++ numbered front z) (sym left)
          ∙ h.told;
      count = λ l. ap (λ z. counted z l) c.1 ∙ counted_more counts front x n l h.count c.0 ∙ ap (times l) (sym taken);
    }

pub all_numbered : (labels : List ℕ) (at : ℕ) (names : List Numbered) (counts : Shapes)
    → NumberedTo labels at names counts → length labels ≤ at
    → map name_of names ≡ numbered [] labels
all_numbered labels at names counts h w =
    sym (append-nil (map name_of names)) ∙ ap (λ z. map name_of names ++ numbered (take at labels) z) (sym (drop_all at labels w)) ∙ h.told

-- as many as there are labels
pub numbered_many : (before labels : List ℕ) → length (numbered before labels) ≡ length labels
numbered_many before [] = refl
numbered_many before (l ∷ labels) = ap suc (numbered_many (before ++ l ∷ []) labels)

-- the same, by equations
pub numbered_start : (labels : List ℕ) (names : List Numbered) (counts : Shapes) → names ≡ []
    → counts ≡ map.empty → NumberedTo labels 0 names counts
numbered_start labels names counts n c = rw (n, c) (none_numbered labels)

pub numbered_on : (labels : List ℕ) (at : ℕ) (names more : List Numbered) (counts new : Shapes)
    (n : ℕ) → NumberedTo labels at names counts → at < length labels
    → Counts counts (get_or labels at 0) (Ok n) new
    → more ≡ names ++ record { label = get_or labels at 0; number = n } ∷ []
    → NumberedTo labels (at + 1) more new
numbered_on labels at names more counts new n h w c e = rw e (numbered_next labels at names counts new n h w c)
