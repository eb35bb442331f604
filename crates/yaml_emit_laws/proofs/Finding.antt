-- Names of numbers are apart, so that each node that has a number is found by its name.
use Rattle.std.proofs.Common.{◌≡◌, ◌<◌, ◌==◌, ℕ, zero, suc, ℤ, pos, Bool, true, false, List, ◌++◌, length, get_or, drop, Some, None, refl, sym, ap, ◌∙◌, inl, inr, arith, if◌then◌else◌, cond, codes}
use Rattle.std.specs.Cmp.Lexicographic.{bytes_decides, texts_ties}
use Rattle.std.specs.Str.Parse.{digits_value}
use Rattle.yaml_emit_laws.proofs.DumpsWords.{cases_Bool, cases_eq, nat_tests, Anchored, is_same, last_with, and_node, name_of, anchor_of, number_at, IsNumbered, before_at, NamesAreApart}
use Rattle.yaml_emit_graph.specs.Graph.{decimal_text}
use Rattle.yaml_emit_graph.proofs.Decimals.{told}

-- ---- names

-- after `id` come the digits of the number, zeros first
lead_value : (b c : Bool) (ds : List ℕ)
    → digits_value 10 (drop 2 ((if b then codes "id00" else if c then codes "id0" else codes "id")
    ++ ds)) ≡ digits_value 10 ds
lead_value true c ds = refl
lead_value false true ds = refl
lead_value false false ds = refl

named_value : (n : ℕ) → digits_value 10 (drop 2 (name_of n)) ≡ n
unfolding name_of
named_value n = lead_value (length (decimal_text n) == 1) (length (decimal_text n) == 2) (decimal_text n) ∙ told n

pub names_apart : NamesAreApart
names_apart m n e = sym (named_value m) ∙ ap (λ (bs : List ℕ). digits_value 10 (drop 2 bs)) e ∙ named_value n

-- ---- what is found

same_name : (a : List ℕ) → is_same a a ≡ true
same_name a = sym (texts_ties a a) ∙ (bytes_decides a a).1 refl

other_name : (a b : List ℕ) → (a ≡ b → ⊥) → is_same a b ≡ false
other_name a b h =
    elim (cases_Bool (is_same a b)) [
      | inl e ↦ absurd (h ((bytes_decides a b).0 (texts_ties a b ∙ e)))
      | inr e ↦ e
    ]

no_zero : (n : ℕ) → (n ≡ 0 → ⊥) → (n == 0) ≡ false
no_zero n h = grind (arith, nat_tests)

-- a node with a number is found after itself
found_here : (number : ℕ) (id : ℤ) (before : Anchored) → (number ≡ 0 → ⊥)
    → last_with (name_of number) (and_node (anchor_of number) id before) ≡ Some id
found_here number id before h =
    ap (λ (b : Bool). last_with (name_of number) (and_node (if b then None else Some (name_of number)) id before)) (no_zero number h)
    ∙ ap (λ (b : Bool). cond b (Some id) (last_with (name_of number) before)) (same_name (name_of number))

-- another node doesn't hide it
by_test : (b : Bool) (name other : List ℕ) (id : ℤ) (before : Anchored) → is_same name other ≡ false
    → last_with name (and_node (if b then None else Some other) id before) ≡ last_with name before
by_test true name other id before h = refl
by_test false name other id before h = ap (λ (b : Bool). cond b (Some id) (last_with name before)) h

found_there : (number other : ℕ) (id : ℤ) (before : Anchored) → (number ≡ other → ⊥)
    → last_with (name_of number) (and_node (anchor_of other) id before)
    ≡ last_with (name_of number) before
found_there number other id before h =
    by_test (other == 0) (name_of number) (name_of other) id before (other_name (name_of number) (name_of other) (λ e. h (names_apart number other e)))

-- numbers that are apart are found
pub found : (table : List ℕ)
    → ((j k : ℕ) → get_or table j 0 ≡ get_or table k 0 → IsNumbered table j → j ≡ k)
    → (seen k : ℕ) → k < seen → IsNumbered table k
    → last_with (name_of (number_at table (pos (suc k)))) (before_at table seen)
    ≡ Some (pos (suc k))
unfolding before_at
found table apart zero k h some = absurd (omega (arith, h))
found table apart (suc j) k h some =
    elim (cases_eq k j) [
      | inl e ↦
          ap (λ (i : ℕ). last_with (name_of (get_or table k 0)) (and_node (anchor_of (get_or table i 0)) (pos (suc i)) (before_at table j))) (sym e)
          ∙ found_here (get_or table k 0) (pos (suc k)) (before_at table j) some
      | inr e ↦
          found_there (get_or table k 0) (get_or table j 0) (pos (suc j)) (before_at table j) (λ same. e (apart k j same some))
          ∙ found table apart j k (omega (arith, h, e)) some
    ]
