-- The margins of open block levels.
use Rattle.std.proofs.Common.{◌≡◌, ◌∙◌, ℕ, suc, ◌+◌, ◌-◌, ◌<◌, ◌≤◌, true, false, inl, inr, List, [], ◌∷◌, ◌++◌, length, get_or, refl, sym, ap, subst, arith, length-append, append-nil}
use Rattle.yaml_scan_core.proofs.Words.{cases_lt, nat_tests, get_or_append_left, get_or_at, indent, opened, slice_index}
use Rattle.std.proofs.lemmas.List.{nil_from_length}
use Rattle.std.proofs.lemmas.List.Elements.{filter-append}
use Rattle.std.specs.Prelude.{nat_le, nat_lt}
use Rattle.yaml_scan_core.specs.Margins.{IsRising, left_of, AreLevels}
use Rattle.yaml_scan_core.specs.declared.levels.Levels.{Levels}

-- ---- lists of margins

indent_last : (x : ℕ) (xs : List ℕ) → get_or (x ∷ xs) (length xs) 0 ≡ indent (x ∷ xs)
unfolding indent
indent_last x [] = refl
indent_last x (y ∷ ys) = indent_last y ys

pub indent_snoc : (xs : List ℕ) (m : ℕ) → indent (xs ++ m ∷ []) ≡ m
unfolding indent
indent_snoc [] m = refl
indent_snoc (x ∷ []) m = refl
indent_snoc (x ∷ y ∷ xs) m = indent_snoc (y ∷ xs) m

indent_zero : (xs : List ℕ) → indent (0 ∷ xs) ≡ indent xs
unfolding indent
indent_zero [] = refl
indent_zero (x ∷ xs) = refl

-- all that is not right of a column is left
pub left_all : (c : ℕ) (xs : List ℕ) → ((k : ℕ) → k < length xs → slice_index xs k ≤ c)
    → left_of c xs ≡ xs
left_all c [] h = refl
left_all c (x ∷ xs) h =
    let first : x ≤ c = h 0 (omega arith) in
    let rest = left_all c xs (λ k lt. h (suc k) (omega arith)) in
    grind (arith, nat_tests)

-- each level is at most the innermost one
pub below_indent : (xs : List ℕ) (i : ℕ) → IsRising xs → i < length xs
    → slice_index xs i ≤ indent xs
below_indent [] i r lt = absurd (omega arith)
below_indent (x ∷ xs) i r lt = omega (arith, r i (length xs) (omega arith) (omega arith), indent_last x xs)

-- a level right of the indent is at the end
pub rising_more : (xs : List ℕ) (c : ℕ) → IsRising xs → indent xs < c → IsRising (xs ++ c ∷ [])
rising_more xs c r more = λ i j le lt.
    let len = length-append xs (c ∷ []) in
    let old = λ (k : ℕ). get_or_append_left xs (c ∷ []) 0 k in
    elim (cases_lt j (length xs)) [
      | inl low ↦ omega (arith, old i (omega arith), old j low, r i j le low)
      | inr high ↦
          let b : get_or (xs ++ c ∷ []) j 0 ≡ c = get_or_at xs c [] 0 j (omega (arith, len)) in
          elim (cases_lt i (length xs)) [
            | inl low ↦ omega (arith, old i low, below_indent xs i r low, b)
            | inr same ↦ let is : i ≡ j = omega arith in rw is (omega arith)
          ]
    ]

-- as are all but the last
pub rising_less : (xs : List ℕ) (c : ℕ) → IsRising (xs ++ c ∷ []) → IsRising xs
rising_less xs c r = λ i j le lt.
    let len = length-append xs (c ∷ []) in
    let old = λ (k : ℕ). get_or_append_left xs (c ∷ []) 0 k in
    omega (arith, old i (omega arith), old j lt, r i j le (omega (arith, len)))

-- ---- the code's

pub margin_is : (l : Levels) (ls : List ℕ) → AreLevels l ls → l.margin ≡ indent ls
margin_is l ls a = sym (indent_snoc l.outer.items l.margin) ∙ ap indent a.all ∙ indent_zero ls

pub count_is : (l : Levels) (ls : List ℕ) → AreLevels l ls → length l.outer.items ≡ length ls
count_is l ls a = omega (arith, ap (λ (xs : List ℕ). length xs) a.all, length-append l.outer.items (l.margin ∷ []))

-- levels that are left of others after a column, where that many were
pub record AreLeft (column n : ℕ) (l : Levels) (ls : List ℕ) : Type 0 where
  pub left : List ℕ
  pub are : AreLevels l left
  pub same : left_of column left ≡ left_of column ls
  pub count : n + length left ≡ length ls

-- after the last one the others are left
pop_list : (outer rest : List ℕ) (m top : ℕ) (ls : List ℕ) → outer ≡ rest ++ top ∷ []
    → outer ++ m ∷ [] ≡ 0 ∷ ls
    → (left : List ℕ) × (rest ++ top ∷ [] ≡ 0 ∷ left) × (ls ≡ left ++ m ∷ [])
pop_list [] rest m top ls is all = absurd (omega (arith, ap (λ (xs : List ℕ). length xs) is, length-append rest (top ∷ [])))
pop_list (x ∷ xs) rest m top ls is all =
    let first : x ≡ 0 = cc in
    let others : xs ++ m ∷ [] ≡ ls = cc in
    (xs, sym is ∙ ap (λ y. y ∷ xs) first, sym others)

left_less : (c m : ℕ) (xs : List ℕ) → c < m → left_of c (xs ++ m ∷ []) ≡ left_of c xs
left_less c m xs lt =
    let none : left_of c (m ∷ []) ≡ [] = grind (arith, nat_tests) in
    filter-append (λ x. nat_le x c) xs (m ∷ []) ∙ ap (λ (ys : List ℕ). left_of c xs ++ ys) none ∙ append-nil (left_of c xs)

-- where a margin is right of a column, there is a level
pub close_some : (column n : ℕ) (l : Levels) (ls : List ℕ) → AreLeft column n l ls
    → column < l.margin → length l.outer.items ≡ 0 → ⊥
close_some column n l ls a lt empty =
    let none = nil_from_length l.outer.items empty in
    let all : l.outer.items ++ l.margin ∷ [] ≡ 0 ∷ a.left = a.are.all in
    let bare : l.margin ∷ [] ≡ 0 ∷ a.left = rw none at all in
    let ends : l.margin ≡ 0 = cc in
    absurd (omega (arith, ends))

-- a level less
pub close_more : (column n : ℕ) (l t : Levels) (ls : List ℕ) → AreLeft column n l ls
    → column < l.margin → l.outer.items ≡ t.outer.items ++ t.margin ∷ []
    → AreLeft column (n + 1) t ls
close_more column n l t ls a lt is =
    let (left, all, split) = pop_list l.outer.items t.outer.items l.margin t.margin a.left is a.are.all in
    record {
      left = left;
      are = record { all = all; rising = rising_less left l.margin (rw split at a.are.rising) };
      same = sym (left_less column l.margin left lt) ∙ ap (λ (xs : List ℕ). left_of column xs) (sym split) ∙ a.same;
      count = omega (arith, a.count, ap (λ (xs : List ℕ). length xs) split, length-append left (l.margin ∷ []));
    }

-- where the innermost one isn't right of the column, all are left
pub close_all : (column n : ℕ) (l : Levels) (ls : List ℕ) → AreLeft column n l ls
    → l.margin ≤ column
    → AreLevels l (left_of column ls) × (n ≡ length ls - length (left_of column ls))
close_all column n l ls a le =
    let last = margin_is l a.left a.are in
    let most : (k : ℕ) → k < length a.left → slice_index a.left k ≤ column = λ k lt. omega (arith, below_indent a.left k a.are.rising lt, last) in
    let all : a.left ≡ left_of column ls = sym (left_all column a.left most) ∙ a.same in
    (subst (λ (xs : List ℕ). AreLevels l xs) all a.are, omega (arith, a.count, ap (λ (xs : List ℕ). length xs) all))

pub close_none : (column : ℕ) (l : Levels) (ls : List ℕ) → AreLevels l ls → AreLeft column 0 l ls
close_none column l ls a = record { left = ls; are = a; same = refl; count = omega arith }

pub open_none : (column : ℕ) (l : Levels) (ls : List ℕ) → AreLevels l ls → column < l.margin
    → AreLevels l (opened true (column + 1) ls) × (false ≡ nat_lt (indent ls) (column + 1))
open_none column l ls a lt =
    let no : nat_lt (indent ls) (column + 1) ≡ false = let same = margin_is l ls a in grind (arith, nat_tests) in
    (rw no a, sym no)

-- a level more, right of the innermost one
pub open_more : (column : ℕ) (l t : Levels) (ls : List ℕ) → AreLevels l ls → l.margin ≤ column
    → t.outer.items ≡ l.outer.items ++ l.margin ∷ [] → t.margin ≡ column + 1
    → AreLevels t (opened true (column + 1) ls) × (true ≡ nat_lt (indent ls) (column + 1))
open_more column l t ls a le is at =
    let same = margin_is l ls a in
    let yes : nat_lt (indent ls) (column + 1) ≡ true = grind (arith, nat_tests) in
    let all : t.outer.items ++ t.margin ∷ [] ≡ 0 ∷ (ls ++ (column + 1) ∷ []) = rw (is, a.all, at) refl in
    (rw yes record { all = all; rising = rising_more ls (column + 1) a.rising (omega (arith, same, le)) }, sym yes)
