-- The numbers of a dump are apart.
use Rattle.std.proofs.Common.{◌≡◌, ◌≢◌, ◌<◌, ◌==◌, ℕ, zero, suc, Bool, true, false, List, [], ◌∷◌, length, get_or, Option, Some, None, refl, sym, ap, subst, ◌∙◌, inl, inr, arith, set, replicate}
use Rattle.yaml_emit_laws.proofs.DumpsWords.{cases_Bool, nat_tests, Turn, Again, place_at, Numbering, next_number, again_at, numbered_by, numbered, none_numbered, AreApart, MeetsAgain, NumbersAreApart, MetAgainAreNumbered}

-- ---- a list with one number set

set_same : (t : List ℕ) (k v d : ℕ) → k < length t → get_or (set t k v) k d ≡ v
set_same [] k v d h = absurd (omega arith)
set_same (x ∷ t) zero v d h = refl
set_same (x ∷ t) (suc k) v d h = set_same t k v d (omega (arith, h))

set_other : (t : List ℕ) (k j v d : ℕ) → j ≢ k → get_or (set t k v) j d ≡ get_or t j d
set_other [] k j v d h = refl
set_other (x ∷ t) zero zero v d h = absurd (h refl)
set_other (x ∷ t) zero (suc j) v d h = refl
set_other (x ∷ t) (suc k) zero v d h = refl
set_other (x ∷ t) (suc k) (suc j) v d h = set_other t k j v d (λ e. h (ap (λ n. suc n) e))

set_length : (t : List ℕ) (k v : ℕ) → length (set t k v) ≡ length t
set_length [] k v = refl
set_length (x ∷ t) zero v = refl
set_length (x ∷ t) (suc k) v = ap (λ n. suc n) (set_length t k v)

within : (t : List ℕ) (k : ℕ) → get_or t k 1 ≡ 0 → k < length t
within [] k h = absurd (omega (arith, h))
within (x ∷ t) zero h = omega arith
within (x ∷ t) (suc k) h = let w = within t k h in omega (arith, w)

-- ---- one number more

more_apart : (s : Numbering) (k : ℕ) → get_or s.table k 1 ≡ 0 → AreApart s
    → AreApart (record { given = suc s.given; table = set s.table k (suc s.given) })
more_apart s k free a = grind (arith, nat_tests, within, set_same, get_or, set_other)

abbrev next_by : Bool → Numbering → ℕ → Numbering
next_by true s k = record { given = suc s.given; table = set s.table k (suc s.given) }
next_by false s k = s

next_is : (s : Numbering) (k : ℕ) → next_number s k ≡ next_by (get_or s.table k 1 == 0) s k
next_is s k = elim (cases_Bool (get_or s.table k 1 == 0)) [ inl e ↦ rw e refl | inr e ↦ rw e refl ]

is_zero : (n : ℕ) → (n == 0) ≡ true → n ≡ 0
is_zero n h = grind (arith, nat_tests)

no_zero : (n : ℕ) → (n == 0) ≡ false → n ≡ 0 → ⊥
no_zero n h e = grind (arith, nat_tests)

next_apart_by : (b : Bool) (s : Numbering) (k : ℕ) → (get_or s.table k 1 == 0) ≡ b → AreApart s
    → AreApart (next_by b s k)
next_apart_by true s k h a = more_apart s k (is_zero (get_or s.table k 1) h) a
next_apart_by false s k h a = a

next_apart : (s : Numbering) (k : ℕ) → AreApart s → AreApart (next_number s k)
next_apart s k a = let P : Numbering → Type 0 = λ x. AreApart x in subst P (sym (next_is s k)) (next_apart_by (get_or s.table k 1 == 0) s k refl a)

again_apart : (o : Option ℕ) (s : Numbering) → AreApart s → AreApart (again_at o s)
again_apart None s a = a
again_apart (Some k) s a = next_apart s k a

turn_apart : (t : Turn) (s : Numbering) → AreApart s → AreApart (numbered_by t s)
turn_apart (Again id) s a = again_apart (place_at id) s a
turn_apart _ s a = a

turns_apart : (ts : List Turn) (s : Numbering) → AreApart s → AreApart (numbered s ts)
unfolding numbered
turns_apart [] s a = a
turns_apart (t ∷ ts) s a = turns_apart ts (numbered_by t s) (turn_apart t s a)

none_at : (n k x : ℕ) → get_or (replicate n x) k x ≡ x
none_at zero k x = refl
none_at (suc n) zero x = refl
none_at (suc n) (suc k) x = none_at n k x

pub apart_all : NumbersAreApart
apart_all count ts = turns_apart ts (none_numbered count) (record { bound = λ k. omega (arith, none_at count k 0); apart = λ j k e some. absurd (some (none_at count j 0)) })

-- ---- what has a number keeps it

abbrev Has : ℕ → Numbering → Type 0
Has k s = get_or s.table k 0 ≡ 0 → ⊥

default_same : (t : List ℕ) (k : ℕ) → k < length t → get_or t k 1 ≡ get_or t k 0
default_same [] k h = absurd (omega (arith, h))
default_same (x ∷ t) zero h = refl
default_same (x ∷ t) (suc k) h = default_same t k (omega (arith, h))

next_keeps_by : (b : Bool) (s : Numbering) (j k : ℕ) → (get_or s.table j 1 == 0) ≡ b → Has k s
    → Has k (next_by b s j)
next_keeps_by b s j k h has = grind (arith, nat_tests, set_same, within, is_zero, get_or, set_other)

next_keeps : (s : Numbering) (j k : ℕ) → Has k s → Has k (next_number s j)
next_keeps s j k has = let P : Numbering → Type 0 = λ x. Has k x in subst P (sym (next_is s j)) (next_keeps_by (get_or s.table j 1 == 0) s j k refl has)

next_has_by : (b : Bool) (s : Numbering) (k : ℕ) → (get_or s.table k 1 == 0) ≡ b
    → k < length s.table → Has k (next_by b s k)
next_has_by true s k h w = λ z. let own = set_same s.table k (suc s.given) 0 w in omega (arith, own, z)
next_has_by false s k h w = λ z. no_zero (get_or s.table k 1) h (default_same s.table k w ∙ z)

next_has : (s : Numbering) (k : ℕ) → k < length s.table → Has k (next_number s k)
next_has s k w = let P : Numbering → Type 0 = λ x. Has k x in subst P (sym (next_is s k)) (next_has_by (get_or s.table k 1 == 0) s k refl w)

again_keeps : (o : Option ℕ) (s : Numbering) (k : ℕ) → Has k s → Has k (again_at o s)
again_keeps None s k has = has
again_keeps (Some j) s k has = next_keeps s j k has

turn_keeps : (t : Turn) (s : Numbering) (k : ℕ) → Has k s → Has k (numbered_by t s)
turn_keeps (Again id) s k has = again_keeps (place_at id) s k has
turn_keeps _ s k has = has

turns_keep : (ts : List Turn) (s : Numbering) (k : ℕ) → Has k s → Has k (numbered s ts)
unfolding numbered
turns_keep [] s k has = has
turns_keep (t ∷ ts) s k has = turns_keep ts (numbered_by t s) k (turn_keeps t s k has)

next_length_by : (b : Bool) (s : Numbering) (k : ℕ) → length (next_by b s k).table ≡ length s.table
next_length_by true s k = set_length s.table k (suc s.given)
next_length_by false s k = refl

again_length : (o : Option ℕ) (s : Numbering) → length (again_at o s).table ≡ length s.table
again_length None s = refl
again_length (Some k) s = ap (λ (x : Numbering). length x.table) (next_is s k) ∙ next_length_by (get_or s.table k 1 == 0) s k

turn_length : (t : Turn) (s : Numbering) → length (numbered_by t s).table ≡ length s.table
turn_length (Again id) s = again_length (place_at id) s
turn_length _ s = refl

again_numbered : (ts : List Turn) (s : Numbering) (k : ℕ) → k < length s.table → MeetsAgain k ts
    → Has k (numbered s ts)
unfolding numbered
again_numbered [] s k w m = absurd m
again_numbered (t ∷ ts) s k w (inl e) = turns_keep ts (numbered_by t s) k (let P : Turn → Type 0 = λ x. Has k (numbered_by x s) in subst P (sym e) (next_has s k w))
again_numbered (t ∷ ts) s k w (inr m) = again_numbered ts (numbered_by t s) k (let l = turn_length t s in omega (arith, l, w)) m

none_length : (n : ℕ) → length (replicate {A = ℕ} n 0) ≡ n
none_length zero = refl
none_length (suc n) = ap (λ k. suc k) (none_length n)

pub again_all : MetAgainAreNumbered
again_all count ts k w m = again_numbered ts (none_numbered count) k (let l = none_length count in omega (arith, l, w)) m
