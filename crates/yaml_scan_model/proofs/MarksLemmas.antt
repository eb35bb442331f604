-- Marks, a step at a time.
use Rattle.std.proofs.Common.{◌≡◌, ◌≢◌, ℕ, zero, suc, ◌+◌, ◌-◌, ◌<◌, ◌≤◌, true, false, List, length, refl, inl, inr, ◌⊎◌, arith, add-one, rules}
use Rattle.std.proofs.lemmas.Bool.{cases_Bool, cases_lt}
use Rattle.std.proofs.lemmas.Bool.Decides.{nat_tests}
use Rattle.std.proofs.lemmas.List.{get_or_past}
use Rattle.yaml_scan_types.specs.Marks.{byte, break_of, ends_of, splits_of, break_width, ends_break, splits_break, starts, line_at, column_at}

-- a byte with no break at it ends none
pub no_end : (x y b c d : ℕ) → splits_of x y b c ≡ false → break_of b c d ≡ 0
    → ends_of x y b c ≡ false
unfolding splits_of ends_of break_of
no_end x y b c d h k = grind (arith, nat_tests)

pub no_split : (x y b c d : ℕ) → splits_of x y b c ≡ false → break_of b c d ≡ 0
    → splits_of y b c d ≡ false
unfolding splits_of ends_of break_of
no_split x y b c d h k = grind (arith, nat_tests)

-- A byte that isn't 0 is within the text.
pub within : (text : List ℕ) (p : ℕ) → 0 < byte text p → p < length text
within text p h = search (rules, cases_lt, get_or_past)

-- A byte that ends no break keeps the line.
pub line_more : (text : List ℕ) (p : ℕ) → ends_break text p ≡ false
    → line_at text (p + 1) ≡ line_at text p
unfolding line_at
line_more text p h = rw (add-one, h) (omega arith)

-- The byte that ends a break is followed by a place in the next line.
pub line_end : (text : List ℕ) (p : ℕ) → ends_break text p ≡ true
    → line_at text (p + 1) ≡ line_at text p + 1
unfolding line_at
line_end text p h = rw (add-one, h) refl

-- A character moves the column on by one.
pub column_more : (text : List ℕ) (p : ℕ) → ends_break text p ≡ false → starts (byte text p) ≡ true
    → column_at text (p + 1) ≡ column_at text p + 1
unfolding column_at
column_more text p h k = rw (add-one, h, k) refl

-- A byte within a character keeps the column.
pub column_same : (text : List ℕ) (p : ℕ) → ends_break text p ≡ false → starts (byte text p) ≡ false
    → column_at text (p + 1) ≡ column_at text p
unfolding column_at
column_same text p h k = rw (add-one, h, k) (omega arith)

-- after a break the column is the first
pub column_end : (text : List ℕ) (p : ℕ) → ends_break text p ≡ true → column_at text (p + 1) ≡ 0
unfolding column_at
column_end text p h = rw (add-one, h) refl

-- No line's number is larger than its place.
pub line_at-le : (text : List ℕ) (p : ℕ) → line_at text p ≤ p
unfolding line_at
line_at-le text zero = omega arith
line_at-le text (suc p) =
    let before = line_at-le text p in
    search (rules, cases_Bool, before)

-- No column is larger than its place.
pub column_at-le : (text : List ℕ) (p : ℕ) → column_at text p ≤ p
unfolding column_at
column_at-le text zero = omega arith
column_at-le text (suc p) =
    let before = column_at-le text p in
    search (rules, cases_Bool, starts, before)

-- A byte that is no break ends none.
pub end_next : (text : List ℕ) (p : ℕ) → splits_break text p ≡ false → break_width text p ≡ 0
    → ends_break text p ≡ false
end_next text p h k = no_end _ _ _ _ _ h k

-- A byte that is no break doesn't part one.
pub split_next : (text : List ℕ) (p : ℕ) → splits_break text p ≡ false → break_width text p ≡ 0
    → splits_break text (p + 1) ≡ false
split_next text p h k = search (rules, no_split)

-- A break has one byte, two or three, where there is one.
pub widths : (b c d : ℕ)
    → (break_of b c d ≡ 0) ⊎ ((break_of b c d ≡ 1) ⊎ ((break_of b c d ≡ 2) ⊎ (break_of b c d ≡ 3)))
unfolding break_of
widths b c d = grind (arith, nat_tests)

pub one : (x y b c d : ℕ) → break_of b c d ≡ 1
    → (ends_of x y b c ≡ true) × (splits_of y b c d ≡ false) × (0 < b)
unfolding break_of ends_of splits_of
one x y b c d h = (grind (arith, nat_tests), grind (arith, nat_tests), grind (arith, nat_tests))

-- Of a break of two bytes the second one ends it.
pub two : (x y b c d e : ℕ) → break_of b c d ≡ 2
    → (ends_of x y b c ≡ false) × (ends_of y b c d ≡ true) × (splits_of b c d e ≡ false) × (0 < c)
unfolding break_of ends_of splits_of
two x y b c d e h = (grind (arith, nat_tests), grind (arith, nat_tests), grind (arith, nat_tests), grind (arith, nat_tests))

-- Of a break of three bytes the last one ends it, and none before.
pub three : (x y b c d e f : ℕ) → break_of b c d ≡ 3
    → (ends_of x y b c ≡ false) × (ends_of y b c d ≡ false) × (ends_of b c d e ≡ true)
    × (splits_of c d e f ≡ false) × (0 < d)
unfolding break_of ends_of splits_of
three x y b c d e f h = (grind (arith, nat_tests), grind (arith, nat_tests), grind (arith, nat_tests), grind (arith, nat_tests), grind (arith, nat_tests))

-- what a break leaves after it
pub record IsPast (text : List ℕ) (p q : ℕ) : Type 0 where
  pub inside : q ≤ length text
  pub line : line_at text q ≡ line_at text p + 1
  pub column : column_at text q ≡ 0
  pub whole : splits_break text q ≡ false

past_one : (text : List ℕ) (p : ℕ) → break_width text p ≡ 1 → IsPast text p (p + 1)
past_one text p h =
    let (e, s, l) = one (byte text (p - 2)) (byte text (p - 1)) (byte text p) (byte text (p + 1)) (byte text (p + 2)) h in
    let i : p + 1 - 1 ≡ p = omega arith in
    let j : p + 1 - 2 ≡ p - 1 = omega arith in
    let k : p + 1 + 1 ≡ p + 2 = omega arith in
    let room = within text p l in
    record { inside = omega arith; line = line_end text p e; column = column_end text p e; whole = rw (i, j, k) s }

past_two : (text : List ℕ) (p : ℕ) → break_width text p ≡ 2 → IsPast text p (p + 2)
past_two text p h =
    let (e, f, s, l) = two (byte text (p - 2)) (byte text (p - 1)) (byte text p) (byte text (p + 1)) (byte text (p + 2)) (byte text (p + 3)) h in
    let room = within text (p + 1) l in
    let i : p + 1 - 1 ≡ p = omega arith in
    let j : p + 1 - 2 ≡ p - 1 = omega arith in
    let k : p + 1 + 1 ≡ p + 2 = omega arith in
    let i2 : p + 2 - 1 ≡ p + 1 = omega arith in
    let j2 : p + 2 - 2 ≡ p = omega arith in
    let k2 : p + 2 + 1 ≡ p + 3 = omega arith in
    let f2 : ends_break text (p + 1) ≡ true = rw (i, j, k) f in
    let n = line_more text p e in
    let m = line_end text (p + 1) f2 in
    let o = column_end text (p + 1) f2 in
    record { inside = omega arith; line = rw (← k, m, n) refl; column = rw (← k) o; whole = rw (i2, j2, k2) s }

past_three : (text : List ℕ) (p : ℕ) → break_width text p ≡ 3 → IsPast text p (p + 3)
past_three text p h =
    let (e, f, g, s, l) = three (byte text (p - 2)) (byte text (p - 1)) (byte text p) (byte text (p + 1)) (byte text (p + 2)) (byte text (p + 3)) (byte text (p + 4)) h in
    let room = within text (p + 2) l in
    let i : p + 1 - 1 ≡ p = omega arith in
    let j : p + 1 - 2 ≡ p - 1 = omega arith in
    let k : p + 1 + 1 ≡ p + 2 = omega arith in
    let i2 : p + 2 - 1 ≡ p + 1 = omega arith in
    let j2 : p + 2 - 2 ≡ p = omega arith in
    let k2 : p + 2 + 1 ≡ p + 3 = omega arith in
    let i3 : p + 3 - 1 ≡ p + 2 = omega arith in
    let j3 : p + 3 - 2 ≡ p + 1 = omega arith in
    let k3 : p + 3 + 1 ≡ p + 4 = omega arith in
    let f2 : ends_break text (p + 1) ≡ false = rw (i, j, k) f in
    let g2 : ends_break text (p + 2) ≡ true = rw (i2, j2, k2) g in
    let n = line_more text p e in
    let o = line_more text (p + 1) f2 in
    let m = line_end text (p + 2) g2 in
    let o2 : line_at text (p + 2) ≡ line_at text (p + 1) = rw (← k) o in
    let m2 : line_at text (p + 3) ≡ line_at text (p + 2) + 1 = rw (← k2) m in
    let q = column_end text (p + 2) g2 in
    record { inside = omega arith; line = cc; column = rw (← k2) q; whole = rw (i3, j3, k3) s }

-- After a break a line starts.
pub past_break : (text : List ℕ) (p : ℕ) → 0 < break_width text p
    → IsPast text p (p + break_width text p)
past_break text p h =
    elim (widths (byte text p) (byte text (p + 1)) (byte text (p + 2))) [
      | inl z ↦ absurd (omega (arith, z))
      | inr (inl z) ↦ rw z (past_one text p z)
      | inr (inr (inl z)) ↦ rw z (past_two text p z)
      | inr (inr (inr z)) ↦ rw z (past_three text p z)
    ]

-- A text begins in line 0.
pub start_line : (text : List ℕ) → 0 ≡ line_at text 0
unfolding line_at
start_line text = refl

-- A text begins in column 0.
pub start_column : (text : List ℕ) → 0 ≡ column_at text 0
unfolding column_at
start_column text = refl

-- these bytes begin no break
pub no_break : (b c d : ℕ) → b ≢ 13 → b ≢ 10 → b ≢ 0xC2 → b ≢ 0xE2 → break_of b c d ≡ 0
unfolding break_of
no_break b c d h i j k = grind (arith, nat_tests)

-- No byte between these bounds begins a break.
pub no_break_between : (b low high c d : ℕ) → low ≤ b → b ≤ high → 13 < low → high < 0xC2
    → break_of b c d ≡ 0
no_break_between b low high c d h i j k = no_break b c d (omega arith) (omega arith) (omega arith) (omega arith)
