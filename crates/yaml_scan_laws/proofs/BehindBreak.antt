-- What is after LF is alike in the whole.
use Rattle.std.proofs.Common.{◌≡◌, ℕ, zero, suc, ◌+◌, ◌-◌, ◌<◌, ◌≤◌, true, false, List, ◌++◌, length, refl, sym, ap, ◌∙◌, inl, inr, arith}
use Rattle.yaml_scan_laws.proofs.Shared.{cases_lt, nat_tests, length_push, byte, ends_of, ends_break, line_at, column_at, mark_at, is_bom, column_end, Alike, EndsIn, moved_mark, ne_eqb}
use Rattle.yaml_scan_laws.proofs.Cutting.{byte_left, byte_right, behind_alike, bom_by, last_is, columns_by, lines_by, far_ends}

pub feed_long : (a : List ℕ) → EndsIn a 10 → 0 < length a
feed_long a (xs, is) = let long : length a ≡ length xs + 1 = ap length is ∙ length_push xs 10 in omega (arith, long)

pub feed_last : (a : List ℕ) (p : ℕ) → EndsIn a 10 → p + 1 ≡ length a → byte a p ≡ 10
feed_last a p (xs, is) e = last_is a xs p 10 is e

fed_end : (x y b c : ℕ) → b ≡ 10 → ends_of x y b c ≡ true
unfolding ends_of
fed_end x y b c h = rw h refl

first_end : (x y v c : ℕ) → y ≡ 10 → ends_of x y v c ≡ ends_of v v v c
unfolding ends_of
first_end x y v c h = grind (arith, nat_tests)

second_end : (x y v c : ℕ) → x ≡ 10 → ends_of x y v c ≡ ends_of y y v c
unfolding ends_of
second_end x y v c h = grind (arith, nat_tests)

before_rest : (a b : List ℕ) (p : ℕ) → EndsIn a 10 → p + 1 ≡ length a → byte (a ++ b) p ≡ 10
before_rest a b p feed e = byte_left a b p (omega (arith, e)) ∙ feed_last a p feed e

-- breaks after LF end where they end in the whole
pub fed_ends : (a b : List ℕ) → EndsIn a 10 → (p : ℕ)
    → ends_break (a ++ b) (length a + p) ≡ ends_break b p
fed_ends a b feed zero =
    let long = feed_long a feed in
    let here : byte (a ++ b) (length a + 0) ≡ byte b 0 = byte_right a b 0 in
    let e : length a + 0 + 1 ≡ length a + (0 + 1) = omega arith in
    let next : byte (a ++ b) (length a + 0 + 1) ≡ byte b (0 + 1) = rw e (byte_right a b (0 + 1)) in
    let last : byte (a ++ b) (length a + 0 - 1) ≡ 10 = before_rest a b (length a + 0 - 1) feed (omega (arith, long)) in
    rw (here, next) (first_end (byte (a ++ b) (length a + 0 - 2)) (byte (a ++ b) (length a + 0 - 1)) (byte b 0) (byte b (0 + 1)) last)
fed_ends a b feed (suc zero) =
    let long = feed_long a feed in
    let here : byte (a ++ b) (length a + 1) ≡ byte b 1 = byte_right a b 1 in
    let e : length a + 1 + 1 ≡ length a + (1 + 1) = omega arith in
    let next : byte (a ++ b) (length a + 1 + 1) ≡ byte b (1 + 1) = rw e (byte_right a b (1 + 1)) in
    let f : length a + 1 - 1 ≡ length a + 0 = omega arith in
    let before : byte (a ++ b) (length a + 1 - 1) ≡ byte b 0 = rw f (byte_right a b 0) in
    let last : byte (a ++ b) (length a + 1 - 2) ≡ 10 = before_rest a b (length a + 1 - 2) feed (omega (arith, long)) in
    rw (here, next, before) (second_end (byte (a ++ b) (length a + 1 - 2)) (byte b 0) (byte b 1) (byte b (1 + 1)) last)
fed_ends a b feed (suc (suc p)) = far_ends a b p

-- what follows LF begins at column 0
pub fed_column : (a b : List ℕ) → EndsIn a 10 → column_at (a ++ b) (length a) ≡ 0
fed_column a b feed =
    let p = length a - 1 in
    let back : p + 1 ≡ length a = omega (arith, feed_long a feed) in
    let ended : ends_break (a ++ b) p ≡ true =
    fed_end (byte (a ++ b) (p - 2)) (byte (a ++ b) (p - 1)) (byte (a ++ b) p) (byte (a ++ b) (p + 1)) (before_rest a b p feed back) in
    rw (← back) (column_end (a ++ b) p ended)

pub fed_marks : (a b : List ℕ) → EndsIn a 10 → (q : ℕ)
    → mark_at (a ++ b) (length a + q) ≡ moved_mark (length a) (line_at (a ++ b) (length a)) (mark_at b q)
fed_marks a b feed q = grind (arith, nat_tests, columns_by, fed_column, fed_ends, lines_by)

-- what is after LF is so in the whole, except for U+FEFF
pub fed_alike : (a b : List ℕ) → EndsIn a 10 → is_bom b 0 ≡ false
    → Alike b (a ++ b) (length a) (suc (length b))
fed_alike a b feed none = behind_alike a b (fed_column a b feed) (fed_ends a b feed) (bom_by a b (let off = ne_eqb (length a + 0) 0 (omega (arith, feed_long a feed)) in rw (off, none) refl))

-- ---- before LF

front_ends : (a b : List ℕ) → EndsIn a 10 → (p : ℕ) → p < length a
    → ends_break (a ++ b) p ≡ ends_break a p
front_ends a b feed p l =
    elim (cases_lt (p + 1) (length a)) [
      | inl more ↦
          rw (byte_left a b p l, byte_left a b (p - 1) (omega (arith, l)), byte_left a b (p - 2) (omega (arith, l)), byte_left a b (p + 1) more) refl
      | inr past ↦
          let last = feed_last a p feed (omega (arith, l, past)) in
          let there : byte (a ++ b) p ≡ 10 = byte_left a b p l ∙ last in
          fed_end (byte (a ++ b) (p - 2)) (byte (a ++ b) (p - 1)) (byte (a ++ b) p) (byte (a ++ b) (p + 1)) there
          ∙ sym (fed_end (byte a (p - 2)) (byte a (p - 1)) (byte a p) (byte a (p + 1)) last)
    ]

-- lines and columns up to LF don't change with what follows it
pub front_line : (a b : List ℕ) → EndsIn a 10 → (p : ℕ) → p ≤ length a
    → line_at (a ++ b) p ≡ line_at a p
unfolding line_at
front_line a b feed zero l = refl
front_line a b feed (suc p) l = rw (front_ends a b feed p (omega (arith, l)), front_line a b feed p (omega (arith, l))) refl

front_column : (a b : List ℕ) → EndsIn a 10 → (p : ℕ) → p ≤ length a
    → column_at (a ++ b) p ≡ column_at a p
unfolding column_at
front_column a b feed zero l = refl
front_column a b feed (suc p) l =
    rw (front_ends a b feed p (omega (arith, l)), front_column a b feed p (omega (arith, l)), byte_left a b p (omega (arith, l))) refl

-- so do marks
pub front_mark : (a b : List ℕ) → EndsIn a 10 → (p : ℕ) → p ≤ length a
    → mark_at (a ++ b) p ≡ mark_at a p
front_mark a b feed p l = rw (front_line a b feed p l, front_column a b feed p l) refl
