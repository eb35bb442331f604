-- Breaks: what they read as, and where they end.
use Rattle.std.proofs.Common.{◌≡◌, ◌≢◌, ℕ, ◌+◌, ◌-◌, ◌<◌, ◌≤◌, ◌==◌, true, false, List, [], ◌∷◌, length, refl, sym, arith, rules}
use Rattle.std.proofs.lemmas.Bool.{cases_Bool, lt-ltb}
use Rattle.std.proofs.lemmas.Bool.Decides.{nat_tests}
use Rattle.yaml_scan_types.specs.Marks.{byte, ends_of, break_width, ends_break, is_blank}
use Rattle.yaml_scan_model.specs.Breaks.{break_value, feed_at}
use Rattle.yaml_scan_model.proofs.MarksLemmas.{widths, one, two, three}

-- A break of three bytes means itself.
pub value_three : (text : List ℕ) (p : ℕ) → break_width text p ≡ 3
    → break_value text p ≡ 0xE2 ∷ 0x80 ∷ byte text (p + 2) ∷ []
unfolding break_value
value_three text p w = rw w refl

-- A break that isn't of three bytes means a line feed.
pub value_other : (text : List ℕ) (p : ℕ) → break_width text p ≢ 3 → break_value text p ≡ 10 ∷ []
unfolding break_value
value_other text p w = let f : (break_width text p == 3) ≡ false = grind (arith, nat_tests) in rw f refl

-- Any other break reads as a line feed.
pub feed_other : (text : List ℕ) (p : ℕ) → 0 < break_width text p → break_width text p ≢ 3
    → 10 ∷ [] ≡ feed_at text p
feed_other text p w h = rw (value_other text p h, lt-ltb 0 (break_width text p) w) refl

-- What a break reads as within a value is its bytes, or a line feed.
pub feed_some : (text : List ℕ) (p : ℕ) → 0 < break_width text p
    → feed_at text p ≡ break_value text p
feed_some text p h = rw (lt-ltb 0 (break_width text p) h) refl

-- A break's value has a byte at least.
pub value_long : (text : List ℕ) (p : ℕ) → 0 < length (break_value text p)
unfolding break_value
value_long text p = search (rules, cases_Bool)

-- a blank ends no break
pub no_end-blank : (x y b c : ℕ) → is_blank b ≡ true → ends_of x y b c ≡ false
unfolding ends_of
no_end-blank x y b c h = grind (arith, nat_tests)

-- No blank ends a break.
pub end_not_blank : (x y b c : ℕ) → ends_of x y b c ≡ true → is_blank b ≡ false
unfolding ends_of
end_not_blank x y b c h = grind (arith, nat_tests)

-- the last byte of a break
pub record Last (text : List ℕ) (p q : ℕ) : Type 0 where
  pub byte_at : ℕ
  pub next : q ≡ byte_at + 1
  pub ends : ends_break text byte_at ≡ true
  pub after : p ≤ byte_at

last_one : (text : List ℕ) (p : ℕ) → break_width text p ≡ 1 → Last text p (p + 1)
last_one text p h =
    let (e, s, l) = one (byte text (p - 2)) (byte text (p - 1)) (byte text p) (byte text (p + 1)) (byte text (p + 2)) h in
    record { byte_at = p; next = refl; ends = e; after = omega arith }

last_two : (text : List ℕ) (p : ℕ) → break_width text p ≡ 2 → Last text p (p + 2)
last_two text p h =
    let (e, f, s, l) = two (byte text (p - 2)) (byte text (p - 1)) (byte text p) (byte text (p + 1)) (byte text (p + 2)) (byte text (p + 3)) h in
    let i : p + 1 - 1 ≡ p = omega arith in
    let j : p + 1 - 2 ≡ p - 1 = omega arith in
    let k : p + 1 + 1 ≡ p + 2 = omega arith in
    record { byte_at = p + 1; next = sym k; ends = rw (i, j, k) f; after = omega arith }

last_three : (text : List ℕ) (p : ℕ) → break_width text p ≡ 3 → Last text p (p + 3)
last_three text p h =
    let (e, f, g, s, l) = three (byte text (p - 2)) (byte text (p - 1)) (byte text p) (byte text (p + 1)) (byte text (p + 2)) (byte text (p + 3)) (byte text (p + 4)) h in
    let i : p + 2 - 1 ≡ p + 1 = omega arith in
    let j : p + 2 - 2 ≡ p = omega arith in
    let k : p + 2 + 1 ≡ p + 3 = omega arith in
    record { byte_at = p + 2; next = sym k; ends = rw (i, j, k) g; after = omega arith }

-- A break's end is its last byte.
pub last_of : (text : List ℕ) (p : ℕ) → 0 < break_width text p
    → Last text p (p + break_width text p)
last_of text p h = search (rules, last_one, last_three, last_two, widths)
