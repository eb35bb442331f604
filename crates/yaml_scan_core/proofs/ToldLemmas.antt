-- Marks of places, from one to the next, and the numbers that digits spell.
use mir.Val.{bool_byte}
use Rattle.std.proofs.Common.{◌≡◌, ◌≢◌, ◌∙◌, ℕ, zero, suc, ◌+◌, ◌-◌, ◌*◌, ◌^◌, ◌<◌, ◌≤◌, ◌⊎◌, Bool, true, false, cond, eqb, not, inl, inr, List, [], ◌∷◌, length, drop, refl, sym, ap, arith}
use Rattle.std.proofs.lemmas.List.{drop_more, drop_all}
use Rattle.yaml_scan_core.proofs.Words.{cases_Bool, cases_lt, nat_tests, byte, column_at, line_at, mark_at, starts, yaml_mark_t}
use Rattle.yaml_scan_model.specs.scan_types.Marks.{ends_break, ends_of}
use Rattle.yaml_scan_model.specs.Runs.{columns_over}
use Rattle.yaml_scan_model.proofs.MarksLemmas.{column_at-le, column_end, column_more, column_same, line_at-le, line_end, line_more, start_column, start_line}
use Rattle.yaml_scan_runs.specs.Runs.{IsNarrow, is_stop}
use Rattle.yaml_scan_core.specs.Shown.{number_of}
use Rattle.yaml_scan_core.specs.Told.{may_split, IsRun}
use Rattle.yaml_scan_core.proofs.SeatLemmas.{columns_all}

-- ---- a byte

-- both numbers of a mark are no larger than its place
pub mark_small : (text : List ℕ) (m : yaml_mark_t) → m ≡ mark_at text m.index
    → (m.line ≤ m.index) × (m.column ≤ m.index)
mark_small text m is =
    let l : m.line ≡ line_at text m.index = ap (λ (x : yaml_mark_t). x.line) is in
    let c : m.column ≡ column_at text m.index = ap (λ (x : yaml_mark_t). x.column) is in
    (omega (arith, l, line_at-le text m.index), omega (arith, c, column_at-le text m.index))

pub line_small : (text : List ℕ) (m : yaml_mark_t) (p : ℕ) → m ≡ mark_at text p → m.line ≤ p
line_small text m p is = omega (arith, line_at-le text p, ap (λ (x : yaml_mark_t). x.line) is)

-- what a test counts
pub bit_of : (b : Bool) → bool_byte b ≡ cond b 1 0
bit_of true = refl
bit_of false = refl

pub bit_small : (b : Bool) → bool_byte b ≤ 1
bit_small true = omega arith
bit_small false = omega arith

mark_with : (text : List ℕ) (p line column : ℕ) → line ≡ line_at text p → column ≡ column_at text p
    → record { index = p; line = line; column = column } ≡ mark_at text p
mark_with text p line column l c = rw (l, c) refl

pub mark_behind_end : (text : List ℕ) (m : yaml_mark_t) → m ≡ mark_at text m.index
    → ends_break text m.index ≡ true
    → record { index = m.index + 1; line = m.line + 1; column = 0 } ≡ mark_at text (m.index + 1)
mark_behind_end text m is e =
    let l : m.line ≡ line_at text m.index = ap (λ (x : yaml_mark_t). x.line) is in
    mark_with text (m.index + 1) (m.line + 1) 0 (omega (arith, l, line_end text m.index e)) (sym (column_end text m.index e))

column_on : (text : List ℕ) (p : ℕ) → ends_break text p ≡ false
    → column_at text (p + 1) ≡ column_at text p + cond (starts (byte text p)) 1 0
column_on text p e = elim (cases_Bool (starts (byte text p))) [
  | inl y ↦ rw y (column_more text p e y)
  | inr n ↦ rw n (omega (arith, column_same text p e n))
]

pub mark_behind : (text : List ℕ) (m : yaml_mark_t) (k : ℕ) → m ≡ mark_at text m.index
    → ends_break text m.index ≡ false → k ≡ cond (starts (byte text m.index)) 1 0
    → record { index = m.index + 1; line = m.line; column = m.column + k } ≡ mark_at text (m.index + 1)
mark_behind text m k is e first =
    let l : m.line ≡ line_at text m.index = ap (λ (x : yaml_mark_t). x.line) is in
    let c : m.column ≡ column_at text m.index = ap (λ (x : yaml_mark_t). x.column) is in
    mark_with text (m.index + 1) m.line (m.column + k) (omega (arith, l, line_more text m.index e)) (omega (arith, c, first, column_on text m.index e))

-- ---- the last byte of a break, by the byte

pub ends_feed : (x y b c : ℕ) → b ≡ 10 → true ≡ ends_of x y b c
unfolding ends_of
ends_feed x y b c e = rw e refl

pub ends_return : (x y b c r : ℕ) → b ≡ 13 → r ≡ c → not (eqb r 10) ≡ ends_of x y b c
unfolding ends_of
ends_return x y b c r e f = rw (e, f) refl

pub ends_next : (x y b c r : ℕ) → b ≡ 133 → r ≡ y → eqb r 194 ≡ ends_of x y b c
unfolding ends_of
ends_next x y b c r e f = rw (e, f) refl

pub ends_wide : (x y b c r : ℕ) → (b ≡ 168) ⊎ (b ≡ 169) → eqb y 128 ≡ true → r ≡ x
    → eqb r 226 ≡ ends_of x y b c
unfolding ends_of
ends_wide x y b c r (inl e) f g = rw (e, f, g) refl
ends_wide x y b c r (inr e) f g = rw (e, f, g) refl

pub ends_narrow : (x y b c r : ℕ) → (b ≡ 168) ⊎ (b ≡ 169) → r ≡ y → eqb r 128 ≡ false
    → eqb r 128 ≡ ends_of x y b c
unfolding ends_of
ends_narrow x y b c r (inl e) f g = rw (e, ← f, g) refl
ends_narrow x y b c r (inr e) f g = rw (e, ← f, g) refl

pub ends_other : (x y b c : ℕ) → b ≢ 10 → b ≢ 13 → b ≢ 133 → b ≢ 168 → b ≢ 169
    → false ≡ ends_of x y b c
unfolding ends_of
ends_other x y b c e f g h i = grind (arith, nat_tests)

-- ---- a run

-- such bytes end no break
abbrev EndsNone : List ℕ → ℕ → ℕ → Type 0
EndsNone text p q = (k : ℕ) → p ≤ k → k < q → ends_break text k ≡ false

lines_over : (d : ℕ) (text : List ℕ) (p : ℕ) → EndsNone text p (p + d)
    → line_at text (p + d) ≡ line_at text p
lines_over zero text p none = let z : p + 0 ≡ p = omega arith in rw z refl
lines_over (suc d) text p none =
    let next : p + suc d ≡ p + d + 1 = omega arith in
    rw next (line_more text (p + d) (none (p + d) (omega arith) (omega arith)) ∙ lines_over d text p (λ k low high. none k low (omega (arith, high))))

columns_are : (d : ℕ) (text : List ℕ) (p : ℕ) → EndsNone text p (p + d)
    → column_at text (p + d) ≡ column_at text p + columns_over d text p
unfolding columns_over
columns_are zero text p none = let z : p + 0 ≡ p = omega arith in rw z (omega arith)
columns_are (suc d) text p none =
    let next : p + suc d ≡ p + d + 1 = omega arith in
    let one = column_on text (p + d) (none (p + d) (omega arith) (omega arith)) in
    let before = columns_are d text p (λ k low high. none k low (omega (arith, high))) in
    rw next (omega (arith, one, before))

-- a byte that stops no run ends no break, where none goes on there
calm_byte : (x y b c : ℕ) → is_stop [] b ≡ false → y ≢ 0xC2 → (y ≢ 0x80) ⊎ (x ≢ 0xE2)
    → ends_of x y b c ≡ false
unfolding ends_of
calm_byte x y b c h i j = grind (arith, nat_tests)

not_split : (b : ℕ) → may_split b ≡ false → (b ≢ 0x80) × (b ≢ 0xC2) × (b ≢ 0xE2)
not_split b h = (grind (arith, nat_tests), grind (arith, nat_tests), grind (arith, nat_tests))

not_stop : (b : ℕ) → is_stop [] b ≡ false → (b ≢ 0xC2) × (b ≢ 0xE2)
not_stop b h = (grind (arith, nat_tests), grind (arith, nat_tests))

run_none : (text : List ℕ) (p q : ℕ) → may_split (byte text (p - 1)) ≡ false → IsRun text p q
    → EndsNone text p q
run_none text p q calm run k low high =
    let here = run k low high in
    let before = not_split (byte text (p - 1)) calm in
    elim (cases_lt p k) [
      | inr near ↦
          let same : k ≡ p = omega (arith, low, near) in
          rw same (calm_byte (byte text (p - 2)) (byte text (p - 1)) (byte text p) (byte text (p + 1)) (rw same at here) before.1 (inl before.0))
      | inl far ↦
          let last = not_stop (byte text (k - 1)) (run (k - 1) (omega (arith, far)) (omega (arith, high))) in
          elim (cases_lt (p + 1) k) [
            | inl more ↦
                let first = not_stop (byte text (k - 2)) (run (k - 2) (omega (arith, more)) (omega (arith, high))) in
                calm_byte (byte text (k - 2)) (byte text (k - 1)) (byte text k) (byte text (k + 1)) here last.0 (inr first.1)
            | inr one ↦
                let second : k - 2 ≡ p - 1 = omega (arith, one, far) in
                calm_byte (byte text (k - 2)) (byte text (k - 1)) (byte text k) (byte text (k + 1)) here last.0 (inr (rw second before.2))
          ]
    ]

-- the mark after bytes that end no break, of which that many begin a character
mark_on : (text : List ℕ) (m : yaml_mark_t) (q columns : ℕ) → m ≡ mark_at text m.index
    → m.index ≤ q → EndsNone text m.index q → columns ≡ columns_over (q - m.index) text m.index
    → record { index = q; line = m.line; column = m.column + columns } ≡ mark_at text q
mark_on text m q columns is order calm count =
    let l : m.line ≡ line_at text m.index = ap (λ (x : yaml_mark_t). x.line) is in
    let c : m.column ≡ column_at text m.index = ap (λ (x : yaml_mark_t). x.column) is in
    let d = q - m.index in
    let whole : m.index + d ≡ q = omega (arith, order) in
    let none : EndsNone text m.index (m.index + d) = λ k low high. calm k low (rw whole at high) in
    let lines : line_at text q ≡ line_at text m.index = rw whole at (lines_over d text m.index none) in
    let over : column_at text q ≡ column_at text m.index + columns_over d text m.index = rw whole at (columns_are d text m.index none) in
    mark_with text q m.line (m.column + columns) (l ∙ sym lines) (omega (arith, c, over, count))

-- the mark after a run, in which that many bytes continue characters
pub mark_over : (text : List ℕ) (m : yaml_mark_t) (q count : ℕ) → m ≡ mark_at text m.index
    → m.index ≤ q → may_split (byte text (m.index - 1)) ≡ false → IsRun text m.index q
    → count + columns_over (q - m.index) text m.index ≡ q - m.index
    → record { index = q; line = m.line; column = m.column + (q - m.index - count) } ≡ mark_at text q
mark_over text m q count is order calm run wide = mark_on text m q (q - m.index - count) is order (run_none text m.index q calm run) (omega (arith, wide))

-- a byte of ASCII that stops no run ends no break, and begins a character
narrow_byte : (x y b c : ℕ) → is_stop [] b ≡ false → b < 128 → ends_of x y b c ≡ false
unfolding ends_of
narrow_byte x y b c h n = grind (arith, nat_tests)

narrow_starts : (b : ℕ) → b < 128 → starts b ≡ true
narrow_starts b n = grind (arith, nat_tests)

-- the mark after a run of ASCII
pub mark_narrow : (text : List ℕ) (m : yaml_mark_t) (q : ℕ) → m ≡ mark_at text m.index
    → m.index ≤ q → IsRun text m.index q → IsNarrow text m.index q
    → record { index = q; line = m.line; column = m.column + (q - m.index) } ≡ mark_at text q
mark_narrow text m q is order run narrow =
    let d = q - m.index in
    let whole : m.index + d ≡ q = omega (arith, order) in
    let calm : EndsNone text m.index q = λ k low high. narrow_byte (byte text (k - 2)) (byte text (k - 1)) (byte text k) (byte text (k + 1)) (run k low high) (narrow k low high) in
    let all : columns_over d text m.index ≡ d = columns_all d text m.index (λ k low high. narrow_starts (byte text k) (narrow k low (rw whole at high))) in
    mark_on text m q d is order calm (sym all)

-- ---- a locator

pub located_start : (text : List ℕ)
    → record { index = 0; line = 0; column = 0 } ≡ mark_at text 0
located_start text = mark_with text 0 0 0 (start_line text) (start_column text)

-- ---- digits

-- more digits spell no smaller number
pub number_grows : (n : ℕ) (ds : List ℕ) → n ≤ number_of n ds
unfolding number_of
number_grows n [] = omega arith
number_grows n (d ∷ ds) = omega (arith, number_grows (n * 10 + (d - 48)) ds)

-- the number after one digit more
pub number_step : (ds : List ℕ) (at value : ℕ) → at < length ds
    → number_of value (drop at ds) ≡ number_of 0 ds → number_of 0 ds < 2 ^ 31
    → (number_of (value * 10 + (byte ds at - 48)) (drop (at + 1) ds) ≡ number_of 0 ds)
    × (value * 10 + (byte ds at - 48) < 2 ^ 31)
unfolding number_of
number_step ds at value inside same small =
    let next : number_of (value * 10 + (byte ds at - 48)) (drop (at + 1) ds) ≡ number_of 0 ds = ap (number_of value) (sym (drop_more ds at 0 inside)) ∙ same in
    (next, omega (arith, next, small, number_grows (value * 10 + (byte ds at - 48)) (drop (at + 1) ds)))

-- after all of them
pub number_all : (ds : List ℕ) (value at : ℕ) → length ds ≤ at
    → number_of value (drop at ds) ≡ number_of 0 ds → value ≡ number_of 0 ds
unfolding number_of
number_all ds value at end same = ap (number_of value) (sym (drop_all at ds end)) ∙ same
