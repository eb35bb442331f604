-- How many bytes of a part pass a test: by lanes, and one by one.
use Rattle.std.proofs.Common.{◌≡◌, ℕ, ◌+◌, ◌-◌, ◌*◌, ◌%◌, ◌^◌, ◌<◌, ◌≤◌, eqb, Bool, true, false, cond, bit_and, List, [], ◌∷◌, ◌++◌, map, length, take, drop, get_or, refl, sym, ap, ap₂, ◌∙◌, arith, drop-drop, take-append-drop, take-take, length-take, length-take-le, take-add}
use Rattle.std.proofs.lemmas.Bool.{agree_below_at}
use Rattle.std.proofs.lemmas.List.{take-map, length-map, drop_more}
use Rattle.std.proofs.lemmas.List.Sums.{sum_by-append, sum_by-cons, count_by-le-length}
use Rattle.std.proofs.lemmas.Nat.{and_mask, one_shl}
use Rattle.std.proofs.lemmas.Simd.{length-chunk, ones-mask_l, mask_l-lt}
use Rattle.std.proofs.Math.Nat.{add-mul-mod_self_left, mod-eq_of_lt, mul_assoc}
use native.Mathlib.Nat.{two-pow-succ}
use Rattle.std.specs.List.{count_by, slice_range}
use Rattle.std.specs.Int.RustNames.{count_ones}
use lib.Lanes.{chunk, mask_l}
use mir.Val.{bool_byte}
use Rattle.yaml_scan_runs.specs.Runs.{is_continuing}

module _ (test : ℕ → Bool) (text : List ℕ) (from at : ℕ) (low : from ≤ at) where
  -- a part, and that many bytes after it
  pub count_then : (n : ℕ)
      → count_by test (slice_range text from at) + count_by test (chunk at n text)
      ≡ count_by test (slice_range text from (at + n))
  count_then n =
      let there : from + (at - from) ≡ at = omega arith in
      let size : at - from + n ≡ at + n - from = omega arith in
      let rest = drop from text in
      sym (
      ap (λ k. count_by test (take k rest)) (sym size) ∙ ap (count_by test) (take-add (at - from) n rest)
      ∙ sum_by-append (λ x. cond (test x) 1 0) (take (at - from) rest) (take n (drop (at - from) rest))
      ∙ ap (λ l. count_by test (slice_range text from at) + count_by test (take n l)) (drop-drop (at - from) from text ∙ ap (λ k. drop k text) there)
      )

  -- no more than there are bytes
  pub count_few : count_by test (slice_range text from at) ≤ at - from
  count_few = omega (arith, count_by-le-length test (slice_range text from at), length-take (at - from) (drop from text))

  -- lanes that are counted
  pub count_look : (found : ℕ) → found ≡ mask_l (map test (chunk at 16 text))
      → count_by test (slice_range text from at) + count_ones found
      ≡ count_by test (slice_range text from (at + 16))
  count_look found is =
      ap (λ k. count_by test (slice_range text from at) + k) (ap count_ones is ∙ ones-mask_l test (chunk at 16 text)) ∙ count_then 16

mask_append : (xs ys : List Bool) → mask_l (xs ++ ys) ≡ mask_l xs + 2 ^ length xs * mask_l ys
mask_append [] ys = omega arith
mask_append (x ∷ xs) ys =
    omega (arith, mask_append xs ys, ap (λ n. n * mask_l ys) (two-pow-succ (length xs)), mul_assoc 2 (2 ^ length xs) (mask_l ys))

-- the lowest bits of a mask are that of the first lanes
mask_take : (n : ℕ) (ms : List Bool) → n ≤ length ms → mask_l ms % 2 ^ n ≡ mask_l (take n ms)
mask_take n ms few =
    let front = take n ms in
    let size : length front ≡ n = length-take-le n ms few in
    let parts = ap mask_l (sym (take-append-drop n ms)) ∙ mask_append front (drop n ms) in
    ap₂ (λ m k. m % 2 ^ k) parts (sym size) ∙ add-mul-mod_self_left (mask_l front) (2 ^ length front) (mask_l (drop n ms)) ∙ mod-eq_of_lt (mask_l-lt front)

-- of lanes the first n are counted
pub count_first : (test : ℕ → Bool) (text : List ℕ) (from at n found : ℕ) → from ≤ at
    → at + 16 ≤ length text → n < 16
    → found ≡ mask_l (map test (chunk at 16 text))
    → count_by test (slice_range text from at) + count_ones (bit_and found (1 * 2 ^ n % 2 ^ 64 - 1))
    ≡ count_by test (slice_range text from (at + n))
count_first test text from at n found low room few is =
    let lanes = chunk at 16 text in
    let long = length-chunk at 16 text room in
    let mask = ap (λ k. bit_and found (k - 1)) (one_shl n 64 (omega arith)) ∙ and_mask found n in
    let first = ap (λ m. m % 2 ^ n) is ∙ mask_take n (map test lanes) (omega (arith, length-map lanes test, long)) ∙ ap mask_l (take-map test n lanes) in
    let part : take n lanes ≡ chunk at n text = take-take n 16 (drop at text) (omega arith) in
    ap (λ k. count_by test (slice_range text from at) + k)
    (ap count_ones (mask ∙ first) ∙ ones-mask_l test (take n lanes) ∙ ap (count_by test) part)
    ∙ count_then test text from at low n

worth : (b : Bool) → cond b 1 0 + 0 ≡ bool_byte b
worth true = refl
worth false = refl

one : (test : ℕ → Bool) (x : ℕ) → count_by test (x ∷ []) ≡ bool_byte (test x)
one test x = sum_by-cons (λ y. cond (test y) 1 0) x [] ∙ worth (test x)

-- and one byte, as its bits say
pub count_byte : (text : List ℕ) (from at : ℕ) → from ≤ at → at < length text
    → get_or text at 0 < 256
    → count_by is_continuing (slice_range text from at) + bool_byte (eqb (bit_and (get_or text at 0) 192) 128) ≡ count_by is_continuing (slice_range text from (at + 1))
count_byte text from at low inside small =
    let byte = get_or text at 0 in
    let here = ap (take 1) (drop_more text at 0 inside) in
    ap (λ k. count_by is_continuing (slice_range text from at) + k)
    (ap bool_byte (agree_below_at (λ x. eqb (bit_and x 192) 128) is_continuing 256 byte refl small) ∙ sym (ap (count_by is_continuing) here ∙ one is_continuing byte))
    ∙ count_then is_continuing text from at low 1
