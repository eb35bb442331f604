-- Runs that were looked through, sixteen bytes together, or one by one.
use Rattle.std.proofs.Common.{◌≡◌, ℕ, suc, ◌+◌, ◌-◌, ◌*◌, ◌<◌, ◌≤◌, ◌⊎◌, Bool, true, false, not, bit_or, cond, min, List, [], ◌∷◌, map, length, get_or, sym, ap, ◌∙◌, arith, inl, inr}
use Rattle.std.proofs.lemmas.Bool.{cases_lt}
use Rattle.std.proofs.lemmas.Simd.{length-chunk, get_or-chunk, get_or-zip2, run_in_chunk_le, run_in_chunk_fails, run_in_chunk_stops, none_from_empty_mask, trailing_mask_l}
use Rattle.std.specs.List.{position_or_len}
use Rattle.std.proofs.lemmas.Nat.{le_or_l, le_or_r}
use lib.Lanes.{chunk, zip2, mask_l}
use lib.Count.{count_trailing_zeros}
use Rattle.yaml_scan_runs.specs.Runs.{RunsTo, IsNarrow}

-- no byte between the places passes the test
abbrev pub Passed : (ℕ → Bool) → List ℕ → ℕ → ℕ → Type 0
Passed test text from at = (k : ℕ) → from ≤ k → k < at → test (get_or text k 0) ≡ false

-- one part after the other
pub passed_then : (test : ℕ → Bool) (text : List ℕ) (from at next : ℕ) → Passed test text from at
    → Passed test text at next → Passed test text from next
passed_then test text from at next a b k low high = elim (cases_lt k at) [ inl early ↦ a k low early | inr late ↦ b k late high ]

-- it was looked through to that place, or to its end, and the run ends there
pub run_at : (test : ℕ → Bool) (text : List ℕ) (from to at : ℕ) → from ≤ at → from ≤ to
    → Passed test text from at
    → (at < to → test (get_or text at 0) ≡ true) → RunsTo test text from to (min at to)
run_at test text from to at low ordered passed stops = elim (cases_lt at to) [
  | inl inside ↦
      let is : min at to ≡ at = omega arith in
      rw is record { ordered = low; within = omega arith; passed = passed; stopped = stops }
  | inr past ↦
      let is : min at to ≡ to = omega arith in
      rw is record { ordered = ordered; within = omega arith; passed = λ k from_there below. passed k from_there (omega arith); stopped = λ no. absurd (omega arith) }
]

-- the run from a place that was reached, after what was looked through
pub run_behind : {test : ℕ → Bool} {text : List ℕ} {from at to end : ℕ} → from ≤ at
    → Passed test text from at → RunsTo test text at to end → RunsTo test text from to end
run_behind {test} {text} {from} {at} {to} {end} low passed run = record {
  ordered = omega (arith, run.ordered);
  within = run.within;
  passed = passed_then test text from at end passed run.passed;
  stopped = run.stopped;
}

set_first : (b : Bool) (mask before count : ℕ) → 0 < cond b 1 0 + 2 * mask
    → (0 < mask → before < count) → cond (not b) (1 + before) 0 < suc count
set_first true mask before count some rest = omega arith
set_first false mask before count some rest = omega (arith, rest (omega arith))

-- where a lane is set, fewer are before it than there are
set_within : (test : ℕ → Bool) (v : List ℕ) → 0 < mask_l (map test v)
    → position_or_len test v < length v
set_within test [] some = absurd (omega arith)
set_within test (x ∷ xs) some = set_first (test x) (mask_l (map test xs)) (position_or_len test xs) (length xs) some (set_within test xs)

-- a look of which that many lanes come first
pub look_is : (test : ℕ → Bool) (text : List ℕ) (at n : ℕ) → at + 16 ≤ length text
    → n ≡ position_or_len test (chunk at 16 text)
    → RunsTo test text at (at + 16) (at + n)
look_is test text at n room counted = record {
  ordered = omega arith;
  within = omega (arith, run_in_chunk_le test text at 16 n 0 room counted);
  passed = run_in_chunk_fails test text at 16 n 0 room counted;
  stopped = λ inside. run_in_chunk_stops test text at 16 n 0 room counted (omega arith);
}

-- a run that ends in a look, or after what is asked for
pub run_short : {test : ℕ → Bool} {text : List ℕ} {from at end : ℕ} (to : ℕ) → from ≤ to
    → (end < at) ⊎ ((at ≤ end) × (to ≤ end)) → RunsTo test text from at end
    → RunsTo test text from to (min end to)
run_short {test} {text} {from} {at} {end} to ordered ends run =
    run_at test text from to end run.ordered ordered run.passed
    λ inside. run.stopped (elim ends [ inl early ↦ early | inr past ↦ absurd (omega arith) ])

-- a look after what passed, by the mask of its lanes
module _ (test : ℕ → Bool) (text : List ℕ) (from at found : ℕ) (room : at + 16 ≤ length text) (low : from ≤ at)
    (passed : Passed test text from at) (is : found ≡ mask_l (map test (chunk at 16 text))) where
  pub looked_through : found ≡ 0 → Passed test text from (at + 16)
  looked_through none = passed_then test text from at (at + 16) passed (none_from_empty_mask test text at 16 0 room (sym is ∙ none))

  counted : 0 < found → count_trailing_zeros 64 found ≡ position_or_len test (chunk at 16 text)
  counted some =
      ap (count_trailing_zeros 64) is ∙ trailing_mask_l test 64 (chunk at 16 text) (omega (arith, length-chunk at 16 text room)) (omega (arith, is))

  pub looked_short : 0 < found → count_trailing_zeros 64 found < 16
  looked_short some = omega (arith, counted some, length-chunk at 16 text room, set_within test (chunk at 16 text) (omega (arith, is)))

  pub looked_ends : 0 < found → (to : ℕ) → from ≤ to
      → RunsTo test text from to (min (at + count_trailing_zeros 64 found) to)
  looked_ends some to ordered =
      let short = looked_short some in
      run_short to ordered (inl (omega (arith, short))) (run_behind low passed (look_is test text at _ room (counted some)))

  pub looked_last : 0 < found
      → RunsTo test text from (length text) (at + count_trailing_zeros 64 found)
  looked_last some =
      let here : min (at + count_trailing_zeros 64 found) (length text) ≡ at + count_trailing_zeros 64 found = omega (arith, looked_short some) in
      rw here at (looked_ends some (length text) (omega arith))

-- what was seen together, and sixteen bytes more
module _ (seen text : List ℕ) (from at : ℕ) (long : length seen ≡ 16) (room : at + 16 ≤ length text) where
  lane_is : (j : ℕ) → j < 16
      → get_or (zip2 bit_or seen (chunk at 16 text)) j 0
      ≡ bit_or (get_or seen j 0) (get_or text (at + j) 0)
  lane_is j low =
      get_or-zip2 bit_or seen (chunk at 16 text) j 0 0 0 (omega (arith, long)) (omega (arith, length-chunk at 16 text room))
      ∙ ap (bit_or (get_or seen j 0)) (get_or-chunk at 16 text j 0 low)

  pub narrow_more : (IsNarrow seen 0 16 → IsNarrow text from at)
      → IsNarrow (zip2 bit_or seen (chunk at 16 text)) 0 16 → IsNarrow text from (at + 16)
  narrow_more before all k low high = elim (cases_lt k at) [
    | inl early ↦ before (λ j zero_on below. omega (arith, all j zero_on below, lane_is j below, le_or_l (get_or seen j 0) (get_or text (at + j) 0))) k low early
    | inr late ↦
        let is : at + (k - at) ≡ k = omega arith in
        let there = ap (λ j. get_or text j 0) is in
        omega (arith, all (k - at) (omega arith) (omega arith), lane_is (k - at) (omega arith), there, le_or_r (get_or seen (k - at) 0) (get_or text (at + (k - at)) 0))
  ]

-- lanes that are narrow
pub narrow_look : (text : List ℕ) (at : ℕ) → IsNarrow (chunk at 16 text) 0 16
    → IsNarrow text at (at + 16)
narrow_look text at all k low high =
    let is : at + (k - at) ≡ k = omega arith in
    omega (arith, all (k - at) (omega arith) (omega arith), get_or-chunk at 16 text (k - at) 0 (omega arith), ap (λ j. get_or text j 0) is)
