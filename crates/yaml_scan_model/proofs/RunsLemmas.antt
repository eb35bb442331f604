-- Runs of bytes, a byte at a time.
use Rattle.std.proofs.Common.{if◌then◌else◌, ◌-◌, ◌≡◌, ◌≢◌, ℕ, zero, suc, ◌+◌, ◌<◌, ◌≤◌, ◌==◌, ◌||◌, nat_lt, Bool, true, false, not, List, length, refl, ◌∙◌, inl, inr, arith, rules}
use Rattle.std.proofs.lemmas.Bool.{cases_Bool}
use Rattle.std.proofs.lemmas.Bool.Decides.{nat_tests}
use Rattle.yaml_scan_types.specs.Marks.{byte, break_of, break_width, is_blank}
use Rattle.yaml_scan_model.specs.Runs.{past, is_text}
use Rattle.yaml_scan_model.proofs.MarksLemmas.{within, no_break}

-- A run goes on after a byte of its kind.
pub past_more : (kind : List ℕ → ℕ → Bool) (n : ℕ) (text : List ℕ) (p : ℕ) → kind text p ≡ true
    → past kind (suc n) text p ≡ past kind n text (p + 1)
unfolding past
past_more kind n text p h = rw h refl

-- A run stops at a byte that isn't of its kind.
pub past_stop : (kind : List ℕ → ℕ → Bool) (n : ℕ) (text : List ℕ) (p : ℕ) → kind text p ≡ false
    → past kind n text p ≡ p
unfolding past
past_stop kind n text p h = grind arith

-- a run that began at a goes on at p
pub record InRun (kind : List ℕ → ℕ → Bool) (text : List ℕ) (a p : ℕ) : Type 0 where
  pub after : a ≤ p
  pub rest : (n : ℕ) × (length text ≤ p + n) × (past kind (length text) text a ≡ past kind n text p)

-- A run begins where it begins.
pub run_start : (kind : List ℕ → ℕ → Bool) (text : List ℕ) (a : ℕ) → InRun kind text a a
run_start kind text a = record { after = omega arith; rest = (length text, omega arith, refl) }

step : (kind : List ℕ → ℕ → Bool) (text : List ℕ) (a p n : ℕ) → length text ≤ p + n
    → past kind (length text) text a ≡ past kind n text p → kind text p ≡ true → 0 < byte text p
    → (m : ℕ) × (length text ≤ p + 1 + m)
    × (past kind (length text) text a ≡ past kind m text (p + 1))
step kind text a p zero room same k some = let inside = within text p some in absurd (omega arith)
step kind text a p (suc n) room same k some = (n, omega arith, same ∙ past_more kind n text p k)

-- A run goes on over a byte that belongs.
pub run_more : (kind : List ℕ → ℕ → Bool) (text : List ℕ) (a p : ℕ) → InRun kind text a p
    → kind text p ≡ true → 0 < byte text p → InRun kind text a (p + 1)
run_more kind text a p h k some = search (rules, step)

-- A run ends at the first byte that doesn't belong.
pub run_done : (kind : List ℕ → ℕ → Bool) (text : List ℕ) (a p : ℕ) → InRun kind text a p
    → kind text p ≡ false → past kind (length text) text a ≡ p
run_done kind text a p h k = let (n, room, same) = h.rest in same ∙ past_stop kind n text p k

-- A run ends no earlier than it begins.
pub past-le : (kind : List ℕ → ℕ → Bool) (n : ℕ) (text : List ℕ) (p : ℕ) → p ≤ past kind n text p
unfolding past
past-le kind zero text p = omega arith
past-le kind (suc n) text p = elim (kind text p) as (λ b. p ≤ (if b then past kind n text (p + 1) else p)) [
  | true ↦ let le = past-le kind n text (p + 1) in omega arith
  | false ↦ omega arith
]

-- It ends inside the text.
pub past-inside : (kind : List ℕ → ℕ → Bool) (n : ℕ) (text : List ℕ) (p : ℕ)
    → ((q : ℕ) → kind text q ≡ true → 0 < byte text q) → p ≤ length text
    → past kind n text p ≤ length text
unfolding past
past-inside kind zero text p some l = l
past-inside kind (suc n) text p some l =
    elim (cases_Bool (kind text p)) [
      | inl e ↦ let here = within text p (some p e) in rw e (past-inside kind n text (p + 1) some (omega (arith, here)))
      | inr e ↦ rw e l
    ]

-- some byte of the kind is there
pub past_some : (kind : List ℕ → ℕ → Bool) (text : List ℕ) (p : ℕ) → kind text p ≡ true
    → 0 < byte text p → p < past kind (length text) text p
past_some kind text p k some =
    let inside = within text p some in
    let n : suc (length text - 1) ≡ length text = omega arith in
    let le = past-le kind (length text - 1) text (p + 1) in
    rw (← n, past_more kind (length text - 1) text p k) (omega arith)

parts : (b w : ℕ) → not (b == 0 || nat_lt 0 w) ≡ true → (0 < b) × (w ≡ 0)
parts b w h = (grind (arith, nat_tests), grind (arith, nat_tests))

-- A byte of a line's text is no end and no break.
pub text_parts : (text : List ℕ) (p : ℕ) → is_text text p ≡ true
    → (0 < byte text p) × (break_width text p ≡ 0)
text_parts text p h = parts _ _ h

blank_bounds : (b : ℕ) → is_blank b ≡ true → (0 < b) × (b ≢ 13) × (b ≢ 10) × (b < 100)
blank_bounds b h = (grind (arith, nat_tests), grind (arith, nat_tests), grind (arith, nat_tests), grind (arith, nat_tests))

-- A blank is a byte, and begins no break.
pub blank_parts : (b c d : ℕ) → is_blank b ≡ true → (0 < b) × (break_of b c d ≡ 0)
blank_parts b c d h = search (rules, blank_bounds, no_break)

-- A space is a byte, no break, and found as itself.
pub space_parts : (b c d : ℕ) → b ≡ 32 → (0 < b) × (break_of b c d ≡ 0) × ((b == 32) ≡ true)
space_parts b c d h = (omega arith, no_break b c d (omega arith) (omega arith) (omega arith) (omega arith), rw h refl)

-- A byte that isn't 32 isn't found as a space.
pub no_space : (b : ℕ) → b ≢ 32 → (b == 32) ≡ false
no_space b h = grind (arith, nat_tests)
