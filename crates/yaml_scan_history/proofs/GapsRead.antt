-- Gaps that are written.
use Rattle.std.proofs.Common.{◌≡◌, ◌≢◌, ℕ, zero, suc, ◌+◌, ◌≤◌, ◌==◌, ◌&&◌, ◌||◌, nat_lt, Bool, true, false, not, List, [], ◌∷◌, length, refl, ◌∙◌, inl, inr, ◌⊎◌, arith, rules}
use Rattle.yaml_scan_history.proofs.Words.{not-true, and_parts, nat_tests, byte, break_of, break_width, is_bom, gap_at, HasAt, are_gap, has_break, begins_lexeme}
pub use Rattle.yaml_scan_history.proofs.BetweenLemmas.{break_parts, no_bom, no_skip}
use Rattle.yaml_scan_history.proofs.BetweenLemmas.{space_here, break_here, feed_width, stays, gap_here}
use Rattle.yaml_scan_history.proofs.HasLemmas.{Has, has}

unequal : (b n : ℕ) → not (b == n) ≡ true → b ≢ n
unequal b n h = grind (arith, nat_tests)

-- what does not be where a lexeme begins
pub lexeme_parts : (b c : Bool) (d : ℕ)
    → (not (d == 32) && (not (d == 9) && (not (d == 35) && (not b && not c)))) ≡ true
    → (d ≢ 32) × (d ≢ 9) × (d ≢ 35) × (b ≡ false) × (c ≡ false)
lexeme_parts b c d h = search (rules, and_parts, not-true, unequal)

-- CR without LF is one byte
pub cr_width : (c d : ℕ) → c ≢ 10 → break_of 13 c d ≡ 1
unfolding break_of
cr_width c d h = let e : (c == 10) ≡ false = grind (arith, nat_tests) in rw e refl

crlf_width : (d : ℕ) → break_of 13 10 d ≡ 2
unfolding break_of
crlf_width d = refl

-- where no break begins there is no LF
pub some_width : (b c d : ℕ) → nat_lt 0 (break_of b c d) ≡ false → b ≢ 10
unfolding break_of
some_width b c d h = grind (arith, nat_tests)

-- a space, LF or CR
pub byte_cases : (b : ℕ) → (b == 32 || (b == 10 || b == 13)) ≡ true
    → (b ≡ 32) ⊎ ((b ≡ 10) ⊎ (b ≡ 13))
byte_cases b h = grind (arith, nat_tests)

-- a gap that begins with a break
with_width : (flow allowed : Bool) (text : List ℕ) (p w e : ℕ) (broke : Bool)
    → break_width text p ≡ suc w
    → gap_at flow (allowed || not flow) text (p + suc w) ≡ record { place = e; broke = broke }
    → gap_at flow allowed text p ≡ record { place = e; broke = true }
with_width flow allowed text p w e broke h rest = search (rules, break_here, gap_here)

-- gaps of at most k bytes are read
abbrev Reads : ℕ → Type 0
Reads k = (flow allowed : Bool) (text : List ℕ) (p : ℕ) (gap : List ℕ) → length gap ≤ k → Has text p gap → are_gap gap ≡ true → begins_lexeme text (p + length gap) ≡ true
    → gap_at flow allowed text p ≡ record { place = p + length gap; broke = has_break gap }

returns : (k : ℕ) → Reads k → (flow allowed : Bool) (text : List ℕ) (p : ℕ) (bs : List ℕ)
    → length bs ≤ k → byte text p ≡ 13 → Has text (p + 1) bs → are_gap bs ≡ true
    → begins_lexeme text (p + 1 + length bs) ≡ true
    → gap_at flow allowed text p ≡ record { place = p + 1 + length bs; broke = true }
returns k all flow allowed text p [] few e h are stop =
    let z : p + 1 + 0 ≡ p + 1 = omega arith in
    let (space, tab, hash, none, first) = lexeme_parts (nat_lt 0 (break_width text (p + 1))) (p + 1 == 0 && is_bom text (p + 1)) (byte text (p + 1)) (rw z at stop) in
    with_width flow allowed text p 0 _ false (rw e (cr_width _ _ (some_width _ _ _ none))) (all flow (allowed || not flow) text (p + 1) [] few h are stop)
returns k all flow allowed text p (c ∷ cs) few e (f, h) are stop =
    let (front, back) = and_parts (c == 32 || (c == 10 || c == 13)) (are_gap cs) are in
    let single : byte text (p + 1) ≢ 10 → gap_at flow allowed text p ≡ record { place = p + 1 + length (c ∷ cs); broke = true } = λ other.
    with_width flow allowed text p 0 _ (has_break (c ∷ cs)) (rw e (cr_width _ _ other)) (all flow (allowed || not flow) text (p + 1) (c ∷ cs) few (f, h) are stop) in
    elim (byte_cases c front) [
      | inl s ↦ single (omega (arith, f, s))
      | inr (inr s) ↦ single (omega (arith, f, s))
      | inr (inl s) ↦
          let two : p + 1 + 1 ≡ p + 2 = omega arith in
          let end : p + 1 + suc (length cs) ≡ p + 2 + length cs = omega arith in
          rw end (with_width flow allowed text p 1 _ (has_break cs) (rw (e, f, s) (crlf_width _)) (all flow (allowed || not flow) text (p + 2) cs (omega arith) (rw two at h) back (rw end at stop)))
    ]

reads : (k : ℕ) → Reads k
reads k flow allowed text p [] few h are stop =
    let z : p + 0 ≡ p = omega arith in
    let (space, tab, hash, none, first) = lexeme_parts (nat_lt 0 (break_width text p)) (p == 0 && is_bom text p) (byte text p) (rw z at stop) in
    rw z (rw (stays (flow || not allowed) text p space tab hash none first) at (gap_here flow allowed text p))
reads zero flow allowed text p (b ∷ bs) few h are stop = absurd (omega arith)
reads (suc k) flow allowed text p (b ∷ bs) few (e, h) are stop =
    let (front, back) = and_parts (b == 32 || (b == 10 || b == 13)) (are_gap bs) are in
    let end : p + suc (length bs) ≡ p + 1 + length bs = omega arith in
    let after : begins_lexeme text (p + 1 + length bs) ≡ true = rw end at stop in
    elim (byte_cases b front) [
      | inl s ↦ rw (s, end) (rw (space_here (flow || not allowed) text p (e ∙ s)) at (gap_here flow allowed text p) ∙ reads k flow allowed text (p + 1) bs (omega arith) h back after)
      | inr (inl s) ↦ rw (s, end) (with_width flow allowed text p 0 _ (has_break bs) (feed_width text p (e ∙ s)) (reads k flow (allowed || not flow) text (p + 1) bs (omega arith) h back after))
      | inr (inr s) ↦ rw (s, end) (returns k (reads k) flow allowed text p bs (omega arith) (e ∙ s) h back after)
    ]

pub gap_is_read : (flow allowed : Bool) (text : List ℕ) (p : ℕ) (gap : List ℕ) → HasAt text p gap
    → are_gap gap ≡ true → begins_lexeme text (p + length gap) ≡ true
    → gap_at flow allowed text p ≡ record { place = p + length gap; broke = has_break gap }
gap_is_read flow allowed text p gap h are stop = reads (length gap) flow allowed text p gap (omega arith) (has text p gap h) are stop
