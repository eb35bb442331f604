-- The gap with which a text begins, a step at a time.
use Rattle.std.proofs.Common.{◌≡◌, ◌≢◌, ℕ, ◌+◌, ◌<◌, ◌≤◌, ◌==◌, ◌&&◌, ◌||◌, nat_lt, Bool, true, false, List, length, refl, sym, ap, inl, inr, arith}
use Rattle.std.proofs.lemmas.Bool.{cases_lt, cond_both, ne_eqb}
use Rattle.std.proofs.lemmas.Bool.Decides.{nat_tests}
use Rattle.yaml_scan_model.specs.scan_types.Marks.{byte, break_width}
use Rattle.yaml_scan_model.specs.Runs.{line_end}
use Rattle.yaml_scan_model.specs.scan_types.Classes.{is_bom}
use Rattle.yaml_scan_model.proofs.MarksLemmas.{no_break, past_break}
use Rattle.yaml_scan_history.specs.Between.{step_at, is_skipped, gap_at, gap_behind, Gap, GapStep}
use Rattle.yaml_scan_history.specs.declared.between.GapSpot.{GapSpot}
use Rattle.yaml_scan_history.specs.declared.between.GapSpot.TheVariants as gap_spots
use Rattle.yaml_scan_history.proofs.BetweenLemmas.{gap_here, step_moves, no_bom, no_skip, stays}

-- a blank is passed
pub blank_step : (text : List ℕ) (p : ℕ) → (byte text p == 32 || byte text p == 9) ≡ true
    → (step_at true text p).place ≡ p + 1
unfolding step_at
blank_step text p h = rw (no_bom text p (grind (arith, nat_tests)), h) refl

-- a comment is passed
pub comment_step : (text : List ℕ) (p : ℕ) → byte text p ≡ 35
    → (step_at true text p).place ≡ line_end text p
unfolding step_at
comment_step text p h = rw (no_bom text p (omega arith), no_skip true (byte text p) (omega arith) (omega arith), h) refl

-- U+FEFF is passed where the text begins
pub mark_step : (text : List ℕ) (p : ℕ)
    → (p == 0 && (byte text p == 0xEF && (byte text (p + 1) == 0xBB && byte text (p + 2) == 0xBF)))
    ≡ true → (step_at true text p).place ≡ p + 3
unfolding step_at
mark_step text p h = rw h refl

-- elsewhere its first byte begins a lexeme
pub mark_stays : (text : List ℕ) (p : ℕ) → byte text p ≡ 0xEF
    → (p == 0 && (byte text p == 0xEF && (byte text (p + 1) == 0xBB && byte text (p + 2) == 0xBF)))
    ≡ false → (step_at true text p).place ≡ p
mark_stays text p h first =
    let none : break_width text p ≡ 0 = no_break (byte text p) _ _ (omega arith) (omega arith) (omega arith) (omega arith) in
    ap (λ (s : GapStep). s.place) (stays true text p (omega arith) (omega arith) (omega arith) (rw none refl) first)

-- a break is inside the text
pub width_inside : (text : List ℕ) (p : ℕ) → p ≤ length text → p + break_width text p ≤ length text
width_inside text p h =
    elim (cases_lt 0 (break_width text p)) [
      | inl some ↦ (past_break text p some).inside
      | inr none ↦ omega arith
    ]

-- a break is passed, and a lexeme isn't
pub other_step : (text : List ℕ) (p : ℕ) → byte text p ≢ 32 → byte text p ≢ 9 → byte text p ≢ 35
    → byte text p ≢ 0xEF → (step_at true text p).place ≡ p + break_width text p
unfolding step_at
other_step text p space tab hash mark =
    rw (no_bom text p mark, no_skip true (byte text p) space tab, ne_eqb (byte text p) 35 hash)
    (cond_both (nat_lt 0 (break_width text p)) _ _ (λ (s : GapStep). s.place ≡ p + break_width text p) (λ k. refl) (λ k. grind (arith, nat_tests)))

abbrev is_lexeme : GapSpot → Type 0
is_lexeme gap_spots.Blank = ⊥
is_lexeme gap_spots.Break = ⊥
is_lexeme gap_spots.Lexeme = Unit {0}

-- a lexeme is not passed
lexeme_stays : (text : List ℕ) (p : ℕ) → is_lexeme (step_at true text p).standing
    → (step_at true text p).place ≡ p
unfolding step_at
lexeme_stays text p =
    cond_both (p == 0 && is_bom text p) _ _ (λ (s : GapStep). is_lexeme s.standing → s.place ≡ p) (λ h k. absurd k) (λ h.
    cond_both (is_skipped true text p) _ _ (λ (s : GapStep). is_lexeme s.standing → s.place ≡ p) (λ i k. absurd k) (λ i.
    cond_both (byte text p == 35) _ _ (λ (s : GapStep). is_lexeme s.standing → s.place ≡ p) (λ j k. absurd k) (λ j.
    cond_both (nat_lt 0 (break_width text p)) _ _ (λ (s : GapStep). is_lexeme s.standing → s.place ≡ p) (λ l k. absurd k) (λ l k. refl))))

behind_place : (more : Bool → ℕ → Gap) (s : GapSpot) (q : ℕ)
    → (is_lexeme s → (more false q).place ≡ q)
    → (gap_behind more true false s q).place ≡ (more false q).place
behind_place more gap_spots.Blank q same = refl
behind_place more gap_spots.Break q same = refl
behind_place more gap_spots.Lexeme q same = sym (same tt)

-- where there is a lexeme the gap ends
pub gap_done : (text : List ℕ) (p : ℕ) → (step_at true text p).place ≤ p
    → (gap_at true false text p).place ≡ p
gap_done text p h =
    elim (step_moves true text p) [
      | inl e ↦ rw (gap_here true false text p, e) refl
      | inr (far, inside) ↦ absurd (omega arith)
    ]

-- a gap goes on after what is passed, inside the text
pub gap_on : (text : List ℕ) (p : ℕ) → p < (step_at true text p).place
    → ((gap_at true false text p).place
    ≡ (gap_at true false text (step_at true text p).place).place)
    × ((step_at true text p).place ≤ length text)
gap_on text p h =
    elim (step_moves true text p) [
      | inl e ↦ let same : (step_at true text p).place ≡ p = ap (λ (s : GapStep). s.place) e in absurd (omega arith)
      | inr (far, inside) ↦ (rw (gap_here true false text p) (behind_place (λ key q. gap_at true key text q) (step_at true text p).standing (step_at true text p).place (λ lexeme. let same : (step_at true text p).place ≡ p = lexeme_stays text p lexeme in absurd (omega arith))), inside)
    ]
