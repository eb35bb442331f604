-- Runs by lanes, as the definitions pass them: a byte at a time.
use Rattle.std.proofs.Common.{◌≡◌, ◌≢◌, ℕ, zero, suc, ◌+◌, ◌-◌, ◌<◌, ◌≤◌, ◌==◌, Bool, true, false, List, [], length, refl, sym, inl, inr, arith}
use Rattle.std.proofs.lemmas.List.{get_or_past}
use Rattle.yaml_scan_runs.specs.Runs.{RunsTo, is_no_blank, is_no_space, is_stop}
use Rattle.yaml_scan_text.proofs.Words.{nat_tests, cases_lt, ne_eqb, byte, is_blank, past, is_blank_there, past_blanks, run_done, run_more, run_start, text_parts, within}
use Rattle.yaml_scan_model.specs.Runs.{is_space_there, is_text, passes, past_spaces}
use Rattle.yaml_scan_model.proofs.RunsLemmas.{InRun}
use Rattle.yaml_scan_model.proofs.PrintedLemmas.{passed_run}

run_over : (d : ℕ) (kind : List ℕ → ℕ → Bool) (text : List ℕ) (a p : ℕ) → InRun kind text a p
    → ((k : ℕ) → p ≤ k → k < p + d → (kind text k ≡ true) × (0 < byte text k)) → InRun kind text a (p + d)
run_over zero kind text a p run each = let z : p + 0 ≡ p = omega arith in rw z run
run_over (suc d) kind text a p run each =
    let e : p + suc d ≡ p + 1 + d = omega arith in
    let (kin, some) = each p (omega arith) (omega arith) in
    rw e (run_over d kind text a (p + 1) (run_more kind text a p run kin some) (λ k low high. each k (omega arith) (omega arith)))

-- bytes of a kind, and one after them that isn't of it
pub run_is : (kind : List ℕ → ℕ → Bool) (text : List ℕ) (p q : ℕ) → p ≤ q
    → ((k : ℕ) → p ≤ k → k < q → (kind text k ≡ true) × (0 < byte text k)) → kind text q ≡ false
    → q ≡ past kind (length text) text p
run_is kind text p q order each stop =
    let e : p + (q - p) ≡ q = omega arith in
    let run : InRun kind text p q = rw e at (run_over (q - p) kind text p p (run_start kind text p) (λ k low high. each k low (rw e at high))) in
    sym (run_done kind text p q run stop)

-- the byte where a run ends before the text does, or none
ended : (is_end : ℕ → Bool) (text : List ℕ) (p q : ℕ) → RunsTo is_end text p (length text) q
    → is_end 0 ≡ true → is_end (byte text q) ≡ true
ended is_end text p q run none = elim (cases_lt q (length text)) [
  | inl l ↦ run.stopped l
  | inr l ↦ let z : byte text q ≡ 0 = get_or_past text q 0 l in rw z none
]

space : (b : ℕ) → is_no_space b ≡ false → ((b == 32) ≡ true) × (0 < b)
space b h = (grind (arith, nat_tests), grind (arith, nat_tests))

other_space : (b : ℕ) → is_no_space b ≡ true → (b == 32) ≡ false
other_space b h = grind (arith, nat_tests)

pub spaces_run : (text : List ℕ) (p q : ℕ) → RunsTo is_no_space text p (length text) q
    → q ≡ past_spaces text p
spaces_run text p q run =
    run_is is_space_there text p q run.ordered (λ k low high. space (byte text k) (run.passed k low high))
    (other_space (byte text q) (ended is_no_space text p q run refl))

-- where there is no space
pub spaces_none : (text : List ℕ) (p : ℕ) → byte text p ≢ 32 → p ≡ past_spaces text p
spaces_none text p n = run_is is_space_there text p p (omega arith) (λ k low high. absurd (omega arith)) (ne_eqb (byte text p) 32 n)

blank : (b : ℕ) → is_no_blank b ≡ false → (is_blank b ≡ true) × (0 < b)
blank b h = (grind (arith, nat_tests), grind (arith, nat_tests))

other_blank : (b : ℕ) → is_no_blank b ≡ true → is_blank b ≡ false
other_blank b h = grind (arith, nat_tests)

pub blanks_run : (text : List ℕ) (p q : ℕ) → RunsTo is_no_blank text p (length text) q
    → q ≡ past_blanks text p
blanks_run text p q run =
    run_is is_blank_there text p q run.ordered (λ k low high. blank (byte text k) (run.passed k low high))
    (other_blank (byte text q) (ended is_no_blank text p q run refl))

-- where there is no blank
pub blanks_none : (text : List ℕ) (p : ℕ) → is_blank (byte text p) ≡ false → p ≡ past_blanks text p
blanks_none text p n = run_is is_blank_there text p p (omega arith) (λ k low high. absurd (omega arith)) n

text_byte : (b : ℕ) → is_stop [] b ≡ false → passes true b ≡ true
text_byte b h = grind (arith, nat_tests)

-- text that a run passed goes on with a line's
pub line_run : (text : List ℕ) (a p q : ℕ) → InRun is_text text a p
    → RunsTo (is_stop []) text p (length text) q → InRun is_text text a q
line_run text a p q before run =
    passed_run true text a p q before (record { forward = run.ordered; each = λ k low high. text_byte (byte text k) (run.passed k low high) })

pub line_more : (text : List ℕ) (a p q : ℕ) → InRun is_text text a p
    → RunsTo (is_stop []) text p (length text) q → is_text text q ≡ true
    → InRun is_text text a (q + 1) × (q < length text)
line_more text a p q before run h =
    let some = (text_parts text q h).0 in
    (run_more is_text text a q (line_run text a p q before run) h some, within text q some)

pub line_done : (text : List ℕ) (a p q : ℕ) → InRun is_text text a p
    → RunsTo (is_stop []) text p (length text) q → is_text text q ≡ false
    → q ≡ past is_text (length text) text a
line_done text a p q before run h = sym (run_done is_text text a q (line_run text a p q before run) h)
