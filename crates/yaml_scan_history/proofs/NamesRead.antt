-- Names that are written.
use Rattle.std.proofs.Common.{◌≡◌, ℕ, suc, ◌+◌, ◌<◌, ◌≤◌, ◌==◌, ◌||◌, true, false, List, [], ◌∷◌, length, Ok, refl, sym, ◌∙◌, arith, rules}
use Rattle.yaml_scan_history.proofs.Words.{false_from_ne_true, ne_eqb, no_break_between, true≢false, and_parts, nat_tests, Context, byte, is_blank, is_alpha_byte, is_digit_byte, belongs, run_within, run_end, anchor_at, may_end_name, HasAt, are_alphas, is_name_end, break_width}
use Rattle.yaml_scan_history.specs.declared.run.Run.TheVariants as runs
use Rattle.yaml_scan_history.proofs.WordsRunsLemmas.{alpha_range, belongs_inside, run_more, run_stop, run_within-le}
use Rattle.yaml_scan_history.proofs.HasLemmas.{Has, has, range_reads}

pub alpha_at : (text : List ℕ) (p b : ℕ) → byte text p ≡ b → is_alpha_byte b ≡ true
    → belongs runs.Alphas text p ≡ true
unfolding belongs
alpha_at text p b e h = rw e h

-- A byte that is no letter or digit isn't in a run of these.
pub no_alpha_at : (text : List ℕ) (p : ℕ) → is_alpha_byte (byte text p) ≡ false
    → belongs runs.Alphas text p ≡ false
unfolding belongs
no_alpha_at text p h = h

-- alphas that are written are a run, where no further one follows
pub alphas_run : (name : List ℕ) (n : ℕ) (text : List ℕ) (p : ℕ) → Has text p name
    → are_alphas name ≡ true → belongs runs.Alphas text (p + length name) ≡ false
    → length text ≤ p + n
    → run_within n runs.Alphas text p ≡ p + length name
alphas_run [] n text p h are stop room = search (rules, run_stop)
alphas_run (b ∷ bs) n text p (e, h) are stop room =
    let (front, back) = and_parts (is_alpha_byte b) (are_alphas bs) are in
    let end : p + suc (length bs) ≡ p + 1 + length bs = omega arith in
    let after : belongs runs.Alphas text (p + 1 + length bs) ≡ false = rw end at stop in
    let (m, more, same) = run_more n runs.Alphas text p (alpha_at text p b e front) room in
    rw end (same ∙ alphas_run bs m text (p + 1) h back after more)

alpha_ends_none : (text : List ℕ) (p : ℕ) → is_alpha_byte (byte text p) ≡ true
    → may_end_name text p ≡ false
unfolding may_end_name
alpha_ends_none text p h =
    let (low, high, angle) = alpha_range (byte text p) h in
    let none : break_width text p ≡ 0 = no_break_between _ 45 122 _ _ low high (omega arith) (omega arith) in
    let blank : (is_blank (byte text p) || byte text p == 0) ≡ false = grind (arith, nat_tests) in
    let end : is_name_end (byte text p) ≡ false = unfold is_alpha_byte is_digit_byte in grind (arith, nat_tests) in
    rw (blank, none, end) refl

pub anchor_is_read : (context : Context) (text : List ℕ) (p : ℕ) (name : List ℕ)
    → HasAt text (p + 1) name → 0 < length name → are_alphas name ≡ true
    → may_end_name text (p + 1 + length name) ≡ true
    → anchor_at context text p ≡ Ok (name, p + 1 + length name)
anchor_is_read context text p [] h some are stop = absurd (omega arith)
anchor_is_read context text p (b ∷ bs) h some are stop =
    let q = p + 1 in
    let all = has text q (b ∷ bs) h in
    let (front, back) = and_parts (is_alpha_byte b) (are_alphas bs) are in
    let here = belongs_inside runs.Alphas text q (alpha_at text q b all.0 front) in
    let none = false_from_ne_true _ (λ a. true≢false (sym stop ∙ alpha_ends_none text (q + length (b ∷ bs)) a)) in
    let run : run_end runs.Alphas text q ≡ q + length (b ∷ bs) = alphas_run (b ∷ bs) (length text) text q all are (no_alpha_at text _ none) (omega arith) in
    let inside = rw run at (run_within-le (length text) runs.Alphas text q (omega arith)) in
    let longer : (q == q + suc (length bs)) ≡ false = ne_eqb _ _ (omega arith) in
    rw (run, longer, stop, range_reads text q (b ∷ bs) all inside) refl
