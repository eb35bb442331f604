-- Settling: what the keys give is the earliest open candidate.
use Rattle.std.proofs.Common.{◌≡◌, ℕ, ◌+◌, ◌-◌, ◌≤◌, inl, inr, length, Option, Some, None, sym, ap, subst, ◌∙◌, arith}
use Rattle.yaml_scan_core.proofs.Words.{cases_Option, mark_at, candidate, fresh, reached, first_open, history, KeyStack, AreStale, fresh_key, key_at, number_in, stack_of, view_of}
use Rattle.yaml_scan_core.specs.declared.scanner.Scanner.{Scanner}
use Rattle.yaml_scan_core.specs.Scanning.{MaySettle, read_by}
use Rattle.yaml_scan_core.proofs.CandidatesLemmas.{outer_settles, passed_keys, settles, told_first}

pub stale_there : (s : Scanner) (at line n : ℕ) → MaySettle s at line n
    → AreStale s.text.now (stack_of s.keys) (mark_at s.text.now at)
stale_there s at line n m = elim m.keys [
  | inl (a, count) ↦ subst (λ q. AreStale s.text.now (stack_of s.keys) q) m.mark a.stale
  | inr (agrees, (some, stale)) ↦ subst (λ q. AreStale s.text.now (stack_of s.keys) q) m.mark stale
]

-- what the first key that isn't stale gives, or else how many lexemes there are
pub tells : (s : Scanner) (at line n : ℕ) (t : KeyStack) (r : Option ℕ) → MaySettle s at line n
    → t ≡ record (stack_of s.keys) { passed = t.passed } → t.passed ≤ length t.levels
    → AreStale s.text.now t (mark_at s.text.now at)
    → r ≡ number_in (fresh_key s.text.now (key_at t t.passed) (mark_at s.text.now at))
    → (r ≡ None → t.passed ≡ length t.levels)
    → told_first r (read_by s) ≡ first_open (history s.text.now n) (history s.text.now n)
tells s at line n t r m same few stale is last =
    let text = s.text.now in
    let h = history text n in
    let there : AreStale text t (reached h) = rw m.mark stale in
    let told : r ≡ number_in (fresh_key text (key_at t t.passed) (reached h)) = rw m.mark is in
    elim m.keys [
      | inl (a, count) ↦ rw count (settles text t n r (passed_keys _ text (stack_of s.keys) t h (reached h) a same few there) told last)
      | inr (agrees, (some, old)) ↦ elim (cases_Option (fresh (candidate 0 h) (reached h))) [
        | inl none ↦ absurd (some none)
        | inr (c, here) ↦
            let first : fresh_key text (key_at t 0) (reached h) ≡ view_of (fresh (candidate 0 h) (reached h)) = rw same agrees in
            outer_settles text t h r (read_by s) c first here there told
      ]
    ]

-- the number that is given is after what is dropped
pub told_late : (s : Scanner) (n m : ℕ) (r : Option ℕ) → r ≡ Some m
    → told_first r (read_by s) ≡ first_open (history s.text.now n) (history s.text.now n)
    → s.row.dropped + s.row.settled ≤ first_open (history s.text.now n) (history s.text.now n)
    → s.row.dropped ≤ m
told_late s n m r is told low =
    let same : m ≡ first_open (history s.text.now n) (history s.text.now n) = ap (λ x. told_first x (read_by s)) (sym is) ∙ told in
    omega (arith, same, low)

-- so much is settled, where a number is given
pub settled_some : (s : Scanner) (n m k : ℕ) (r : Option ℕ) → r ≡ Some m
    → told_first r (read_by s) ≡ first_open (history s.text.now n) (history s.text.now n)
    → s.row.dropped + s.row.settled ≤ first_open (history s.text.now n) (history s.text.now n)
    → k ≡ m - s.row.dropped
    → s.row.dropped + k ≡ first_open (history s.text.now n) (history s.text.now n)
settled_some s n m k r is told low at =
    let same : m ≡ first_open (history s.text.now n) (history s.text.now n) = ap (λ x. told_first x (read_by s)) (sym is) ∙ told in
    omega (arith, same, low, at)

-- and where none is
pub settled_none : (s : Scanner) (n k : ℕ) (r : Option ℕ) → r ≡ None
    → told_first r (read_by s) ≡ first_open (history s.text.now n) (history s.text.now n)
    → k ≡ length s.row.lexemes.items
    → s.row.dropped + k ≡ first_open (history s.text.now n) (history s.text.now n)
settled_none s n k r is told at =
    let same : read_by s ≡ first_open (history s.text.now n) (history s.text.now n) = ap (λ x. told_first x (read_by s)) (sym is) ∙ told in
    omega (arith, same, at)
