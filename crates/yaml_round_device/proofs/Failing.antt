-- What is kept of a call's answer: whether the device has failed, whether it is finished, and that some of a piece was taken.
use Rattle.std.proofs.Common.{◌≡◌, ◌<◌, ℕ, Bool, true, false, ◌||◌, Result, Ok, Err, IfOk, MatchResult, is_ok, is_err, refl}

pub failed_by : {A E : Type 0} (r : Result A E) (before b : Bool) → b ≡ is_err r
    → MatchResult r (λ _. (before || b) ≡ before) (λ _. (before || b) ≡ true)
failed_by (Ok x) true b e = refl
failed_by (Ok x) false b e = e
failed_by (Err x) true b e = refl
failed_by (Err x) false b e = e

pub finished_by : {A E : Type 0} (r : Result A E) (b : Bool) → b ≡ is_ok r
    → MatchResult r (λ _. b ≡ true) (λ _. b ≡ false)
finished_by (Ok x) b e = e
finished_by (Err x) b e = e

pub some_by : {E : Type 0} (r : Result ℕ E) (n : ℕ) → IfOk r (λ k. true ≡ true → 0 < n → 0 < k)
    → IfOk r (λ k. 0 < n → 0 < k)
some_by (Ok k) n h = h refl
some_by (Err x) n h = tt
