-- How many bytes an input has given.
use Rattle.std.specs.Prelude.{ℕ, ◌+◌, ◌-◌, ◌^◌, min, max}

-- n more; the count stops at 2^64 - 1
abbrev pub counted : ℕ → ℕ → ℕ
counted given n = max given (min (given + n) (2 ^ 64 - 1))
