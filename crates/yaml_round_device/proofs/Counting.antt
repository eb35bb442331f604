-- Counts that stop.
use Rattle.std.proofs.Common.{◌≡◌, ℕ, ◌+◌, ◌-◌, ◌^◌, min, max, arith}
use Rattle.yaml_round_device.specs.Counts.{counted}

none : (m g : ℕ) → g ≡ max g (min (g + 0) m)
none m g = omega arith

more : (m g a b : ℕ)
    → max (max g (min (g + a) m)) (min (max g (min (g + a) m) + b) m) ≡ max g (min (g + (a + b)) m)
more m g a b = omega arith

pub counted_none : (g : ℕ) → g ≡ counted g 0
counted_none g = none (2 ^ 64 - 1) g

pub counted_more : (g a b : ℕ) → counted (counted g a) b ≡ counted g (a + b)
counted_more g a b = more (2 ^ 64 - 1) g a b
