-- Tests of a byte with a further test after them.
use Rattle.std.proofs.Common.{◌≡◌, ◌≢◌, ℕ, ◌==◌, ◌&&◌, ◌||◌, Bool, true, false, refl, arith}
use Rattle.std.proofs.lemmas.Bool.Decides.{nat_tests}

pub both_first : (b x : ℕ) (more : Bool) → b ≡ x → more ≡ (b == x && more)
both_first b x more h = let e : (b == x) ≡ true = grind (arith, nat_tests) in rw e refl

pub not_both : (b x : ℕ) (more : Bool) → b ≢ x → (b == x) ≡ (b == x && more)
not_both b x more h = let e : (b == x) ≡ false = grind (arith, nat_tests) in rw e refl

pub either_first : (b x : ℕ) (more : Bool) → b ≡ x → (b == x) ≡ (b == x || more)
either_first b x more h = let e : (b == x) ≡ true = grind (arith, nat_tests) in rw e refl

pub either_second : (b x : ℕ) (more : Bool) → b ≢ x → more ≡ (b == x || more)
either_second b x more h = let e : (b == x) ≡ false = grind (arith, nat_tests) in rw e refl
