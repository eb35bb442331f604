-- Bytes at a place of a buffer.
use Rattle.std.specs.Prelude.{◌≡◌, ℕ, ◌+◌, Bool, true, false, List, [], ◌∷◌, ◌++◌, length, take}

-- new has xs after the first `at` bytes of old, up to `end`
pub record Placed (old new : List ℕ) (at : ℕ) (xs : List ℕ) (end : ℕ) : Type 0 where
  pub bytes : take end new ≡ take at old ++ xs
  pub moved : end ≡ at + length xs
  pub len : length new ≡ length old

-- a byte where it is due
abbrev pub due_byte : Bool → ℕ → List ℕ
due_byte true x = x ∷ []
due_byte false x = []
