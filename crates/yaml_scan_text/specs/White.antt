-- White, and documents' marks.
use Rattle.std.specs.Prelude.{ℕ, ◌+◌, ◌-◌, ◌<◌, ◌≤◌, ◌≡◌, Bool, true, false, ◌&&◌, ◌==◌, List}
use Rattle.yaml_scan_types.specs.Marks.{byte, is_blank, is_blank_or_end}

-- there are blanks from one place to another, and none that isn't before `least` is before the
-- first one
pub record IsTrimmed (text : List ℕ) (least end q : ℕ) : Type 0 where
  pub after : least ≤ q
  pub before : q ≤ end
  pub blanks : (k : ℕ) → q ≤ k → k < end → is_blank (byte text k) ≡ true
  pub last : least < q → is_blank (byte text (q - 1)) ≡ false

-- the byte is there three times before a blank, a break or the end
abbrev pub is_thrice : ℕ → List ℕ → ℕ → Bool
is_thrice b text p = ((byte text p == b && byte text (p + 1) == b) && byte text (p + 2) == b)
    && is_blank_or_end text (p + 3)
