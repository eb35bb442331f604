-- The margins of open block levels.
use Rattle.std.specs.Prelude.{ℕ, ◌≡◌, ◌≤◌, ◌<◌, ◌++◌, List, [], ◌∷◌, nat_le, filter, length, slice_index}
use Rattle.yaml_scan_core.specs.declared.levels.Levels.{Levels}

-- no margin is greater than a later one
abbrev pub IsRising : List ℕ → Type 0
IsRising xs = (i j : ℕ) → i ≤ j → j < length xs → slice_index xs i ≤ slice_index xs j

-- the levels of no greater margin
abbrev pub left_of : ℕ → List ℕ → List ℕ
left_of column levels = filter (λ x. nat_le x column) levels

-- 0 and the margins of those levels, the outermost first, are after one another
pub record AreLevels (l : Levels) (levels : List ℕ) : Type 0 where
  pub all : l.outer.items ++ l.margin ∷ [] ≡ 0 ∷ levels
  pub rising : IsRising levels
