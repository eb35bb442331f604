-- Names, each with its number.
use Rattle.std.specs.Prelude.{ℕ, List, ◌∷◌, Vec}
use Rattle.std.specs.Global.{Global}
use Rattle.std.specs.Ordering.{nat_cmp}
use Rattle.std.specs.Cmp.Lexicographic.{slice_cmp}
use Rattle.std.specs.FinMap.{FinMap}

-- by each name its number
abbrev pub Shapes : Type 0
Shapes = FinMap (slice_cmp nat_cmp) ℕ

-- a name as a list
abbrev pub list_of : ℕ × ℕ × Vec ℕ Global → List ℕ
list_of name = name.0 ∷ name.1 ∷ name.2.items
