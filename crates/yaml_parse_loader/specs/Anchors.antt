-- The anchors of a document so far.
use Rattle.std.specs.Prelude.{ℤ}
use Rattle.std.specs.Ordering.{nat_cmp}
use Rattle.std.specs.Cmp.Lexicographic.{slice_cmp}
use Rattle.std.specs.FinMap.{FinMap}

-- by each anchor the number of the last node that has it
abbrev pub Anchors : Type 0
Anchors = FinMap (slice_cmp nat_cmp) ℤ
