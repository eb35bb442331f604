-- The numbers that were given.
use Rattle.std.specs.Prelude.{◌≡◌, ℕ, zero, suc, List, [], ◌∷◌}
use Rattle.yaml_emit_graph.specs.Graph.{Numbering}
use Rattle.yaml_emit_graph.specs.declared.numbers.Numbers.{Numbers}

abbrev pub numbering_of : Numbers → Numbering
numbering_of n = record { given = n.given; table = n.table.items }

-- how many numbers a table has
abbrev pub counted : List ℕ → ℕ
counted [] = 0
counted (zero ∷ ns) = counted ns
counted (suc n ∷ ns) = suc (counted ns)

-- as many were given as are in the table
pub record IsNumbering (s : Numbering) : Type 0 where
  pub counts : s.given ≡ counted s.table
