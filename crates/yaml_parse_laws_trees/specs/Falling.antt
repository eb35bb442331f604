-- How the numbers fall that go with the events to come.
use Rattle.std.specs.Prelude.{ℕ, ◌≤◌, List, [], ◌∷◌}
use Rattle.yaml_parse_laws_trees.specs.parse_grammar.Resolve.{Told}
use Rattle.yaml_parse_laws_trees.specs.parse_grammar.Remaining.{next_unasked}

-- as each event is given, no fewer tokens are left unasked for than as the next one is, or the fault after all
abbrev pub AreFalling : List Told → ℕ → Type 0
AreFalling [] behind = Unit {0}
AreFalling (g ∷ gs) behind = (next_unasked gs behind ≤ g.1) × AreFalling gs behind
