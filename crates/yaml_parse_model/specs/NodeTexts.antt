-- The texts of scalars' nodes.
use Rattle.std.specs.Prelude.{ℕ, List, take, ◌≤◌}
use Rattle.yaml_parse_model.specs.declared.node_text.Kept.{Kept}
use Rattle.yaml_parse_model.specs.declared.node_text.Kept.TheVariants as kept

-- the bytes of a text: of what lies in the node those that count
abbrev pub bytes_of : Kept → List ℕ
bytes_of (kept.Short count bytes) = take count bytes
bytes_of (kept.Long text) = text.items

-- no more count than there are
abbrev pub IsKept : Kept → Type 0
IsKept (kept.Short count bytes) = count ≤ 24
IsKept (kept.Long text) = Unit {0}
