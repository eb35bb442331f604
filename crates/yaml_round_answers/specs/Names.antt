-- The names of a document so far.
use Rattle.std.specs.Prelude.{map}
use Rattle.std.specs.FinMap.{from_entries}
use Rattle.yaml_parse_loader.specs.Anchors.{Anchors}
use Rattle.yaml_round_answers.specs.declared.names.Names.{Names}

-- the entries, their names as lists
abbrev pub names_of : Names → Anchors
names_of n = from_entries (map (λ e. (e.0.items, e.1)) n.entries.entries)
