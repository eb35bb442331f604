-- What a clause sees of a table of anchors.
use Rattle.std.specs.Prelude.{map}
use Rattle.std.specs.FinMap.{from_entries}
use Rattle.yaml_parse_loader.specs.declared.anchors.AnchorTable.TheInside.{Inside}
use Rattle.yaml_parse_loader.specs.Anchors.{Anchors}

-- the entries, their names as lists
abbrev pub anchors_view : Inside → Anchors
anchors_view a = from_entries (map (λ e. (e.0.items, e.1)) a.entries.entries)
