-- What a clause sees of a table of names.
use Rattle.std.specs.Prelude.{map}
use Rattle.std.specs.FinMap.{from_entries}
use Rattle.yaml_round_documents.specs.Shapes.{Shapes, list_of}
use Rattle.yaml_round_documents.specs.declared.shapes.ShapeTable.TheInside.{Inside}

-- the entries, their names as lists
abbrev pub shapes_view : Inside → Shapes
shapes_view a = from_entries (map (λ e. (list_of e.0, e.1)) a.entries.entries)
