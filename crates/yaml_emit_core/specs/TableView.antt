-- What a clause sees of a document's directives.
use Rattle.std.specs.Prelude.{◌≡◌, ℕ, List, [], ◌∷◌, map, Option, Some, None, Vec}
use Rattle.std.specs.Global.{Global}
use Rattle.yaml_scan_types.specs.Ascii as ascii
use Rattle.yaml_parse_model.specs.Events.{TagDirective, directive_of}
use Rattle.yaml_emit_layout.specs.Tags.{defines}
use Rattle.yaml_emit_core.specs.Prefixes.{IsIndex, entry_of}
use Rattle.yaml_emit_core.specs.declared.table.DirectiveTable.TheInside.{Inside}

abbrev pub table_view : Inside → List TagDirective
table_view t = map directive_of t.list.items

-- the index of directives, where there is one
abbrev pub IsIndexed : List TagDirective → Option (Vec (Vec ℕ Global × ℕ) Global) → Type 0
IsIndexed ds None = Unit {0}
IsIndexed ds (Some es) = IsIndex ds (map entry_of es.items)

pub record IsTable (t : Inside) : Type 0 where
  pub primary : t.primary ≡ defines (table_view t) (ascii.exclamation ∷ [])
  pub secondary : t.secondary ≡ defines (table_view t) (ascii.exclamation ∷ ascii.exclamation ∷ [])
  pub sorted : IsIndexed (table_view t) t.sorted
