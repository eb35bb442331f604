-- What a clause sees of a document's tag directives.
use Rattle.std.specs.Prelude.{◌≡◌, ℕ, List, map, Vec}
use Rattle.std.specs.Global.{Global}
use Rattle.std.specs.Ordering.{nat_cmp}
use Rattle.std.specs.Cmp.Lexicographic.{slice_cmp}
use Rattle.std.specs.FinMap.{find}
use Rattle.yaml_parse_model.specs.Events.{TagDirective, directive_of}
use Rattle.yaml_parse_grammar.specs.Resolve.{directive_for}
use Rattle.yaml_parse_states.specs.declared.handles.TagDirectives.TheInside.{Inside}

abbrev pub tags_view : Inside → List TagDirective
tags_view t = map directive_of t.list.items

-- a handle and its prefix
abbrev pub entry_of : Vec ℕ Global × Vec ℕ Global → List ℕ × List ℕ
entry_of e = (e.0.items, e.1.items)

-- the entries say of every handle what the directives do
abbrev pub TellsAll : List TagDirective → List (Vec ℕ Global × Vec ℕ Global) → Type 0
TellsAll tags es = (handle : List ℕ) → find (slice_cmp nat_cmp) handle (map entry_of es)
    ≡ directive_for handle tags

abbrev pub IsIndexed : Inside → Type 0
IsIndexed t = TellsAll (map directive_of t.list.items) t.prefixes.entries
