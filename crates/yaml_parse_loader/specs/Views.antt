-- What a clause sees of a document in the making.
use Rattle.std.specs.Prelude.{◌≡◌, ℕ, List, map, reverse, Result, Ok, Err}
use Rattle.yaml_parse_model.specs.Parts.{parts_view}
use Rattle.yaml_parse_loader.specs.declared.making.Level.{Level}
use Rattle.yaml_parse_loader.specs.declared.making.Level.TheVariants as level
use Rattle.yaml_parse_loader.specs.declared.making.Making.{Making}
use Rattle.yaml_parse_loader.specs.declared.making.Fed.{Fed}
use Rattle.yaml_parse_loader.specs.declared.making.Fed.TheVariants as fed
use Rattle.yaml_parse_model.specs.declared.yaml_mark_t.{yaml_mark_t}
use Rattle.yaml_parse_model.specs.declared.yaml_text_fault_t.{yaml_text_fault_t}
use Rattle.yaml_parse_model.specs.Nodes.{Node, NodeBody}
use Rattle.yaml_parse_loader.specs.Numbering.{undefined_alias}
use Rattle.yaml_parse_loader.specs.Loading.{Open, open_sequence, open_mapping, Loading, LoadStep, goes_on, loaded, refused}

abbrev pub level_of : Level → Open
level_of (level.Sequence place items) = open_sequence place items.items
level_of (level.Mapping place pairs key) = open_mapping place pairs.items key

-- a node by its parts
abbrev pub node_with : List ℕ → NodeBody → yaml_mark_t → yaml_mark_t → Node
node_with tag body from to = record { body = body; tag = tag; start_mark = from; end_mark = to }

-- the innermost first
abbrev pub levels_of : List Level → List Open
levels_of ls = reverse (map level_of ls)

abbrev pub loading_of : Making → Loading
loading_of m = record {
  document = parts_view m.parts;
  levels = levels_of m.levels.items;
  anchors = m.anchors;
}

-- what a step came to that only out of memory refuses
abbrev pub taken_by : Result Unit yaml_text_fault_t → Fed
taken_by (Ok _) = fed.Taken
taken_by (Err _) = fed.Starved

-- what an event came to, which is there, is what it makes of a document in the making, unless memory ran out; it was taken
-- only where it had that room
abbrev pub Applies : LoadStep → yaml_mark_t → Type 0 → Fed → Loading → Type 0
Applies came at HadRoom fed.Taken new = (came ≡ goes_on new) × HadRoom
Applies came at HadRoom fed.Whole new = (came ≡ loaded new.document) × HadRoom
Applies came at HadRoom fed.Undefined new = came ≡ refused (undefined_alias at)
Applies came at HadRoom fed.Starved new = Unit {0}
