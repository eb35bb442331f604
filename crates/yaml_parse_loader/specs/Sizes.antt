-- How many entries the lists of a document in the making have: what an event needs room for, and what stays true.
use Rattle.std.specs.Prelude.{◌≤◌, ◌<◌, List, [], ◌∷◌, length, Some, None}
use Rattle.yaml_parse_model.specs.Events.{EventBody}
use Rattle.yaml_parse_model.specs.Events as event
use Rattle.yaml_parse_model.specs.Documents.{most_entries}
use Rattle.yaml_parse_model.specs.Sizes.{IsSized}
use Rattle.yaml_parse_loader.specs.Loading.{Open, open_sequence, open_mapping, Loading}

-- ---- room

-- an open collection takes one number more: a sequence as an item, a mapping as a key, or as the value that ends a pair
abbrev pub HasRoom : Open → Type 0
HasRoom (open_sequence place items) = length items < most_entries
HasRoom (open_mapping place pairs None) = Unit {0}
HasRoom (open_mapping place pairs (Some key)) = length pairs < most_entries

-- the innermost one does, if there is one
abbrev pub HaveRoom : List Open → Type 0
HaveRoom [] = Unit {0}
HaveRoom (o ∷ os) = HasRoom o

-- the document takes one node more, and the collection round it takes the node's number
abbrev pub HasRoomForNode : Loading → Type 0
HasRoomForNode l = (length l.document.nodes < most_entries) × HaveRoom l.levels

-- what an event needs
abbrev pub HasRoomFor : EventBody → Loading → Type 0
HasRoomFor (event.alias name) l = HaveRoom l.levels
HasRoomFor (event.scalar anchor tag value plain quoted style) l = HasRoomForNode l
HasRoomFor (event.sequence_start anchor tag implicit style) l = HasRoomForNode l
HasRoomFor (event.mapping_start anchor tag implicit style) l = HasRoomForNode l
HasRoomFor _ l = Unit {0}

-- ---- what stays true

abbrev pub IsSizedOpen : Open → Type 0
IsSizedOpen (open_sequence place items) = length items ≤ most_entries
IsSizedOpen (open_mapping place pairs key) = length pairs ≤ most_entries

abbrev pub AreSizedOpen : List Open → Type 0
AreSizedOpen [] = Unit {0}
AreSizedOpen (o ∷ os) = IsSizedOpen o × AreSizedOpen os

-- no list has more than 2,147,483,647 entries, those of open collections included
pub record IsSizedLoading (l : Loading) : Type 0 where
  pub document : IsSized l.document
  pub levels : AreSizedOpen l.levels
