-- What may come.
use Rattle.std.specs.Prelude.{List, [], ◌∷◌, Option}
use Rattle.yaml_parse_model.specs.declared.yaml_mark_t.{yaml_mark_t}
use Rattle.yaml_parse_grammar.specs.declared.name.Wants.{Wants}
use Rattle.yaml_parse_grammar.specs.declared.name.Brackets.{Brackets}
use Rattle.yaml_parse_grammar.specs.declared.name.Site.{Site}
use Rattle.yaml_parse_grammar.specs.declared.name.Side.{Side}
use Rattle.yaml_parse_grammar.specs.Items.{Properties, RawEvent}

-- a state of the machine; the marks are where what is open begins, unless said
pub data State : Type 0 where
  stream : State
  first : State
  documents : State
  -- after directives
  directives : yaml_mark_t → State
  -- a node or nothing; the mark is the end of the indicator before it
  optional : Site → yaml_mark_t → State
  document_end : State
  -- the parts of a block sequence, of one that isn't indented, of a block mapping
  entries : yaml_mark_t → State
  others : Side → State
  pairs : yaml_mark_t → State
  -- a VALUE and that place, or nothing
  colon : Site → State
  -- the rest of a node after properties
  with_properties : Wants → Properties → State
  -- after an opening bracket or a comma; after a part
  items : Brackets → yaml_mark_t → State
  more : Brackets → yaml_mark_t → State
  -- the end of a pair's own mapping
  pair_end : State
  -- the value of a lone node inside the brackets of a mapping
  lone : State

-- what taking a token gives, and the states that are above the others from then on
pub record Taken : Type 0 where
  pub item : Option RawEvent
  pub above : List State

-- Q of each state of a list
abbrev pub AllAre : (State → Type 0) → List State → Type 0
AllAre Q [] = Unit {0}
AllAre Q (x ∷ s) = Q x × AllAre Q s
