-- Items, states and tokens whose texts are UTF-8.
use Rattle.std.specs.Prelude.{[], Option, Some, None, IsUtf8}
use Rattle.yaml_parse_model.specs.Constructors.{HasUtf8, IsUtf8Option}
use Rattle.yaml_parse_grammar.specs.Items.{RawEventBody, Tag, Shape}
use Rattle.yaml_parse_grammar.specs.Items as item
use Rattle.yaml_parse_grammar.specs.States.{State}
use Rattle.yaml_parse_grammar.specs.States as state

abbrev pub IsUtf8Tag : Option Tag → Type 0
IsUtf8Tag None = Unit {0}
IsUtf8Tag (Some t) = IsUtf8 t.handle × IsUtf8 t.suffix

abbrev pub IsUtf8Shape : Shape → Type 0
IsUtf8Shape (item.scalar value style) = IsUtf8 value
IsUtf8Shape _ = Unit {0}

abbrev pub IsUtf8Item : RawEventBody → Type 0
IsUtf8Item (item.event body) = HasUtf8 body
IsUtf8Item (item.tag_directive handle prefix) = IsUtf8 handle × IsUtf8 prefix
IsUtf8Item (item.node anchor tag shape) = IsUtf8Option anchor × (IsUtf8Tag tag × IsUtf8Shape shape)
IsUtf8Item _ = Unit {0}

abbrev pub IsUtf8State : State → Type 0
IsUtf8State (state.with_properties wants p) = IsUtf8Option p.anchor × IsUtf8Tag p.tag
IsUtf8State _ = Unit {0}
