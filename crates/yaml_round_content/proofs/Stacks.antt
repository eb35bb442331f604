-- What a stack of states means to an emitter, and how an item moves it.
use Rattle.std.proofs.Common.{◌≡◌, true, false, List, [], ◌∷◌, Option, Some, None}
use Rattle.yaml_round_content.proofs.Words.{EventBody, RawEvent, RawEventBody, Kind, State, Expected, Due, item_due, key_due, Progress, at_place, inside, behind_node, outer_due}
use Rattle.yaml_parse_model.specs.Events as event
use Rattle.yaml_emit_laws.specs.parse_grammar.declared.Brackets.TheVariants as brackets
use Rattle.yaml_emit_laws.specs.parse_grammar.Items as item
use Rattle.yaml_emit_laws.specs.parse_grammar.States as state
use Rattle.yaml_emit_laws.specs.emit_layout.declared.Expected.TheVariants as at

-- ---- a stack

-- Where documents may come; the flags of that place say nothing of what may come.
abbrev pub between : Expected
between = at.Documents true false

-- what a state expects next
abbrev pub place_at : State → Expected
place_at state.stream = at.StreamStart
place_at state.first = between
place_at state.documents = between
place_at (state.directives from) = between
place_at state.document_end = at.DocumentEnd
place_at _ = at.Node

-- What is due in the open collections: a node that is still to come is one that the state below doesn't count.
abbrev pub due_at : State → List Due → List Due
due_at (state.optional place before) ds = behind_node ds
due_at (state.colon place) ds = behind_node ds
due_at (state.with_properties wants p) ds = behind_node ds
due_at state.lone ds = behind_node ds
due_at (state.entries opener) ds = item_due ∷ ds
due_at (state.others side) ds = item_due ∷ ds
due_at (state.items brackets.Sequence opener) ds = item_due ∷ ds
due_at (state.more brackets.Sequence opener) ds = item_due ∷ ds
due_at (state.pairs opener) ds = key_due ∷ ds
due_at (state.items brackets.Mapping opener) ds = key_due ∷ ds
due_at (state.more brackets.Mapping opener) ds = key_due ∷ ds
due_at state.pair_end ds = key_due ∷ ds
due_at _ ds = []

abbrev pub dues : List State → List Due
dues [] = []
dues (x ∷ s) = due_at x (dues s)

abbrev pub shape_of : List State → Progress
shape_of [] = at_place at.End
shape_of (x ∷ s) = record { place = place_at x; due = due_at x (dues s) }

-- a node is expected, which the states below don't count
abbrev pub node_shape : List State → Progress
node_shape s = record { place = at.Node; due = behind_node (dues s) }

-- Between documents a state is alone; in one a state is above what is expected after its node or collection.
abbrev pub StandsAt : State → List State → Type 0
StandsAt state.stream s = s ≡ []
StandsAt state.first s = s ≡ []
StandsAt state.documents s = s ≡ []
StandsAt (state.directives from) s = s ≡ []
StandsAt state.document_end s = s ≡ state.documents ∷ []
StandsAt _ s = shape_of s ≡ inside (dues s)

abbrev pub AreRight : List State → Type 0
AreRight [] = Unit {0}
AreRight (x ∷ s) = StandsAt x s × AreRight s

-- ---- an item

-- an event is expected
abbrev pub Expects : Progress → EventBody → Type 0
Expects h event.no = ⊥
Expects h (event.stream_start encoding) = h.place ≡ at.StreamStart
Expects h event.stream_end = h.place ≡ between
Expects h (event.document_start version directives implicit) = h.place ≡ between
Expects h (event.document_end implicit) = h.place ≡ at.DocumentEnd
Expects h (event.alias name) = h.place ≡ at.Node
Expects h (event.scalar anchor tag value plain quoted style) = h.place ≡ at.Node
Expects h (event.sequence_start anchor tag implicit style) = h.place ≡ at.Node
Expects h event.sequence_end = (h.place ≡ at.Node) × (h.due ≡ item_due ∷ outer_due h.due)
Expects h (event.mapping_start anchor tag implicit style) = h.place ≡ at.Node
Expects h event.mapping_end = (h.place ≡ at.Node) × (h.due ≡ key_due ∷ outer_due h.due)

-- what it leads to
abbrev pub moved_by : Progress → EventBody → Progress
moved_by h event.no = h
moved_by h event.stream_end = at_place at.End
moved_by h (event.document_start version directives implicit) = at_place at.Node
moved_by h (event.alias name) = inside (behind_node h.due)
moved_by h (event.scalar anchor tag value plain quoted style) = inside (behind_node h.due)
moved_by h (event.sequence_start anchor tag implicit style) = inside (item_due ∷ behind_node h.due)
moved_by h event.sequence_end = inside (outer_due h.due)
moved_by h (event.mapping_start anchor tag implicit style) = inside (key_due ∷ behind_node h.due)
moved_by h event.mapping_end = inside (outer_due h.due)
moved_by h _ = at_place between

abbrev pub moved_kind : Progress → Kind → Progress
moved_kind h (item.sequence style) = inside (item_due ∷ behind_node h.due)
moved_kind h (item.mapping style) = inside (key_due ∷ behind_node h.due)
moved_kind h _ = inside (behind_node h.due)

-- whether an item is in place; a directive gives no event, and moves nothing
abbrev pub IsPlaced : Progress → RawEventBody → Type 0
IsPlaced h (item.event body) = Expects h body
IsPlaced h (item.version_directive major minor) = Unit {0}
IsPlaced h (item.tag_directive handle prefix) = Unit {0}
IsPlaced h (item.document implicit) = h.place ≡ between
IsPlaced h (item.node anchor tag kind) = h.place ≡ at.Node

abbrev pub moved : Progress → RawEventBody → Progress
moved h (item.event body) = moved_by h body
moved h (item.document implicit) = at_place at.Node
moved h (item.node anchor tag kind) = moved_kind h kind
moved h _ = h

-- an item or none comes in its right place, and leads to that stack
abbrev pub Leads : Progress → Option RawEvent → List State → Type 0
Leads h None s = (h ≡ shape_of s) × AreRight s
Leads h (Some i) s = IsPlaced h i.body × ((moved h i.body ≡ shape_of s) × AreRight s)
