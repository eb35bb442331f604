-- How states are above one another, and whether a document is half taken after an event.
use Rattle.std.specs.Prelude.{◌≡◌, Bool, true, false, List, [], ◌∷◌}
use Rattle.yaml_parse_model.specs.Events.{EventBody}
use Rattle.yaml_parse_model.specs.Events as event
use Rattle.yaml_parse_grammar.specs.States.{State}
use Rattle.yaml_parse_grammar.specs.States as state

-- no document is half taken after the event
abbrev pub parts_documents_behind : EventBody → Bool
parts_documents_behind event.no = true
parts_documents_behind (event.stream_start encoding) = true
parts_documents_behind event.stream_end = true
parts_documents_behind (event.document_end implicit) = true
parts_documents_behind _ = false

-- a state of a node
abbrev pub IsInner : State → Type 0
IsInner state.stream = ⊥
IsInner state.first = ⊥
IsInner state.documents = ⊥
IsInner (state.directives from) = ⊥
IsInner state.document_end = ⊥
IsInner _ = Unit {0}

-- in a document the states of its nodes are above its end, and that above the documents after it
abbrev pub InsideAt : State → List State → Type 0 → Type 0
InsideAt state.document_end s below = s ≡ state.documents ∷ []
InsideAt x s below = IsInner x × below

abbrev pub IsInside : List State → Type 0
IsInside [] = ⊥
IsInside (x ∷ s) = InsideAt x s (IsInside s)

-- between documents one state is alone
abbrev pub StackAt : State → List State → Type 0 → Type 0
StackAt state.stream s inside = s ≡ []
StackAt state.first s inside = s ≡ []
StackAt state.documents s inside = s ≡ []
StackAt (state.directives from) s inside = s ≡ []
StackAt x s inside = inside

abbrev pub IsStack : List State → Type 0
IsStack [] = Unit {0}
IsStack (x ∷ s) = StackAt x s (IsInside (x ∷ s))
