-- An emitter's state, as the layouts' definitions say it.
use Rattle.std.specs.Prelude.{◌≡◌, ◌<◌, ◌^◌, ◌||◌, ℕ, Bool, true, false, List, [], ◌∷◌, reverse, Option, Some, None, ⊤}
use Rattle.yaml_emit_layout.specs.declared.level.Level.{Level as Open}
use Rattle.yaml_emit_layout.specs.declared.level.Phase.{Phase}
use Rattle.yaml_emit_layout.specs.declared.level.Phase.TheVariants as phase
use Rattle.yaml_emit_layout.specs.declared.level.Expected.{Expected}
use Rattle.yaml_emit_layout.specs.declared.level.Expected.TheVariants as at
use Rattle.yaml_emit_layout.specs.State.{levels_behind, top_of, State as Standing}
use Rattle.yaml_parse_model.specs.Events.{TagDirective}
use Rattle.yaml_scan_types.specs.Ascii as ascii
use Rattle.yaml_emit_layout.specs.Content as said
use Rattle.yaml_emit_layout.specs.Content.{Event, Start}
use Rattle.yaml_emit_core.specs.declared.level.State.{State}
use Rattle.yaml_emit_core.specs.declared.level.State.TheVariants as state
use Rattle.yaml_emit_core.specs.declared.level.Level.{Level}
use Rattle.yaml_emit_core.specs.declared.level.Levels.TheInside.{Inside}

-- the phase of an open collection
abbrev pub phase_of : State → Option Phase
phase_of state.StreamStart = None
phase_of state.FirstDocumentStart = None
phase_of state.DocumentStart = None
phase_of state.DocumentContent = None
phase_of state.FirstItem = Some (phase.Items true)
phase_of state.Item = Some (phase.Items false)
phase_of state.FirstKey = Some (phase.Keys true)
phase_of state.Key = Some (phase.Keys false)
phase_of state.SimpleValue = Some (phase.Value true)
phase_of state.Value = Some (phase.Value false)
phase_of state.DocumentEnd = None
phase_of state.End = None

-- what comes next in a collection of that phase
abbrev pub state_in : Phase → State
state_in (phase.Items true) = state.FirstItem
state_in (phase.Items false) = state.Item
state_in (phase.Keys true) = state.FirstKey
state_in (phase.Keys false) = state.Key
state_in (phase.Value true) = state.SimpleValue
state_in (phase.Value false) = state.Value

-- what comes next in the innermost collection, or where none is open
abbrev pub state_by : Option Open → State → State
state_by None s = s
state_by (Some l) s = state_in l.phase

-- what is expected outside of collections, by whether the last document ended implicitly
abbrev pub place_of : State → Bool → Expected
place_of state.StreamStart unended = at.StreamStart
place_of state.FirstDocumentStart unended = at.Documents true unended
place_of state.DocumentStart unended = at.Documents false unended
place_of state.DocumentEnd unended = at.DocumentEnd
place_of state.End unended = at.End
place_of state.DocumentContent unended = at.Node
place_of state.FirstItem unended = at.Node
place_of state.Item unended = at.Node
place_of state.FirstKey unended = at.Node
place_of state.Key unended = at.Node
place_of state.SimpleValue unended = at.Node
place_of state.Value unended = at.Node

-- what comes after a node
abbrev pub state_behind : State → Bool → State
state_behind state.FirstItem simple = state.Item
state_behind state.Item simple = state.Item
state_behind state.FirstKey true = state.SimpleValue
state_behind state.FirstKey false = state.Value
state_behind state.Key true = state.SimpleValue
state_behind state.Key false = state.Value
state_behind state.SimpleValue simple = state.Key
state_behind state.Value simple = state.Key
state_behind state.StreamStart simple = state.DocumentEnd
state_behind state.FirstDocumentStart simple = state.DocumentEnd
state_behind state.DocumentStart simple = state.DocumentEnd
state_behind state.DocumentContent simple = state.DocumentEnd
state_behind state.DocumentEnd simple = state.DocumentEnd
state_behind state.End simple = state.DocumentEnd

-- the first document comes, or the stream's end
abbrev pub is_first : State → Bool
is_first state.StreamStart = false
is_first state.FirstDocumentStart = true
is_first state.DocumentStart = false
is_first state.DocumentContent = false
is_first state.FirstItem = false
is_first state.Item = false
is_first state.FirstKey = false
is_first state.Key = false
is_first state.SimpleValue = false
is_first state.Value = false
is_first state.DocumentEnd = false
is_first state.End = false

-- a document or the stream's end comes
abbrev pub is_between : State → Bool
is_between state.StreamStart = false
is_between state.FirstDocumentStart = true
is_between state.DocumentStart = true
is_between state.DocumentContent = false
is_between state.FirstItem = false
is_between state.Item = false
is_between state.FirstKey = false
is_between state.Key = false
is_between state.SimpleValue = false
is_between state.Value = false
is_between state.DocumentEnd = false
is_between state.End = false

abbrev pub is_item : State → Bool
is_item state.FirstItem = true
is_item state.Item = true
is_item state.StreamStart = false
is_item state.FirstDocumentStart = false
is_item state.DocumentStart = false
is_item state.DocumentContent = false
is_item state.FirstKey = false
is_item state.Key = false
is_item state.SimpleValue = false
is_item state.Value = false
is_item state.DocumentEnd = false
is_item state.End = false

abbrev pub is_key : State → Bool
is_key state.FirstKey = true
is_key state.Key = true
is_key state.StreamStart = false
is_key state.FirstDocumentStart = false
is_key state.DocumentStart = false
is_key state.DocumentContent = false
is_key state.FirstItem = false
is_key state.Item = false
is_key state.SimpleValue = false
is_key state.Value = false
is_key state.DocumentEnd = false
is_key state.End = false

-- an item, a key, or the value of a key that isn't simple comes
abbrev pub is_entry : State → Bool
is_entry state.StreamStart = false
is_entry state.FirstDocumentStart = false
is_entry state.DocumentStart = false
is_entry state.DocumentContent = false
is_entry state.FirstItem = true
is_entry state.Item = true
is_entry state.FirstKey = true
is_entry state.Key = true
is_entry state.SimpleValue = false
is_entry state.Value = true
is_entry state.DocumentEnd = false
is_entry state.End = false

-- the value of a simple key comes
abbrev pub is_behind_simple : State → Bool
is_behind_simple state.StreamStart = false
is_behind_simple state.FirstDocumentStart = false
is_behind_simple state.DocumentStart = false
is_behind_simple state.DocumentContent = false
is_behind_simple state.FirstItem = false
is_behind_simple state.Item = false
is_behind_simple state.FirstKey = false
is_behind_simple state.Key = false
is_behind_simple state.SimpleValue = true
is_behind_simple state.Value = false
is_behind_simple state.DocumentEnd = false
is_behind_simple state.End = false

-- entries went before, and another may come
abbrev pub is_further : State → Bool
is_further state.Item = true
is_further state.Key = true
is_further state.StreamStart = false
is_further state.FirstDocumentStart = false
is_further state.DocumentStart = false
is_further state.DocumentContent = false
is_further state.FirstItem = false
is_further state.FirstKey = false
is_further state.SimpleValue = false
is_further state.Value = false
is_further state.DocumentEnd = false
is_further state.End = false

abbrev pub level_by : Option Phase → Bool → ℕ → Option Open
level_by None flow n = None
level_by (Some p) flow n = Some (record { phase = p; flow = flow; indent = n })

-- a level as an open collection
abbrev pub level_of : Level → Option Open
level_of l = level_by (phase_of l.state) l.flow l.indent

abbrev pub upon : Option Open → List Open → List Open
upon None ls = []
upon (Some l) ls = l ∷ ls

-- the innermost one, and those round it, the outermost first
abbrev pub stack : Option Open → List Open → List Open
stack None outer = []
stack (Some l) outer = l ∷ reverse outer

-- what comes next, and the open collections, the innermost first
pub record Stack : Type 0 where
  pub state : State
  pub levels : List Open

abbrev pub stack_of : Inside → Stack
stack_of s = record { state = s.top.state; levels = stack (level_of s.top) s.outer.items }

-- no indentation is too deep
unfoldable pub AreNarrow : List Open → Type 0
AreNarrow [] = ⊤
AreNarrow (l ∷ ls) = (l.indent < 2 ^ 31) × AreNarrow ls

-- outside of collections it is no flow collection's, and not indented
abbrev pub IsPlain : Level → Type 0
IsPlain l = phase_of l.state ≡ None → (l.flow ≡ false) × (l.indent ≡ 0)

-- outside of collections nothing is round it
pub record IsLevels (s : Inside) : Type 0 where
  pub plain : IsPlain s.top
  pub outside : phase_of s.top.state ≡ None → s.outer.items ≡ []
  pub narrow : s.top.indent < 2 ^ 31
  pub narrow_outer : AreNarrow (reverse s.outer.items)

-- a node came
abbrev pub stepped : Stack → Bool → Stack
stepped s simple = record {
  state = state_behind s.state simple;
  levels = levels_behind s.levels
      simple;
}

-- one more collection is open
abbrev pub opened : Stack → Level → Stack
opened s l = record { state = l.state; levels = upon (level_of l) s.levels }

abbrev pub is_open : Option Phase → Bool
is_open None = false
is_open (Some p) = true

abbrev pub is_root : State → Bool
is_root state.DocumentContent = true
is_root state.StreamStart = false
is_root state.FirstDocumentStart = false
is_root state.DocumentStart = false
is_root state.FirstItem = false
is_root state.Item = false
is_root state.FirstKey = false
is_root state.Key = false
is_root state.SimpleValue = false
is_root state.Value = false
is_root state.DocumentEnd = false
is_root state.End = false

-- a node may come
abbrev pub awaits_node : State → Bool
awaits_node s = is_root s || is_open (phase_of s)

-- a sequence or a mapping may end
abbrev pub may_end : Bool → State → Bool
may_end true s = is_item s
may_end false s = is_key s

-- the event that ends it, and the bracket where it is flow
abbrev pub ending : Bool → Event
ending true = said.sequence_end
ending false = said.mapping_end

abbrev pub bracket_of : Bool → ℕ
bracket_of true = ascii.close_bracket
bracket_of false = ascii.close_brace

-- the event that opens one, the bracket where it is flow, and what comes next in it
abbrev pub opening : Bool → Start → Event
opening true q = said.sequence_start q
opening false q = said.mapping_start q

abbrev pub opener_of : Bool → ℕ
opener_of true = ascii.open_bracket
opener_of false = ascii.open_brace

abbrev pub first_of : Bool → State
first_of true = state.FirstItem
first_of false = state.FirstKey

-- the innermost collection is the one of that state
abbrev pub Stands : Stack → Type 0
Stands s = (flow : Bool) × (n : ℕ) × (level_by (phase_of s.state) flow n ≡ top_of s.levels)

-- the state of an emitter
abbrev pub state_at : Stack → Bool → List TagDirective → Standing
state_at s unended directives = record {
  place = place_of s.state unended;
  levels = s.levels;
  directives = directives;
}
