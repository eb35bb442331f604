-- What each event makes of the path to the place before it.
use Rattle.std.specs.Prelude.{◌≡◌, Bool, true, ℕ, suc, List, [], ◌∷◌, Option, Some, None}
use Rattle.yaml_parse.specs.Events.{EventBody}
use Rattle.yaml_parse.specs.Events as event
use Rattle.yaml_round_engine.specs.declared.trail.Trail.{Trail}
use Rattle.yaml_round_engine.specs.Places.{PathStep, Path, path_of}
use Rattle.yaml_round_engine.specs.Places as place

-- ---- the steps

-- after a node in the same collection; the text is that of the node, where it is a scalar
abbrev pub step_behind : PathStep → Option (List ℕ) → PathStep
step_behind (place.item n) text = place.item (suc n)
step_behind (place.key n) text = place.value n text
step_behind (place.value n key) text = place.key (suc n)

abbrev pub past_node : Option (List ℕ) → List PathStep → List PathStep
past_node text [] = []
past_node text (s ∷ ss) = step_behind s text ∷ ss

abbrev pub past_end : List PathStep → List PathStep
past_end [] = []
past_end (s ∷ ss) = past_node None ss

abbrev pub past_event : EventBody → Path → Path
past_event (event.alias name) p = record p { steps = past_node None p.steps }
past_event (event.scalar anchor tag text plain quoted style) p = record p
    { steps = past_node (Some text) p.steps }
past_event (event.sequence_start anchor tag implicit style) p = record p
    { steps = place.item 0 ∷ p.steps }
past_event (event.mapping_start anchor tag implicit style) p = record p
    { steps = place.key 0 ∷ p.steps }
past_event event.sequence_end p = record p { steps = past_end p.steps }
past_event event.mapping_end p = record p { steps = past_end p.steps }
past_event (event.document_end implicit) p = record p { document = suc p.document }
past_event _ p = p

-- one event after another
abbrev pub past : List EventBody → Path → Path
past [] p = p
past (e ∷ es) p = past es (past_event e p)

-- before a stream
abbrev pub start : Path
start = record { document = 0; steps = [] }

-- before a stream, and the path is kept
pub record IsFreshTrail (keeps : Bool) (t : Trail) : Type 0 where
  pub kept : keeps ≡ true
  pub path : path_of t.place ≡ start
