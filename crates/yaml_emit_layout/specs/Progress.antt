-- What a list of events has come to, and which of its events is refused.
use Rattle.std.specs.Prelude.{◌≡◌, Bool, true, false, List, [], ◌∷◌, ◌++◌, Option, Some, None}
use Rattle.yaml_scan_model.specs.declared.name.yaml_encoding_t.{yaml_encoding_t}
use Rattle.yaml_emit_layout.specs.declared.settings.Settings.{Settings}
use Rattle.yaml_emit_layout.specs.declared.problem.Problem.{Problem}
use Rattle.yaml_emit_layout.specs.declared.level.Level.{Level}
use Rattle.yaml_emit_layout.specs.declared.level.Phase.{Phase}
use Rattle.yaml_emit_layout.specs.declared.level.Phase.TheVariants.{Items, Keys, Value}
use Rattle.yaml_emit_layout.specs.declared.level.Expected.{Expected}
use Rattle.yaml_emit_layout.specs.declared.level.Expected.TheVariants as at
use Rattle.yaml_emit_layout.specs.Content.{Document, stream_events, Event, no_event, stream_start, stream_end, document_start, document_end, alias, scalar, sequence_start, sequence_end, mapping_start, mapping_end}
use Rattle.yaml_emit_layout.specs.Grammar.{or_else, problem_by, own_problems}

-- what is due in an open collection: an item or the sequence's end, a key or the mapping's end, or the value of a key
pub data Due : Type 0 where
  item_due : Due
  key_due : Due
  value_due : Due

-- what a list of events has come to: what is expected next, and what is due in the open collections, the innermost first
pub record Progress : Type 0 where
  pub place : Expected
  pub due : List Due

abbrev pub at_place : Expected → Progress
at_place p = record { place = p; due = [] }

-- no event has come
abbrev pub first_progress : Progress
first_progress = at_place at.StreamStart

-- in these open collections; after the last one the document ends
abbrev pub inside : List Due → Progress
inside [] = at_place at.DocumentEnd
inside (d ∷ ds) = record { place = at.Node; due = d ∷ ds }

-- a node has come
abbrev pub behind_node : List Due → List Due
behind_node [] = []
behind_node (item_due ∷ ds) = item_due ∷ ds
behind_node (key_due ∷ ds) = value_due ∷ ds
behind_node (value_due ∷ ds) = key_due ∷ ds

abbrev pub outer_due : List Due → List Due
outer_due [] = []
outer_due (d ∷ ds) = ds

-- an event has come in its right place
unfoldable pub progress_after : Progress → Event → Progress
progress_after h no_event = h
progress_after h (stream_start x) = at_place (at.Documents true false)
progress_after h stream_end = at_place at.End
progress_after h (document_start o) = at_place at.Node
progress_after h (document_end implicit) = at_place (at.Documents false implicit)
progress_after h (alias name) = inside (behind_node h.due)
progress_after h (scalar x) = inside (behind_node h.due)
progress_after h (sequence_start p) = inside (item_due ∷ behind_node h.due)
progress_after h (mapping_start p) = inside (key_due ∷ behind_node h.due)
progress_after h sequence_end = inside (outer_due h.due)
progress_after h mapping_end = inside (outer_due h.due)

abbrev pub phase_due : Due → Phase
phase_due item_due = Items false
phase_due key_due = Keys false
phase_due value_due = Value false

-- a level as far as the grammar looks at it
abbrev pub level_due : List Due → Option Level
level_due [] = None
level_due (d ∷ ds) = Some (record { phase = phase_due d; flow = false; indent = 0 })

-- what is wrong with an event after a list
abbrev pub problem_in : Bool → Progress → Event → Option Problem
problem_in canonical h e = problem_by canonical h.place (level_due h.due) e

-- the problem of the first event of a list that is refused
unfoldable pub first_refusal : Bool → Progress → List Event → Option Problem
first_refusal canonical h [] = None
first_refusal canonical h (e ∷ es) = or_else (problem_in canonical h e)
    (first_refusal canonical (progress_after h e) es)

-- in a front of a stream's events, with nothing wrong in them, none is refused
abbrev pub PassesStreams : Type 0
PassesStreams = (s : Settings) (x : yaml_encoding_t) (ds : List Document) (es more : List Event)
    → es ++ more ≡ stream_events x ds → own_problems s.canonical (es ++ more) ≡ None
    → first_refusal s.canonical first_progress es ≡ None
