-- What may still come of a stream: its events, its text, and where it comes.
use Rattle.std.specs.Prelude.{ℕ, Bool, false, List, [], ◌∷◌}
use Rattle.yaml_scan_model.specs.declared.name.yaml_encoding_t.{yaml_encoding_t}
use Rattle.yaml_parse_model.specs.Events.{TagDirective}
use Rattle.yaml_emit_layout.specs.declared.settings.Settings.{Settings}
use Rattle.yaml_emit_layout.specs.Layout.{Layout, ◌▹◌, stay}
use Rattle.yaml_emit_layout.specs.declared.level.Part.TheVariants as part
use Rattle.yaml_emit_layout.specs.declared.level.Level.{Level}
use Rattle.yaml_emit_layout.specs.declared.level.Phase.TheVariants.{Items, Keys, Value}
use Rattle.yaml_emit_layout.specs.declared.level.Expected.TheVariants as at
use Rattle.yaml_emit_layout.specs.Content.{Node, Nodes, Pairs, Document, Event, document_end, sequence_end, mapping_end, node_events, items_events, pairs_events, documents_events, stream_events}
use Rattle.yaml_emit_layout.specs.Nodes.{Context, context_of, root_position, position, node_layout, items_layout, pairs_layout, before_value, end_layout, documents_layout, stream_layout}
use Rattle.yaml_emit_layout.specs.State.{State, among, placed}

-- the rest of an open collection: whether it is flow, its indentation, whether nothing has come in it
pub data Frame : Type 0 where
  items_left : Bool → ℕ → Bool → Nodes → Frame
  pairs_left : Bool → ℕ → Bool → Pairs → Frame
  -- after a key, by whether it was simple
  value_left : Bool → ℕ → Bool → Node → Pairs → Frame

pub data ToCome : Type 0 where
  stream : yaml_encoding_t → List Document → ToCome
  -- whether none went before, whether the last ended implicitly
  documents : Bool → Bool → List Document → ToCome
  -- the document's directives, its root, its end, and the documents after it
  root : List TagDirective → Node → Bool → List Document → ToCome
  -- the open collections, the innermost first
  frames : List TagDirective → List Frame → Bool → List Document → ToCome
  nothing : ToCome

abbrev pub level_of : Frame → Level
level_of (items_left flow n fresh ns) = record { phase = Items fresh; flow = flow; indent = n }
level_of (pairs_left flow n fresh ps) = record { phase = Keys fresh; flow = flow; indent = n }
level_of (value_left flow n simple v ps) = record { phase = Value simple; flow = flow; indent = n }

unfoldable pub levels_of : List Frame → List Level
levels_of [] = []
levels_of (f ∷ fs) = level_of f ∷ levels_of fs

unfoldable pub state_of : ToCome → State
state_of (stream x ds) = placed at.StreamStart
state_of (documents first unended ds) = placed (at.Documents first unended)
state_of (root directives n implicit ds) = record {
  place = at.Node;
  levels = [];
  directives = directives;
}
state_of (frames directives fs implicit ds) = among directives (levels_of fs)
state_of nothing = placed at.End

abbrev pub ending_events : Bool → List Document → List Event
ending_events implicit ds = document_end implicit ∷ documents_events ds

unfoldable pub frame_events : Frame → List Event → List Event
frame_events (items_left flow n fresh ns) es = items_events ns (sequence_end ∷ es)
frame_events (pairs_left flow n fresh ps) es = pairs_events ps (mapping_end ∷ es)
frame_events (value_left flow n simple v ps) es = node_events v (pairs_events ps (mapping_end ∷ es))

unfoldable pub frames_events : List Frame → List Event → List Event
frames_events [] es = es
frames_events (f ∷ fs) es = frame_events f (frames_events fs es)

unfoldable pub events : ToCome → List Event
events (stream x ds) = stream_events x ds
events (documents first unended ds) = documents_events ds
events (root directives n implicit ds) = node_events n (ending_events implicit ds)
events (frames directives fs implicit ds) = frames_events fs (ending_events implicit ds)
events nothing = []

abbrev pub ending_layout : Settings → Bool → List Document → Layout
ending_layout s implicit ds = end_layout s implicit ▹ documents_layout s false implicit ds

unfoldable pub frame_layout : Context → Frame → Layout
frame_layout p (items_left flow n fresh ns) = items_layout p flow n fresh ns
frame_layout p (pairs_left flow n fresh ps) = pairs_layout p flow n fresh ps
frame_layout p (value_left flow n simple v ps) = before_value p.settings flow n simple
    ▹ node_layout p (position flow n part.Value) v ▹ pairs_layout p flow n false ps

unfoldable pub frames_layout : Context → List Frame → Layout
frames_layout p [] = stay
frames_layout p (f ∷ fs) = frame_layout p f ▹ frames_layout p fs

unfoldable pub layout : Settings → ToCome → Layout
layout s (stream x ds) = stream_layout s ds
layout s (documents first unended ds) = documents_layout s first unended ds
layout s (root directives n implicit ds) = node_layout (context_of s directives) root_position n
    ▹ ending_layout s implicit ds
layout s (frames directives fs implicit ds) = frames_layout (context_of s directives) fs
    ▹ ending_layout s implicit ds
layout s nothing = stay
