-- The state of an emitter, and what it writes for an event.
use Rattle.std.specs.Prelude.{ℕ, Bool, true, false, List, [], ◌∷◌, Option, Some, None}
use Rattle.yaml_scan_types.specs.Ascii as ascii
use Rattle.yaml_parse_model.specs.Events.{TagDirective}
use Rattle.yaml_emit_layout.specs.declared.cursor.Cursor.{Cursor}
use Rattle.yaml_emit_layout.specs.declared.settings.Settings.{Settings}
use Rattle.yaml_emit_layout.specs.Layout.{Layout, ◌▹◌, stay, when, opener, order_mark}
use Rattle.yaml_emit_layout.specs.declared.problem.Problem.{Problem}
use Rattle.yaml_emit_layout.specs.declared.level.Part.{Part}
use Rattle.yaml_emit_layout.specs.declared.level.Part.TheVariants as part
use Rattle.yaml_emit_layout.specs.declared.level.NodePosition.{NodePosition}
use Rattle.yaml_emit_layout.specs.declared.level.Level.{Level}
use Rattle.yaml_emit_layout.specs.declared.level.Phase.{Phase}
use Rattle.yaml_emit_layout.specs.declared.level.Phase.TheVariants.{Items, Keys, Value}
use Rattle.yaml_emit_layout.specs.declared.level.Expected.{Expected}
use Rattle.yaml_emit_layout.specs.declared.level.Expected.TheVariants as at
use Rattle.yaml_emit_layout.specs.Content.{Start, Opening, Event, no_event, stream_start, stream_end, document_start, document_end, alias, scalar, sequence_start, sequence_end, mapping_start, mapping_end}
use Rattle.yaml_emit_layout.specs.Grammar.{problem_by, start_tag}
use Rattle.yaml_emit_layout.specs.Nodes.{Context, context_of, root_position, position, key_part, is_simple_scalar, is_simple_alias, is_simple_start, is_flow, indent_of, indented, checked, properties_text, scalar_layout, alias_layout, before_item, before_key, before_value, closer, start_layout, end_layout, stop_layout}

-- the levels, the innermost first, and the directives of the document
pub record State : Type 0 where
  pub place : Expected
  pub levels : List Level
  pub directives : List TagDirective

abbrev pub is_sequence_end : Event → Bool
is_sequence_end sequence_end = true
is_sequence_end e = false

abbrev pub is_mapping_end : Event → Bool
is_mapping_end mapping_end = true
is_mapping_end e = false

abbrev pub closes_by : Event → Event → Bool
closes_by (sequence_start p) f = is_sequence_end f
closes_by (mapping_start p) f = is_mapping_end f
closes_by e f = false

abbrev pub begins_by : (Event → Bool) → List Event → Bool
begins_by p [] = false
begins_by p (f ∷ es) = p f

-- whether an event opens a collection that the next one closes
unfoldable pub opens_empty : Event → List Event → Bool
opens_empty (sequence_start p) es = begins_by is_sequence_end es
opens_empty (mapping_start p) es = begins_by is_mapping_end es
opens_empty e es = false

unfoldable pub is_simple_event : Context → Event → Bool → Bool
is_simple_event p (alias name) empty = is_simple_alias p name
is_simple_event p (scalar x) empty = is_simple_scalar p x
is_simple_event p (sequence_start q) empty = is_simple_start p q empty
is_simple_event p (mapping_start q) empty = is_simple_start p q empty
is_simple_event p e empty = false

-- the position of a node, by the innermost level and whether the node is a simple key
abbrev pub part_at : Phase → Bool → Part
part_at (Items fresh) simple = part.Item
part_at (Keys fresh) simple = key_part simple
part_at (Value was_simple) simple = part.Value

abbrev pub top_of : List Level → Option Level
top_of [] = None
top_of (l ∷ ls) = Some l

abbrev pub outer_of : List Level → List Level
outer_of [] = []
outer_of (l ∷ ls) = ls

abbrev pub position_of : Option Level → Bool → NodePosition
position_of None simple = root_position
position_of (Some l) simple = position l.flow l.indent (part_at l.phase simple)

-- what comes before a node
abbrev pub before_at : Settings → Phase → Bool → ℕ → Bool → Layout
before_at s (Items fresh) flow n simple = before_item s flow n fresh
before_at s (Keys fresh) flow n simple = before_key s flow n fresh simple
before_at s (Value was_simple) flow n simple = before_value s flow n was_simple

abbrev pub before_node : Settings → Option Level → Bool → Layout
before_node s None simple = stay
before_node s (Some l) simple = before_at s l.phase l.flow l.indent simple

-- what comes after a node in its collection
unfoldable pub phase_behind : Phase → Bool → Phase
phase_behind (Items fresh) simple = Items false
phase_behind (Keys fresh) simple = Value simple
phase_behind (Value was_simple) simple = Keys false

abbrev pub levels_behind : List Level → Bool → List Level
levels_behind [] simple = []
levels_behind (l ∷ ls) simple = record {
  phase = phase_behind l.phase simple;
  flow = l.flow;
  indent = l.indent;
} ∷ ls

abbrev pub place_at : Option Level → Expected
place_at None = at.DocumentEnd
place_at (Some l) = at.Node

abbrev pub among : List TagDirective → List Level → State
among directives ls = record { place = place_at (top_of ls); levels = ls; directives = directives }

abbrev pub placed : Expected → State
placed p = record { place = p; levels = []; directives = [] }

-- a collection was opened: its first phase, whether it is flow, and its indentation
abbrev pub opened : List TagDirective → List Level → Bool → Phase → Bool → ℕ → State
opened directives ls simple phase flow n = among directives
    (record { phase = phase; flow = flow; indent = n } ∷ levels_behind ls simple)

abbrev pub stop_at : Settings → Expected → Layout
stop_at s (at.Documents first unended) = stop_layout s unended
stop_at s place = stay

abbrev pub start_at : Settings → Expected → Opening → Layout
start_at s (at.Documents first unended) o = start_layout s first unended o
start_at s place o = stay

abbrev pub is_fresh : Phase → Bool
is_fresh (Items fresh) = fresh
is_fresh (Keys fresh) = fresh
is_fresh (Value was_simple) = false

abbrev pub closer_at : Settings → Option Level → ℕ → Layout
closer_at s None x = stay
closer_at s (Some l) x = closer s l.flow l.indent (is_fresh l.phase) x

-- what opens a collection: its anchor and tag, and the indicator for flow
abbrev pub start_text : Context → NodePosition → ℕ → Start → Bool → Layout
start_text p at x q empty = properties_text p q.anchor (start_tag p.settings.canonical q)
    ▹ when (is_flow p.settings at q empty) (opener x)

-- a collection that is too deep is marked after that
abbrev pub depth_text : Context → NodePosition → Bool → Start → Bool → Layout
depth_text p at sequence q empty = indented
    (indent_of p.settings at sequence (is_flow p.settings at q empty)) checked

-- what is written for an event, except for the depth
unfoldable pub text_at : Context → Expected → Option Level → Event → Bool → Layout
text_at p place top no_event empty = stay
text_at p place top (stream_start x) empty = order_mark p.settings.encoding
text_at p place top stream_end empty = stop_at p.settings place
text_at p place top (document_start o) empty = start_at p.settings place o
text_at p place top (document_end implicit) empty = end_layout p.settings implicit
text_at p place top (alias name) empty = let simple = is_simple_event p (alias name) empty
    in before_node p.settings top simple ▹ alias_layout (position_of top simple) name
text_at p place top (scalar v) empty = let simple = is_simple_event p (scalar v) empty
    in before_node p.settings top simple ▹ scalar_layout p (position_of top simple) v
text_at p place top (sequence_start q) empty = let simple = is_simple_event p (sequence_start q)
    empty in before_node p.settings top simple
    ▹ start_text p (position_of top simple) ascii.open_bracket q empty
text_at p place top (mapping_start q) empty = let simple = is_simple_event p (mapping_start q) empty
    in before_node p.settings top simple
    ▹ start_text p (position_of top simple) ascii.open_brace q empty
text_at p place top sequence_end empty = closer_at p.settings top ascii.close_bracket
text_at p place top mapping_end empty = closer_at p.settings top ascii.close_brace

unfoldable pub depth_at : Context → Option Level → Event → Bool → Layout
depth_at p top (sequence_start q) empty = depth_text p
    (position_of top (is_simple_event p (sequence_start q) empty)) true q empty
depth_at p top (mapping_start q) empty = depth_text p
    (position_of top (is_simple_event p (mapping_start q) empty)) false q empty
depth_at p top no_event empty = stay
depth_at p top (stream_start x) empty = stay
depth_at p top stream_end empty = stay
depth_at p top (document_start o) empty = stay
depth_at p top (document_end implicit) empty = stay
depth_at p top (alias name) empty = stay
depth_at p top (scalar v) empty = stay
depth_at p top sequence_end empty = stay
depth_at p top mapping_end empty = stay

-- what is written for an event
abbrev pub piece_at : Context → Expected → Option Level → Event → Bool → Layout
piece_at p place top e empty = text_at p place top e empty ▹ depth_at p top e empty

abbrev pub piece : Settings → State → Event → Bool → Layout
piece s st e empty = piece_at (context_of s st.directives) st.place (top_of st.levels) e empty

-- the state after it, by the cursor after what is written
unfoldable pub next_at : Context → Expected → List Level → Event → Bool → Cursor → State
next_at p place ls no_event empty
    c = record { place = place; levels = ls; directives = p.directives }
next_at p place ls (stream_start x) empty c = placed (at.Documents true false)
next_at p place ls stream_end empty c = placed at.End
next_at p place ls (document_start o) empty c = record {
  place = at.Node;
  levels = [];
  directives = o.directives;
}
next_at p place ls (document_end implicit) empty c = placed (at.Documents false implicit)
next_at p place ls (alias name) empty c = among p.directives
    (levels_behind ls (is_simple_event p (alias name) empty))
next_at p place ls (scalar v) empty c = among p.directives
    (levels_behind ls (is_simple_event p (scalar v) empty))
next_at p place ls (sequence_start q) empty c =
    let simple = is_simple_event p (sequence_start q) empty in
    let at = position_of (top_of ls) simple in
    opened p.directives ls simple (Items true) (is_flow p.settings at q empty)
    (indent_of p.settings at true (is_flow p.settings at q empty) c)
next_at p place ls (mapping_start q) empty c =
    let simple = is_simple_event p (mapping_start q) empty in
    let at = position_of (top_of ls) simple in
    opened p.directives ls simple (Keys true) (is_flow p.settings at q empty)
    (indent_of p.settings at false (is_flow p.settings at q empty) c)
next_at p place ls sequence_end empty c = among p.directives (outer_of ls)
next_at p place ls mapping_end empty c = among p.directives (outer_of ls)

abbrev pub next : Settings → State → Event → Bool → Cursor → State
next s st e empty c = next_at (context_of s st.directives) st.place st.levels e empty c

-- what is wrong with an event at a state
abbrev pub problem_at : Settings → State → Event → Option Problem
problem_at s st e = problem_by s.canonical st.place (top_of st.levels) e
