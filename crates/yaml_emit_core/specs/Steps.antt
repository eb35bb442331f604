-- What laying out one event does.
use Rattle.std.specs.Prelude.{◌≡◌, ◌≢◌, ◌⊎◌, Bool, true, false, not, ◌&&◌, ◌||◌, List, [], Option, Some, None}
use Rattle.yaml_emit_layout.specs.declared.Cursor.{Cursor}
use Rattle.yaml_emit_layout.specs.declared.Settings.{Settings}
use Rattle.yaml_emit_layout.specs.declared.Status.{Status}
use Rattle.yaml_emit_layout.specs.declared.Status.TheVariants.{Going, Full, Deep, Starved}
use Rattle.yaml_emit_layout.specs.Text.{Item, encode}
use Rattle.yaml_emit_layout.specs.Layout.{Layout, stay, start, nothing_more}
use Rattle.yaml_emit_layout.specs.Sink.{Output, Ends, Puts}
use Rattle.yaml_emit_layout.specs.declared.problem.Problem.{Problem}
use Rattle.yaml_emit_layout.specs.declared.level.Expected.{Expected}
use Rattle.yaml_emit_layout.specs.declared.level.Expected.TheVariants as at
use Rattle.yaml_emit_layout.specs.declared.level.Level.{Level}
use Rattle.yaml_emit_layout.specs.Content.{Event, no_event, stream_start, stream_end, document_start, document_end, sequence_start, mapping_start}
use Rattle.yaml_emit_layout.specs.State.{State, placed, piece, next, problem_at}
use Rattle.yaml_parse_model.specs.Events.{TagDirective}

-- What a clause sees of an emitter: the settings it was made with, the output, what is expected, the open collections, the innermost
-- first, the directives of the document, and whether memory that was refused outside the output has stopped it.
pub record Core : Type 0 where
  pub settings : Settings
  pub sink : Output
  pub place : Expected
  pub levels : List Level
  pub directives : List TagDirective
  pub starved : Bool

-- the state of an emitter
abbrev pub state_of : Core → State
state_of core = record {
  place = core.place;
  levels = core.levels;
  directives = core.directives;
}

-- the settings in force: the encoding is the output's
abbrev pub settings_of : Core → Settings
settings_of core = record {
  encoding = core.sink.encoding;
  canonical = core.settings.canonical;
  indent = core.settings.indent;
  width = core.settings.width;
  unicode = core.settings.unicode;
  line_break = core.settings.line_break;
}

abbrev pub is_document_start : Event → Bool
is_document_start (document_start o) = true
is_document_start e = false

-- it opens a collection
abbrev pub opens : Event → Bool
opens (sequence_start p) = true
opens (mapping_start p) = true
opens e = false

-- it begins or ends the stream or a document, or is none
abbrev pub is_outer : Event → Bool
is_outer no_event = true
is_outer (stream_start x) = true
is_outer stream_end = true
is_outer (document_start o) = true
is_outer (document_end implicit) = true
is_outer e = false

abbrev pub is_going : Status → Bool
is_going Going = true
is_going Full = false
is_going Deep = false
is_going Starved = false

-- laying it out may take memory outside the output: for the directives of a document, or for the list of open collections
abbrev pub takes_memory : Event → Bool
takes_memory (document_start o) = true
takes_memory (sequence_start p) = true
takes_memory (mapping_start p) = true
takes_memory e = false

-- the output was stopped by what may take memory outside it
abbrev pub may_note : Bool → Status → Status → Bool
may_note takes before behind = takes && (is_going before && not (is_going behind))

-- That memory was refused outside the output is noted where this stops the output, and nowhere else.
abbrev pub Notes : Bool → Core → Core → Type 0
Notes takes old new = may_note takes old.sink.status new.sink.status ≡ false
    → new.starved ≡ old.starved

-- all of a layout is in the output, as nothing follows
abbrev pub IsPut : Output → Output → Layout → Type 0
IsPut old new a = (whole : List Item) → Ends old (a old.cursor nothing_more) whole
    → encode old.encoding whole ≡ new.bytes

-- Where it is noted, no text was missing memory: all of the event's layout is in the output, or, of a document's start, whose
-- directives are looked at first, nothing.
pub record Blames (old new : Core) (e : Event) (a : Layout) : Type 0 where
  pub levels : old.sink.status ≡ Going → old.starved ≡ false → new.starved ≡ true
      → IsPut old.sink new.sink a
      ⊎ ((is_document_start e ≡ true) × IsPut old.sink new.sink stay)

-- where it is noted, the output went on, and this alone has stopped it
pub record Halts (old new : Core) : Type 0 where
  pub levels : old.starved ≡ false → new.starved ≡ true
      → (old.sink.status ≡ Going) × ((x : Layout) → Puts old.sink new.sink x)

-- an event was laid out, or refused
abbrev pub next_state : Option Problem → State → State → State
next_state None old new = new
next_state (Some p) old new = record {
  place = at.Refused p;
  levels = old.levels;
  directives = old.directives;
}

abbrev pub next_piece : Option Problem → Layout → Layout
next_piece None a = a
next_piece (Some p) a = stay

-- the text, and the state by the cursor after it, while the output goes on
pub record LaysOut (old new : Core) (e : Event) (empty : Bool) : Type 0 where
  pub settings : new.settings ≡ old.settings
  pub state : new.sink.status ≡ Going
      → state_of new ≡ next_state (problem_at (settings_of old) (state_of old) e) (state_of old)
      (next (settings_of old) (state_of old) e empty new.sink.cursor)
  pub text : Puts old.sink new.sink (next_piece (problem_at (settings_of old) (state_of old) e)
      (piece (settings_of old) (state_of old) e empty))
  pub memory : Notes (takes_memory e) old new
  pub blames : Blames old new e (next_piece (problem_at (settings_of old) (state_of old) e)
      (piece (settings_of old) (state_of old) e empty))

-- what is written for an event, and the state after it, are the same for both answers whether it opens an empty collection
abbrev pub IsSame : Settings → State → Event → Bool → Bool → Type 0
IsSame s st e v w = (piece s st e v ≡ piece s st e w)
    × ((c : Cursor) → next s st e v c ≡ next s st e w c)

-- memory was refused outside the output, which is noted unless the output had stopped before
pub record Starves (old new : Core) : Type 0 where
  pub settings : new.settings ≡ old.settings
  pub place : new.place ≡ old.place
  pub levels : new.levels ≡ old.levels
  pub directives : new.directives ≡ old.directives
  pub starved : new.starved ≡ (is_going old.sink.status || old.starved)
  pub text : (x : Layout) → Puts old.sink new.sink x
  pub stopped : new.sink.status ≢ Going

-- nothing was laid out
pub record IsFreshCore (core : Core) (s : Settings) : Type 0 where
  pub settings : settings_of core ≡ s
  pub state : state_of core ≡ placed at.StreamStart
  pub output : core.sink.bytes ≡ []
  pub status : core.sink.status ≡ Going
  pub cursor : core.sink.cursor ≡ start
  pub starved : core.starved ≡ false

-- no event was refused, and the output goes on
abbrev pub goes_on : Status → Expected → Bool
goes_on s (at.Refused p) = false
goes_on s at.StreamStart = is_going s
goes_on s (at.Documents first unended) = is_going s
goes_on s at.Node = is_going s
goes_on s at.DocumentEnd = is_going s
goes_on s at.End = is_going s
