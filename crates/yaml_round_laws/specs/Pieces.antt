-- An emitter that goes on from call to call: what is known after some events, and what others add to their text.
use Rattle.std.specs.Prelude.{◌≡◌, ◌≤◌, length, List, [], ◌∷◌, ◌++◌}
use Rattle.yaml_emit_layout.specs.declared.Cursor.{Cursor}
use Rattle.yaml_emit_layout.specs.declared.Settings.{Settings}
use Rattle.yaml_emit_layout.specs.Text.{Item}
use Rattle.yaml_emit_layout.specs.Layout.{start, nothing_more}
use Rattle.yaml_emit_layout.specs.declared.Expected.TheVariants as at
use Rattle.yaml_emit_layout.specs.Content.{Event}
use Rattle.yaml_emit_layout.specs.State.{State, placed}
use Rattle.yaml_emit_machine.specs.Judged.{text_from, refusal_behind}

-- All that counts of the events by now: what is expected next, the open collections and the document's directives; where the next
-- character is; and the events that wait for later ones.
pub record Stand : Type 0 where
  pub state : State
  pub cursor : Cursor
  pub held : List Event

-- no event has come
abbrev pub first_stand : Stand
first_stand = record { state = placed at.StreamStart; cursor = start; held = [] }

-- what is written once these events are given too
abbrev pub added : Settings → Stand → List Event → List Item
added s a es = text_from s a.state (a.held ++ es) a.cursor nothing_more

-- The text of a list of events, up to the first one that is refused.
abbrev pub whole : Settings → List Event → List Item
whole s es = added s first_stand es

-- These events lead from one checkpoint to another: whatever follows, their text comes first, and
-- what the others add depends on where they lead; and so does the first event that is refused.
pub record LeadsToStand (s : Settings) (a : Stand) (es : List Event) (b : Stand) : Type 0 where
  pub texts : (more : List Event) → added s a (es ++ more) ≡ added s a es ++ added s b more
  pub refusals : (more : List Event) → refusal_behind s a.state (a.held ++ (es ++ more))
      ≡ refusal_behind s b.state (b.held ++ more)

-- Those that wait are the last of these, at most three, and the caller can give them again.
pub record Waits (a : Stand) (es : List Event) (b : Stand) : Type 0 where
  pub few : length b.held ≤ 3
  pub front : List Event
  pub last : a.held ++ es ≡ front ++ b.held

-- lists one after another
unfoldable pub joined : {A : Type 0} → List (List A) → List A
joined [] = []
joined (x ∷ xs) = x ++ joined xs

-- The pieces of a list are given one after another, each from where the one before it leads, and these are the texts.
pub data Cuts (s : Settings) : Stand → List (List Event) → List (List Item) → Type 0 where
  no_piece : (a : Stand) → Cuts s a [] []
  piece : (a b : Stand) (es : List Event) (pieces : List (List Event)) (texts : List (List Item))
      → LeadsToStand s a es b → Cuts s b pieces texts
      → Cuts s a (es ∷ pieces) (added s a es ∷ texts)

-- Whatever follows, it adds the same.
abbrev pub Alike : Settings → Stand → Stand → Type 0
Alike s a b = (more : List Event) → added s a more ≡ added s b more
