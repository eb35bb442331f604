-- Calls of an emitter that continues: each is given the events that wait before its own, and
-- returns its text in bytes.
use Rattle.std.specs.Prelude.{◌≡◌, ℕ, List, [], ◌∷◌, ◌++◌}
use Rattle.yaml_emit_layout.specs.declared.Encoding.{Encoding}
use Rattle.yaml_emit_layout.specs.declared.Settings.{Settings}
use Rattle.yaml_emit_layout.specs.Text.{encode}
use Rattle.yaml_emit_layout.specs.Layout.{written}
use Rattle.yaml_emit_layout.specs.declared.Expected.TheVariants as at
use Rattle.yaml_emit_layout.specs.Content.{Event}
use Rattle.yaml_emit_layout.specs.State.{placed}
use Rattle.yaml_emit_machine.specs.Judged.{let_out, laid, refusal_behind}
use Rattle.yaml_round_laws.specs.Pieces.{Stand, first_stand, added, joined}

-- These events lead from one checkpoint to another, as far as the bytes show: whatever follows,
-- those of their text come first, and what the others add depends on where they lead; and so does
-- the first event that is rejected.
pub record LeadsIn (x : Encoding) (s : Settings) (a : Stand) (es : List Event) (b : Stand) : Type 0
  where
    pub bytes : (more : List Event)
        → encode x (added s a (es ++ more)) ≡ encode x (added s a es) ++ encode x (added s b more)
    pub refusals : (more : List Event) → refusal_behind s a.state (a.held ++ (es ++ more))
        ≡ refusal_behind s b.state (b.held ++ more)

-- The checkpoint with nothing held: the events that wait there are given again.
abbrev pub taken_up : Stand → Stand
taken_up a = record { state = a.state; cursor = a.cursor; held = [] }

-- The pieces of a list are given one after another, each after the events that wait where the one before it leads. These are the
-- bytes of their texts, and there the last one leads.
pub data Calls (x : Encoding) (s : Settings) : Stand → List (List Event) → List (List ℕ) → Stand
    → Type 0 where
  no_call : (a : Stand) → Calls x s a [] [] a
  call : (a b c : Stand) (es : List Event) (pieces : List (List Event)) (texts : List (List ℕ))
      → LeadsIn x s (taken_up a) (a.held ++ es) b → Calls x s b pieces texts c
      → Calls x s a (es ∷ pieces) (encode x (added s (taken_up a) (a.held ++ es)) ∷ texts) c

-- However a list is cut, the texts of the calls are one after another the text of the whole, and what follows is refused as it is
-- after the whole.
abbrev pub CallsAreWholes : Type 0
CallsAreWholes = (x : Encoding) (s : Settings) (pieces : List (List Event)) (texts : List (List ℕ))
    (b : Stand) → Calls x s first_stand pieces texts b
    → (joined texts ≡ encode x (written (laid s (placed at.StreamStart) (let_out (joined pieces)))))
    × ((more : List Event) → refusal_behind s (placed at.StreamStart) (joined pieces ++ more)
    ≡ refusal_behind s b.state (b.held ++ more))
