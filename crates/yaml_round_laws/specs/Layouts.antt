-- What is written for lists of events, said by the trees of the streams that they begin.
use Rattle.std.specs.Prelude.{◌≡◌, Bool, true, not, List, [], ◌∷◌, ◌++◌, Some, None}
use Rattle.yaml_emit_layout.specs.scan_model.declared.name.yaml_encoding_t.{yaml_encoding_t}
use Rattle.yaml_emit_layout.specs.declared.Settings.{Settings}
use Rattle.yaml_emit_layout.specs.Text.{Item}
use Rattle.yaml_emit_layout.specs.Layout.{written}
use Rattle.yaml_emit_layout.specs.declared.Expected.TheVariants as at
use Rattle.yaml_emit_layout.specs.declared.Problem.{Problem}
use Rattle.yaml_emit_layout.specs.Content.{Document, Event, stream_events}
use Rattle.yaml_emit_layout.specs.Grammar.{own_problems}
use Rattle.yaml_emit_layout.specs.Nodes.{stream_layout}
use Rattle.yaml_emit_layout.specs.Progress.{first_progress, first_refusal}
use Rattle.yaml_emit_layout.specs.State.{placed, opens_empty}
use Rattle.yaml_emit_machine.specs.Judged.{laid}
use Rattle.yaml_round_laws.specs.Pieces.{whole}

-- All that is written for the events of a list, those that still wait too.
abbrev pub all_written : Settings → List Event → List Item
all_written s es = written (laid s (placed at.StreamStart) es)

-- these events, with others after them, are those of a stream of these documents, in which nothing is wrong
pub record BeginsStream (s : Settings) (es more : List Event) (ds : List Document) : Type 0 where
  pub encoding : yaml_encoding_t
  pub same : es ++ more ≡ stream_events encoding ds
  pub right : own_problems s.canonical (es ++ more) ≡ None

-- The text of a whole stream is the layout of its documents.
abbrev pub StreamsAreLayouts : Type 0
StreamsAreLayouts = (s : Settings) (es : List Event) (ds : List Document) → BeginsStream s es [] ds
    → (whole s es ≡ written (stream_layout s ds))
    × (all_written s es ≡ written (stream_layout s ds))

-- What is written for the first of its events is a front of that, whichever stream it is that they begin.
abbrev pub FrontsAreOfLayouts : Type 0
FrontsAreOfLayouts = (s : Settings) (es more : List Event) (ds : List Document)
    → BeginsStream s es more ds
    → (rest : List Item) × (written (stream_layout s ds) ≡ whole s es ++ rest)

-- the last event of a list doesn't open a collection that the first of the others closes
abbrev pub stays_open : List Event → List Event → Bool
stays_open [] more = true
stays_open (e ∷ []) more = not (opens_empty e more)
stays_open (e ∷ f ∷ es) more = stays_open (f ∷ es) more

-- And so is all that is written for them, but where the next one closes at once what the last of them opens.
abbrev pub AllIsOfLayouts : Type 0
AllIsOfLayouts = (s : Settings) (es more : List Event) (ds : List Document)
    → BeginsStream s es more ds → stays_open es more ≡ true
    → (rest : List Item) × (written (stream_layout s ds) ≡ all_written s es ++ rest)

-- An event that is wrong after others adds nothing to what is written for them, and neither does what follows it.
abbrev pub WrongAddNothing : Type 0
WrongAddNothing = (s : Settings) (es : List Event) (e : Event) (more : List Event) (p : Problem)
    → first_refusal s.canonical first_progress es ≡ None
    → first_refusal s.canonical first_progress (es ++ e ∷ []) ≡ Some p
    → all_written s (es ++ e ∷ more) ≡ all_written s es
