-- What an emitter's output ends as, with the events that follow.
use Rattle.std.specs.Prelude.{◌≡◌, List, [], None}
use Rattle.yaml_emit_layout.specs.declared.Settings.{Settings}
use Rattle.yaml_emit_layout.specs.declared.Status.{Status}
use Rattle.yaml_emit_layout.specs.declared.Status.TheVariants.{Going, Full, Deep, Starved}
use Rattle.yaml_emit_layout.specs.Text.{Item}
use Rattle.yaml_emit_layout.specs.Layout.{nothing_more}
use Rattle.yaml_emit_layout.specs.Sink.{Output, Ends}
use Rattle.yaml_emit_layout.specs.Content.{Event}
use Rattle.yaml_emit_layout.specs.Grammar.{own_problems}
use Rattle.yaml_emit_layout.specs.State.{State}
use Rattle.yaml_emit_layout.specs.ToCome.{ToCome, events, layout}
use Rattle.yaml_emit_layout.specs.ToCome as come

-- the events are those of some rest of a stream, nothing is wrong in them, and its text is still to come
pub record FinishesBy (s : Settings) (st : State) (o : Output) (es : List Event)
    (whole : List Item) : Type 0 where
  pub rest : ToCome
  pub fits : st ≡ come.state_of rest
  pub same : es ≡ events rest
  pub right : own_problems s.canonical es ≡ None
  pub ends : Ends o (layout s rest o.cursor nothing_more) whole

-- after a limit or out of memory, the output is a first part of the text
abbrev pub FinishesAt : Status → Settings → State → Output → List Event → List Item → Type 0
FinishesAt Going s st o es whole = FinishesBy s st o es whole
FinishesAt Full s st o es whole = Ends o [] whole
FinishesAt Deep s st o es whole = Ends o [] whole
FinishesAt Starved s st o es whole = Ends o [] whole

-- In these settings, from this state and after this output, with these events to come, the text is `whole`.
unfoldable pub Finishes : Settings → State → Output → List Event → List Item → Type 0
Finishes s st o es whole = FinishesAt o.status s st o es whole
