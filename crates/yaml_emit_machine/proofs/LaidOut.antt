-- What is written event by event is the layout of the stream.
use Rattle.std.proofs.Common.{◌≡◌, List, [], ◌∷◌, None, refl, sym, ◌∙◌, ap}
use Rattle.std.proofs.Math.Path.{fun_ext}
use Rattle.yaml_emit_layout.specs.declared.Cursor.{Cursor}
use Rattle.yaml_emit_layout.specs.declared.Settings.{Settings}
use Rattle.yaml_emit_layout.specs.Layout.{Rest}
use Rattle.yaml_emit_layout.specs.Content.{Event, stream_events}
use Rattle.yaml_emit_layout.specs.Grammar.{own_problems}
use Rattle.yaml_emit_layout.specs.State.{State, opens_empty, piece, next, problem_at}
use Rattle.yaml_emit_layout.specs.ToCome.{ToCome, stream, events, layout}
use Rattle.yaml_emit_layout.specs.ToCome as come
use Rattle.yaml_emit_layout.proofs.LeadsOn.{goes}
use Rattle.yaml_emit_machine.specs.Judged.{laid}
use Rattle.yaml_emit_machine.specs.Laid.{StreamsAreLaid}
use Rattle.yaml_emit_machine.proofs.Ending.{no_event_left}
use Rattle.yaml_emit_machine.proofs.Grammatical.{first_right, right_there}

-- a right event is laid out before those after it
pub laid_on : (s : Settings) (st : State) (e : Event) (es : List Event) (c : Cursor) (f : Rest)
    → problem_at s st e ≡ None
    → laid s st (e ∷ es) c f ≡ piece s st e (opens_empty e es) c
    (λ d. laid s (next s st e (opens_empty e es) d) es d f)
unfolding laid
laid_on s st e es c f h = rw h refl

laid_is : (s : Settings) (es : List Event) (k : ToCome) → es ≡ events k
    → own_problems s.canonical es ≡ None → (c : Cursor) (f : Rest)
    → laid s (come.state_of k) es c f ≡ layout s k c f
unfolding laid layout
laid_is s [] k same right c f = sym (ap (λ z. layout s z c f) (no_event_left k same))
laid_is s (e ∷ es) k same right c f =
    let st : State = come.state_of k in
    let go = goes s e es k same in
    let r = first_right s.canonical e es right in
    laid_on s st e es c f (right_there s st e r.0 go.there)
    ∙ ap (λ (b : Rest). piece s st e (opens_empty e es) c b) (fun_ext (λ (d : Cursor). ap (λ (z : State). laid s z es d f) (go.fits d) ∙ laid_is s es (go.rest d) (go.same d) r.1 d f))
    ∙ sym (go.text c f)

pub streams_are_laid : StreamsAreLaid
unfolding events layout come.state_of
streams_are_laid s x ds right c f = laid_is s (stream_events x ds) (stream x ds) refl right c f
