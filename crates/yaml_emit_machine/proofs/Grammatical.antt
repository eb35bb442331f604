-- Of a stream in which nothing is wrong no event is refused.
use Rattle.std.proofs.Common.{◌≡◌, List, [], ◌∷◌, ◌++◌, Bool, refl, sym, ◌∙◌, ap, None}
use Rattle.yaml_emit_layout.specs.declared.Settings.{Settings}
use Rattle.yaml_emit_layout.specs.Layout.{start}
use Rattle.yaml_emit_layout.specs.Content.{Event}
use Rattle.yaml_emit_layout.specs.Grammar.{event_problem, last_problem, place_problem, problem_by, own_problem, own_problems}
use Rattle.yaml_emit_layout.specs.State.{State, opens_empty, problem_at, top_of}
use Rattle.yaml_emit_layout.specs.ToCome.{ToCome, stream, events}
use Rattle.yaml_emit_layout.specs.ToCome as come
use Rattle.yaml_emit_layout.proofs.LeadsOn.{goes}
use Rattle.yaml_emit_layout.specs.Progress.{progress_after, problem_in, first_refusal, PassesStreams}
use Rattle.yaml_emit_machine.specs.Judged.{shape_of}
use Rattle.yaml_emit_machine.proofs.Judging.{or_none, same_problem, shape_next}
use Rattle.yaml_emit_core.proofs.Finishing.{or_else_none}

-- Of events whose contents are right the first is, and so are the others.
pub first_right : (canonical : Bool) (e : Event) (es : List Event)
    → own_problems canonical (e ∷ es) ≡ None
    → (own_problem canonical e ≡ None) × (own_problems canonical es ≡ None)
unfolding own_problems
first_right canonical e es h = or_else_none (own_problem canonical e) (own_problems canonical es) h

-- An event whose content is right, in a place that takes it, is no problem.
pub right_there : (s : Settings) (st : State) (e : Event) → own_problem s.canonical e ≡ None
    → place_problem st.place (top_of st.levels) e ≡ None → problem_at s st e ≡ None
unfolding problem_by
right_there s st e h k =
    let r = or_else_none (event_problem s.canonical e) (last_problem e) h in
    or_none (event_problem s.canonical e) _ r.0 ∙ (or_none (place_problem st.place (top_of st.levels) e) _ k ∙ r.1)

no_refusal : (s : Settings) (es more : List Event) (k : ToCome) → es ++ more ≡ events k
    → own_problems s.canonical (es ++ more) ≡ None
    → first_refusal s.canonical (shape_of (come.state_of k)) es ≡ None
unfolding first_refusal
no_refusal s [] more k same right = refl
no_refusal s (e ∷ es) more k same right =
    let st : State = come.state_of k in
    let go = goes s e (es ++ more) k same in
    let r = first_right s.canonical e (es ++ more) right in
    let there : problem_in s.canonical (shape_of st) e ≡ None = sym (same_problem s st e) ∙ right_there s st e r.0 go.there in
    let shape : progress_after (shape_of st) e ≡ shape_of (come.state_of (go.rest start)) =
    sym (shape_next s st e (opens_empty e (es ++ more)) start) ∙ ap shape_of (go.fits start) in
    or_none _ _ there ∙ (ap (λ z. first_refusal s.canonical z es) shape ∙ no_refusal s es more (go.rest start) (go.same start) r.1)

pub passes_streams : PassesStreams
unfolding events come.state_of
passes_streams s x ds es more same right = no_refusal s es more (stream x ds) same right
