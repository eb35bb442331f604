-- The events of a list of well spelled tokens, from the first to the last.
use Rattle.std.proofs.Common.{◌≡◌, Bool, List, [], ◌∷◌, Option, None, refl, sym, ap, subst, ◌∙◌}
use Rattle.yaml_round_content.proofs.Words.{Fault, EventBody, Given, run, initial, Directives, no_directives, Settled, refused, gave, noted, settle, Reading, read_on, reading, emitter_event, Progress, first_progress, progress_after, problem_in, IsNormalizing, emitter_events_by, first_refusal, progress_behind, ParsedIsRight}
use Rattle.yaml_emit_laws.specs.emit_layout.declared.Expected.TheVariants as at
use Rattle.yaml_round_content.proofs.Stacks.{moved}
use Rattle.yaml_round_content.proofs.Runs.{GivenPlaced, moved_given, GivenSpelled, stream_places, stream_spelled}
use Rattle.yaml_round_content.proofs.Emitted.{plain, plain_same, not_end, normalized_own, no_problem}
use Rattle.yaml_round_content.proofs.Settling.{PlacedSettled, OwnSettled, AreDirectives, none_right, settled_placed, settled_own}
use Rattle.yaml_emit_laws.proofs.Passing.{or_none}

-- None of the events is refused; where no fault ends them, none has ended the items either, and they lead to that shape.
abbrev Passes : (EventBody → EventBody) → Bool → Progress → Option Fault → Progress → Reading
    → Type 0
Passes normalize canonical h f to r =
    (first_refusal canonical h (emitter_events_by normalize r.events) ≡ None) × (r.ending ≡ None → (f ≡ None) × (plain (progress_behind h (emitter_events_by normalize r.events)) ≡ to))

on_passes : (normalize : EventBody → EventBody) → IsNormalizing normalize
    → (canonical : Bool) (h : Progress) (f : Option Fault) (to : Progress) (c : Settled) (g : Given)
    (k : Directives → Reading)
    → PlacedSettled normalize h g.0.body c → OwnSettled canonical c
    → ((h' : Progress) (ds : Directives) → plain h' ≡ moved (plain h) g.0.body → AreDirectives ds
    → Passes normalize canonical h' f to (k ds))
    → Passes normalize canonical h f to (read_on c g.0 g.1 k)
unfolding first_refusal progress_behind
on_passes normalize e canonical h f to (refused x) g k p o more = (refl, λ d. absurd cc)
on_passes normalize e canonical h f to (gave b ds) g k p o more =
    let rest : Passes normalize canonical (progress_after h (emitter_event (normalize b))) f to (k ds) = more (progress_after h (emitter_event (normalize b))) ds p.1 o.1 in
    (or_none (problem_in canonical h (emitter_event (normalize b))) _ (no_problem canonical h (normalize b) p.0 (normalized_own canonical b (normalize b) (e b) o.0)) rest.0, rest.1)
on_passes normalize e canonical h f to (noted ds) g k p o more = more h ds (sym p) o

all_pass : (normalize : EventBody → EventBody) → IsNormalizing normalize
    → (canonical : Bool) (h : Progress) (gs : List Given) (f : Option Fault) (ds : Directives)
    → GivenPlaced (plain h) gs → GivenSpelled gs → AreDirectives ds
    → Passes normalize canonical h f (moved_given (plain h) gs) (reading gs f ds)
unfolding reading first_refusal progress_behind
all_pass normalize e canonical h [] f ds p s d = (refl, λ n. (n, refl))
all_pass normalize e canonical h (g ∷ gs) f ds p s d =
    on_passes normalize e canonical h f (moved_given (plain h) (g ∷ gs)) (settle g.0 ds) g (λ ds'. reading gs f ds') (settled_placed normalize e h g.0.body g.0.from ds p.0) (settled_own canonical g.0.body g.0.from ds s.0 d)
    (λ h' ds' m d'. subst (λ (z : Progress). Passes normalize canonical h' f (moved_given z gs) (reading gs f ds')) m
    (all_pass normalize e canonical h' gs f ds' (subst (λ (z : Progress). GivenPlaced z gs) (sym m) p.1) s.1 d'))

pub parsed_is_right : ParsedIsRight
parsed_is_right normalize e ts a f canonical =
    let places = stream_places ts f in
    let r = all_pass normalize e canonical first_progress (run ts initial f).items (run ts initial f).ending no_directives places.0 (stream_spelled ts f a) none_right in
    record {
      passes = r.0;
      ends = λ n. plain_same _ at.End not_end (ap (λ (z : Progress). z.place) ((r.1 n).1 ∙ places.1 (r.1 n).0));
    }
