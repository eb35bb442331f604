-- The events of an input.
use Rattle.std.proofs.Common.{◌≡◌, ℕ, Bool, true, List, [], ◌∷◌, None}
use Rattle.yaml_parse_model.specs.declared.yaml_encoding_t.{yaml_encoding_t}
use Rattle.yaml_round_content.proofs.Words.{scanned, EventBody, Told, emitter_event, own_problem, own_problems, first_progress, adapted, IsNormalizing, emitter_events_by, AreRightTold, streams, fronts, own_right, or_both, IsRightReading, parsed_input, InputsAreStreams, InputsAreFronts, InputsLoadRight}
use Rattle.yaml_scan_laws.proofs.Inputs.{scanned_spelled}
use Rattle.yaml_emit_laws.proofs.Loading.{taken}
use Rattle.yaml_round_content.proofs.Tokens.{cut_spelled}
use Rattle.yaml_round_content.proofs.Emitted.{unchanged}
use Rattle.yaml_round_content.proofs.Whole.{parsed_is_right}

-- ---- its tokens

-- ---- its events

input_right : (normalize : EventBody → EventBody) → IsNormalizing normalize
    → (from : yaml_encoding_t) (input : List ℕ) (canonical : Bool)
    → IsRightReading canonical (emitter_events_by normalize (parsed_input from input).events)
    (parsed_input from input).ending
input_right normalize e from input canonical = parsed_is_right normalize e (adapted (scanned from input)).tokens (cut_spelled (scanned from input).fault (scanned from input).tokens (scanned_spelled from input)) (adapted (scanned from input)).fault canonical

pub inputs_are_streams : InputsAreStreams
inputs_are_streams normalize e from input canonical n =
    let r = input_right normalize e from input canonical in
    streams canonical (emitter_events_by normalize (parsed_input from input).events) r.passes (r.ends n)

pub inputs_are_fronts : InputsAreFronts
inputs_are_fronts normalize e from input canonical = fronts canonical (emitter_events_by normalize (parsed_input from input).events) (input_right normalize e from input canonical).passes

-- ---- as a loader takes them

told_right : (ts : List Told)
    → own_problems true (emitter_events_by (λ (b : EventBody). b) ts) ≡ None → AreRightTold ts
unfolding own_problems
told_right [] h = tt
told_right (t ∷ ts) h =
    let both = or_both (own_problem true (emitter_event t.0.body)) (own_problems true (emitter_events_by (λ (b : EventBody). b) ts)) h in
    (taken t.0.body both.0, told_right ts both.1)

pub inputs_load_right : InputsLoadRight
inputs_load_right from input =
    told_right (parsed_input from input).events
    (own_right true first_progress (emitter_events_by (λ (b : EventBody). b) (parsed_input from input).events) (input_right (λ (b : EventBody). b) unchanged from input true).passes)
