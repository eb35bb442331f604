-- The flags of an input's normalized events, and layouts without a premise on them.
use Rattle.std.proofs.Common.{ℕ, Bool, true, false, List, [], ◌∷◌, Option, Some, None, refl}
use Rattle.yaml_round_content.proofs.Words.{yaml_scalar_style_t, EventBody, Told, emitter_event, is_lone_mark, normalize_scalar, normalize_body, emitter_events, events_of, AreFlagged, LayoutIsOfContent, ContentIsLaidOut, IsFlagged, InputsAreFlagged, LayoutIsOfInputsContent, InputsContentIsLaidOut}
use Rattle.yaml_parse_model.specs.Events as event
use Rattle.yaml_round_content.proofs.Scalars.{IsScalarRight, IsRight, AreRight, input_right}

scalar_flagged : (lone : Bool) (anchor tag : Option (List ℕ)) (value : List ℕ) (plain quoted : Bool)
    (style : yaml_scalar_style_t) → IsScalarRight tag value plain quoted
    → IsFlagged (emitter_event (normalize_scalar lone anchor tag value plain quoted style))
scalar_flagged true anchor tag value plain quoted style h = λ e. refl
scalar_flagged false anchor None value plain quoted style h = λ e. h
scalar_flagged false anchor (Some t) value plain quoted style h = λ e. absurd cc

body_flagged : (b : EventBody) → IsRight b → IsFlagged (emitter_event (normalize_body true b))
body_flagged (event.scalar anchor tag value plain quoted style) h = scalar_flagged (is_lone_mark tag value) anchor tag value plain quoted style h
body_flagged _ h = tt

told_flagged : (ts : List Told) → AreRight ts → AreFlagged (emitter_events true ts)
told_flagged [] h = tt
told_flagged (t ∷ ts) h = (body_flagged t.0.body h.0, told_flagged ts h.1)

pub are_flagged : InputsAreFlagged
are_flagged from input = told_flagged (events_of from input) (input_right from input)

-- ---- layouts

-- An input's layout is its content's.
pub layout_of_input : LayoutIsOfContent → LayoutIsOfInputsContent
layout_of_input layouts w right from input c has x whole is = layouts w right (events_of from input) (are_flagged from input) c has.says x whole is

-- An input's content is laid out, since each content is.
pub input_laid_out : ContentIsLaidOut → InputsContentIsLaidOut
input_laid_out laid w right from input c has = laid w right from input (are_flagged from input) c has
