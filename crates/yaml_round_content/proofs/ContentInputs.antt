-- What an input says is a stream in which nothing is wrong.
use Rattle.std.proofs.Common.{◌≡◌, ◌||◌, ℕ, List, map, Bool, true, false, Option, None, refl, inl, inr}
use Rattle.yaml_round_content.proofs.Words.{yaml_encoding_t, yaml_scalar_style_t, IsEmittable, IsNormalized, IsNormalizing, is_lone_mark, normalize_scalar, normalize_body, emitter_events, events_of, ending_of, read, InputsHaveContent, InputsSayFronts}
use Rattle.yaml_parse_model.specs.Events as event
use Rattle.yaml_round_content.proofs.StreamsInputs.{inputs_are_streams, inputs_are_fronts}
use Rattle.yaml_round_content.proofs.Trees.{core, document_trees, stream_trees, front_trees}

-- evening changes nothing but a document's end, or a scalar's tag
scalar_normalized : (lone : Bool) (anchor tag : Option (List ℕ)) (value : List ℕ)
    (plain quoted : Bool) (style : yaml_scalar_style_t)
    → IsNormalized (event.scalar anchor tag value plain quoted style)
    (normalize_scalar lone anchor tag value plain quoted style)
scalar_normalized true anchor tag value plain quoted style = inr refl
scalar_normalized false anchor tag value plain quoted style = inl refl

evenly : (ends : Bool) → IsNormalizing (normalize_body ends)
evenly ends (event.document_end implicit) = (implicit || ends, refl)
evenly ends (event.scalar anchor tag value plain quoted style) = scalar_normalized (is_lone_mark tag value) anchor tag value plain quoted style
evenly ends _ = refl

pub input_stream : (from : yaml_encoding_t) (input : List ℕ) (canonical : Bool)
    → ending_of from input ≡ None
    → IsEmittable canonical (emitter_events canonical (events_of from input))
unfolding read
input_stream from input canonical r = inputs_are_streams (normalize_body canonical) (evenly canonical) from input canonical r

pub have_content : InputsHaveContent
have_content from input r =
    let s = input_stream from input true r in
    (document_trees s.documents, record { right = r; says = stream_trees (events_of from input) s.encoding s.documents s.same })

pub say_fronts : InputsSayFronts
unfolding read
say_fronts from input =
    let s = inputs_are_fronts (normalize_body true) (evenly true) from input true in
    record { content = document_trees s.whole.documents; rest = map core s.more; same = front_trees (events_of from input) s.more s.whole.encoding s.whole.documents s.whole.same }
