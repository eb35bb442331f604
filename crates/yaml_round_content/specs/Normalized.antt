-- How a parser's events may be changed on their way to an emitter.
use Rattle.std.specs.Prelude.{◌≡◌, ◌⊎◌, Bool, true, false, None}
use Rattle.yaml_parse_model.specs.Events.{EventBody}
use Rattle.yaml_parse_model.specs.Events as event

-- Another mark for a document's end, or a scalar that gives up its tag and is plain-implicit; nothing else is changed.
abbrev pub IsNormalized : EventBody → EventBody → Type 0
IsNormalized (event.document_end implicit) new = (ends : Bool) × (new ≡ event.document_end ends)
IsNormalized (event.scalar anchor tag value plain quoted style) new =
    (new ≡ event.scalar anchor tag value plain quoted style)
    ⊎ (new ≡ event.scalar anchor None value true false style)
IsNormalized old new = new ≡ old

abbrev pub IsNormalizing : (EventBody → EventBody) → Type 0
IsNormalizing normalize = (b : EventBody) → IsNormalized b (normalize b)
