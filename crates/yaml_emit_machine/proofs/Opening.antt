-- Whether an event opens an empty collection.
use Rattle.std.proofs.Common.{◌≡◌, List, [], ◌∷◌, false, refl}
use Rattle.yaml_emit_layout.specs.Content.{Event, sequence_start, mapping_start}
use Rattle.yaml_emit_layout.specs.State.{opens_empty, closes_by}

-- no event opens an empty collection at the end
pub opens_none : (e : Event) → opens_empty e [] ≡ false
unfolding opens_empty
opens_none (sequence_start p) = refl
opens_none (mapping_start p) = refl
opens_none _ = refl

pub opens_first : (e f : Event) (es : List Event) → opens_empty e (f ∷ es) ≡ closes_by e f
unfolding opens_empty
opens_first (sequence_start p) f es = refl
opens_first (mapping_start p) f es = refl
opens_first _ f es = refl
