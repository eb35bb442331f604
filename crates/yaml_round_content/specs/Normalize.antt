-- Events normalized for writing.
use Rattle.std.specs.Prelude.{ℕ, Bool, true, false, ◌&&◌, ◌||◌, ◌==◌, List, length, slice_index, Option, Some, None}
use Rattle.yaml_parse_model.specs.scan_types.Ascii as ascii
use Rattle.yaml_parse_model.specs.scan_model.declared.name.yaml_scalar_style_t.{yaml_scalar_style_t}
use Rattle.yaml_parse_model.specs.Events.{EventBody}
use Rattle.yaml_parse_model.specs.Events as event

-- an empty scalar with the tag `!`
abbrev pub is_lone_mark : Option (List ℕ) → List ℕ → Bool
is_lone_mark None value = false
is_lone_mark (Some tag) value =
    (length value == 0 && length tag == 1) && slice_index tag 0 == ascii.exclamation

-- a scalar, untagged and plain-implicit where it is empty and has the tag `!`
abbrev pub normalize_scalar : Bool → Option (List ℕ) → Option (List ℕ) → List ℕ → Bool → Bool
    → yaml_scalar_style_t → EventBody
normalize_scalar true anchor tag value plain quoted style = event.scalar anchor None value true
    false style
normalize_scalar false anchor tag value plain quoted style = event.scalar anchor tag value plain
    quoted style

-- the event normalized; `ends`: every document's end is implicit
abbrev pub normalize_body : Bool → EventBody → EventBody
normalize_body ends (event.document_end implicit) = event.document_end (implicit || ends)
normalize_body ends (event.scalar anchor tag value plain quoted style) = normalize_scalar
    (is_lone_mark tag value) anchor tag value plain quoted style
normalize_body ends other = other
