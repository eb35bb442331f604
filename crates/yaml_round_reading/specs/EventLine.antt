-- The line of an event.
use Rattle.std.specs.Prelude.{ℕ, Bool, true, false, ◌==◌, if◌then◌else◌, List, [], ◌∷◌, ◌++◌, Option, Some, None, codes}
use Rattle.std.specs.List.{flat_map}
use Rattle.yaml_scan_model.specs.scan_types.Ascii as ascii
use Rattle.yaml_scan_model.specs.declared.name.yaml_scalar_style_t.{yaml_scalar_style_t}
use Rattle.yaml_scan_model.specs.declared.name.yaml_scalar_style_t.TheVariants as style
use Rattle.yaml_parse_model.specs.Events.{EventBody}
use Rattle.yaml_parse_model.specs.Events as event

-- A byte of a tag or a value: a backslash, and 00, 08, 09, 0A and 0D, are a backslash and a letter.
unfoldable pub escaped_byte : ℕ → List ℕ
escaped_byte b =
    if b == ascii.backslash then ascii.backslash ∷ ascii.backslash ∷ []
    else if b == 0 then ascii.backslash ∷ ascii.digit_zero ∷ []
    else if b == ascii.backspace then ascii.backslash ∷ ascii.small_b ∷ []
    else if b == ascii.tab then ascii.backslash ∷ ascii.small_t ∷ []
    else if b == ascii.line_feed then ascii.backslash ∷ ascii.small_n ∷ []
    else if b == ascii.carriage_return then ascii.backslash ∷ ascii.small_r ∷ []
    else b ∷ []

abbrev pub escaped : List ℕ → List ℕ
escaped text = flat_map escaped_byte text

-- ` &anchor`, where there is one
abbrev pub anchor_part : Option (List ℕ) → List ℕ
anchor_part None = []
anchor_part (Some anchor) = codes " &" ++ anchor

-- ` <tag>`, where there is one
abbrev pub tag_part : Option (List ℕ) → List ℕ
tag_part None = []
tag_part (Some tag) = codes " <" ++ escaped tag ++ codes ">"

-- the style's indicator
abbrev pub indicator_of : yaml_scalar_style_t → ℕ
indicator_of style.YAML_ANY_SCALAR_STYLE = ascii.colon
indicator_of style.YAML_PLAIN_SCALAR_STYLE = ascii.colon
indicator_of style.YAML_SINGLE_QUOTED_SCALAR_STYLE = ascii.apostrophe
indicator_of style.YAML_DOUBLE_QUOTED_SCALAR_STYLE = ascii.quote
indicator_of style.YAML_LITERAL_SCALAR_STYLE = ascii.bar
indicator_of style.YAML_FOLDED_SCALAR_STYLE = ascii.greater

-- what an explicit document mark adds
abbrev pub mark_part : Bool → List ℕ → List ℕ
mark_part true mark = []
mark_part false mark = mark

-- the line without its end; the empty event has none
abbrev pub event_text : EventBody → List ℕ
event_text event.no = []
event_text (event.stream_start encoding) = codes "+STR"
event_text event.stream_end = codes "-STR"
event_text (event.document_start version directives implicit) = codes "+DOC" ++ mark_part implicit
    (codes " ---")
event_text (event.document_end implicit) = codes "-DOC" ++ mark_part implicit (codes " ...")
event_text (event.alias anchor) = codes "=ALI *" ++ anchor
event_text (event.scalar anchor tag value plain quoted style) = codes "=VAL" ++ anchor_part anchor
    ++ tag_part tag ++ (ascii.space ∷ indicator_of style ∷ []) ++ escaped value
event_text (event.sequence_start anchor tag implicit style) = codes "+SEQ" ++ anchor_part anchor
    ++ tag_part tag
event_text event.sequence_end = codes "-SEQ"
event_text (event.mapping_start anchor tag implicit style) = codes "+MAP" ++ anchor_part anchor
    ++ tag_part tag
event_text event.mapping_end = codes "-MAP"

abbrev pub event_line : EventBody → List ℕ
event_line body = event_text body ++ ascii.line_feed ∷ []
