-- The styles that the content alone decides, of an event as it is read.
use Rattle.std.specs.Prelude.{ℕ, ◌==◌, Bool, true, not, ◌&&◌, if◌then◌else◌, List, Option, None}
use Rattle.yaml_scan_types.specs.Ascii as ascii
use Rattle.yaml_scan_model.specs.declared.name.yaml_scalar_style_t.{yaml_scalar_style_t}
use Rattle.yaml_scan_model.specs.declared.name.yaml_scalar_style_t.TheVariants.{YAML_SINGLE_QUOTED_SCALAR_STYLE, YAML_LITERAL_SCALAR_STYLE}
use Rattle.yaml_scan_model.specs.declared.record.yaml_version_directive_t.{yaml_version_directive_t}
use Rattle.yaml_parse_model.specs.Events.{EventBody, TagDirective}
use Rattle.yaml_emit_layout.specs.Content.{Event}
use Rattle.yaml_emit_layout.specs.Nodes.{has_version, has_directives}
use Rattle.yaml_round_content.specs.Content.{content_of}
use Rattle.yaml_emit_layout.specs.Style.{last_or}
use Rattle.yaml_round_content.specs.Readable.{readable_style}
use Rattle.yaml_round_content.specs.Restyled as restyled
use Rattle.yaml_round_content.specs.Restyled.{mark_by, is_first, is_start, next_position, readable_event}
use Rattle.yaml_round_engine.specs.declared.styles.OpeningPosition.{OpeningPosition}
use Rattle.yaml_round_engine.specs.declared.styles.OpeningPosition.TheVariants as place

abbrev pub position_of : OpeningPosition → restyled.OpeningPosition
position_of place.Before = restyled.Before
position_of place.Starts = restyled.Starts
position_of place.Within = restyled.Within

abbrev pub ends_in_space : List ℕ → Bool
ends_in_space value = last_or 0 value == ascii.space

-- by whether it has a break
abbrev pub quoted_by : Bool → List ℕ → yaml_scalar_style_t
quoted_by broken value = if broken && not (ends_in_space value) then YAML_LITERAL_SCALAR_STYLE
    else YAML_SINGLE_QUOTED_SCALAR_STYLE

abbrev pub style_of : OpeningPosition → Option (List ℕ) → Option (List ℕ) → List ℕ → Bool
    → yaml_scalar_style_t
style_of at anchor tag value plain = readable_style (is_start (position_of at)) anchor
    (mark_by tag plain) value

abbrev pub plain_style : OpeningPosition → Option (List ℕ) → List ℕ → yaml_scalar_style_t
plain_style at anchor value = style_of at anchor None value true

abbrev pub is_unmarked : OpeningPosition → Option yaml_version_directive_t → List TagDirective
    → Bool
is_unmarked at version directives = is_first (position_of at)
    && (not (has_version version) && not (has_directives directives))

-- what is given of a normalized event that is there
abbrev pub styled : restyled.OpeningPosition → EventBody → Event
styled at e = readable_event at (content_of e)

-- where the next one is
abbrev pub behind : restyled.OpeningPosition → EventBody → restyled.OpeningPosition
behind at e = next_position at (content_of e)
