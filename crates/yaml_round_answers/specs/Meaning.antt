-- Which events records mean to an emitter, and which settings.
use Rattle.std.specs.Prelude.{ℕ, Bool, true, false, ◌&&◌, List, [], ◌∷◌, Option, None, Some}
use Rattle.std.specs.Str.{is_utf8}
use Rattle.yaml_parse.specs.Events.{EventBody, TagDirective}
use Rattle.yaml_parse.specs.Events as event
use Rattle.yaml_parse.specs.declared.yaml_break_t.{yaml_break_t}
use Rattle.yaml_parse.specs.declared.yaml_encoding_t.{yaml_encoding_t}
use Rattle.yaml_emit.specs.emit_layout.declared.RequestedSettings.{RequestedSettings}
use Rattle.yaml_round_answers.specs.declared.record.yaml_c_directive.{yaml_c_directive}
use Rattle.yaml_round_answers.specs.declared.record.yaml_c_event.{yaml_c_event}
use Rattle.yaml_round_answers.specs.declared.record.yaml_c_settings.{yaml_c_settings}
use Rattle.yaml_round_answers.specs.Numbers.{is_set, encoding_meant, break_meant}
use Rattle.yaml_round_answers.specs.Records.{body_meant, body_in_front}

-- ---- texts in UTF-8

abbrev pub is_utf8_option : Option (List ℕ) → Bool
is_utf8_option None = true
is_utf8_option (Some t) = is_utf8 t

abbrev pub are_utf8 : List TagDirective → Bool
are_utf8 [] = true
are_utf8 (d ∷ ds) = (is_utf8 d.handle && is_utf8 d.prefix) && are_utf8 ds

-- An event that can be given: it isn't the empty one, and each of its texts is UTF-8.
abbrev pub may_give : EventBody → Bool
may_give event.no = false
may_give (event.stream_start encoding) = true
may_give event.stream_end = true
may_give (event.document_start version directives implicit) = are_utf8 directives
may_give (event.document_end implicit) = true
may_give (event.alias anchor) = is_utf8 anchor
may_give (event.scalar anchor tag value plain quoted style) = is_utf8_option anchor
    && (is_utf8_option tag && is_utf8 value)
may_give (event.sequence_start anchor tag implicit style) = is_utf8_option anchor
    && is_utf8_option tag
may_give event.sequence_end = true
may_give (event.mapping_start anchor tag implicit style) = is_utf8_option anchor
    && is_utf8_option tag
may_give event.mapping_end = true

-- ---- events

abbrev pub given_if : Bool → EventBody → Option EventBody
given_if true b = Some b
given_if false b = None

abbrev pub given : Option EventBody → Option EventBody
given None = None
given (Some b) = given_if (may_give b) b

-- The event that a record means. None where one of its numbers means nothing, a span that is looked at lies outside of what
-- it is a part of, or a text isn't UTF-8.
unfoldable pub event_meant : List ℕ → List yaml_c_directive → yaml_c_event → Option EventBody
event_meant bytes list r = given (body_meant bytes list r)

-- the events that records mean, where each means one
unfoldable pub events_meant : List ℕ → List yaml_c_directive → List yaml_c_event
    → Option (List EventBody)
events_meant bytes list [] = Some []
events_meant bytes list (r ∷ rs) = body_in_front (event_meant bytes list r)
    (events_meant bytes list rs)

-- ---- settings

abbrev pub asked_by : Option yaml_encoding_t → Option yaml_break_t → yaml_c_settings
    → Option (RequestedSettings × ℕ)
asked_by None b given = None
asked_by (Some x) None given = None
asked_by (Some x) (Some b) given = Some (
  record {
    encoding = x;
    canonical = is_set given.canonical;
    indent = given.indent;
    width = given.width;
    unicode = is_set given.unicode;
    line_break = b;
  },
  given.limit,
)

-- The settings and the limit that an emitter is asked for. The numbers are the settings themselves,
-- and any encoding means the one that the stream's start names; where `encoding` or `line_break`
-- means nothing, there are none.
abbrev pub asked_meant : yaml_c_settings → Option (RequestedSettings × ℕ)
asked_meant given = asked_by (encoding_meant given.encoding) (break_meant given.line_break) given
