-- What records of events mean, over a block of bytes and a list of directives.
use Rattle.std.specs.Prelude.{◌≡◌, ◌+◌, ℕ, ℤ, Bool, true, false, if◌then◌else◌, List, [], ◌∷◌, length, slice_range, nat_le, Option, None, Some, option_map, pos}
use Rattle.std.specs.Option.{is_some}
use Rattle.yaml_parse.specs.declared.yaml_event_type_t.{yaml_event_type_t}
use Rattle.yaml_parse.specs.declared.yaml_event_type_t.TheVariants as kind
use Rattle.yaml_parse.specs.declared.yaml_scalar_style_t.{yaml_scalar_style_t}
use Rattle.yaml_parse.specs.declared.yaml_sequence_style_t.{yaml_sequence_style_t}
use Rattle.yaml_parse.specs.declared.yaml_mapping_style_t.{yaml_mapping_style_t}
use Rattle.yaml_parse.specs.declared.yaml_mark_t.{yaml_mark_t}
use Rattle.yaml_parse.specs.declared.yaml_version_directive_t.{yaml_version_directive_t}
use Rattle.yaml_parse.specs.Events.{Event, EventBody, TagDirective}
use Rattle.yaml_parse.specs.Events as event
use Rattle.yaml_round_answers.specs.declared.record.yaml_c_mark.{yaml_c_mark}
use Rattle.yaml_round_answers.specs.declared.record.yaml_c_span.{yaml_c_span}
use Rattle.yaml_round_answers.specs.declared.record.yaml_c_directive.{yaml_c_directive}
use Rattle.yaml_round_answers.specs.declared.record.yaml_c_event.{yaml_c_event}
use Rattle.yaml_round_answers.specs.Numbers.{is_set, is_there, flag_told, encoding_meant, kind_meant, scalar_style_meant, sequence_style_meant, mapping_style_meant}

-- a mark as C reads it, before which no character is counted yet
abbrev pub mark_told : yaml_mark_t → yaml_c_mark
mark_told m = record { index = m.index; line = m.line; column = m.column; character = 0 }

-- ---- texts and directives

-- the part of a list that a span names, where it lies within it
unfoldable pub part_at : {X : Type 0} → List X → yaml_c_span → Option (List X)
part_at xs s =
    if nat_le (s.at + s.len) (length xs) then Some (slice_range xs s.at (s.at + s.len)) else None

abbrev pub optional : Bool → Option (List ℕ) → Option (Option (List ℕ))
optional false t = Some None
optional true None = None
optional true (Some t) = Some (Some t)

-- a text that may be left out, as its flag says
abbrev pub optional_at : List ℕ → ℤ → yaml_c_span → Option (Option (List ℕ))
optional_at bytes has s = optional (is_there has) (part_at bytes s)

abbrev pub directive_by : Option (List ℕ) → Option (List ℕ) → Option TagDirective
directive_by None p = None
directive_by (Some h) None = None
directive_by (Some h) (Some p) = Some (record { handle = h; prefix = p })

abbrev pub directive_at : List ℕ → yaml_c_directive → Option TagDirective
directive_at bytes d = directive_by (part_at bytes d.handle) (part_at bytes d.prefix)

abbrev pub in_front : Option TagDirective → Option (List TagDirective) → Option (List TagDirective)
in_front None ds = None
in_front (Some d) None = None
in_front (Some d) (Some ds) = Some (d ∷ ds)

unfoldable pub all_directives : List ℕ → List yaml_c_directive → Option (List TagDirective)
all_directives bytes [] = Some []
all_directives bytes (d ∷ ds) = in_front (directive_at bytes d) (all_directives bytes ds)

abbrev pub directives_in : List ℕ → Option (List yaml_c_directive) → Option (List TagDirective)
directives_in bytes None = None
directives_in bytes (Some ds) = all_directives bytes ds

abbrev pub directives_at : List ℕ → List yaml_c_directive → yaml_c_span
    → Option (List TagDirective)
directives_at bytes list s = directives_in bytes (part_at list s)

-- ---- events

abbrev pub version_by : Bool → yaml_c_event → Option yaml_version_directive_t
version_by false r = None
version_by true r = Some (record { major = r.major; minor = r.minor })

abbrev pub document_by : Option (List TagDirective) → yaml_c_event → Option EventBody
document_by None r = None
document_by (Some ds) r = Some
    (event.document_start (version_by (is_set r.has_version) r) ds (is_set r.implicit))

abbrev pub scalar_by : Option (Option (List ℕ)) → Option (Option (List ℕ)) → Option (List ℕ)
    → Option yaml_scalar_style_t → yaml_c_event → Option EventBody
scalar_by None t v s r = None
scalar_by (Some a) None v s r = None
scalar_by (Some a) (Some t) None s r = None
scalar_by (Some a) (Some t) (Some v) None r = None
scalar_by (Some a) (Some t) (Some v) (Some s) r = Some
    (event.scalar a t v (is_set r.implicit) (is_set r.quoted_implicit) s)

abbrev pub sequence_by : Option (Option (List ℕ)) → Option (Option (List ℕ))
    → Option yaml_sequence_style_t → yaml_c_event → Option EventBody
sequence_by None t s r = None
sequence_by (Some a) None s r = None
sequence_by (Some a) (Some t) None r = None
sequence_by (Some a) (Some t) (Some s) r = Some (event.sequence_start a t (is_set r.implicit) s)

abbrev pub mapping_by : Option (Option (List ℕ)) → Option (Option (List ℕ))
    → Option yaml_mapping_style_t → yaml_c_event → Option EventBody
mapping_by None t s r = None
mapping_by (Some a) None s r = None
mapping_by (Some a) (Some t) None r = None
mapping_by (Some a) (Some t) (Some s) r = Some (event.mapping_start a t (is_set r.implicit) s)

-- what a record of a kind means that has these directives
abbrev pub body_with : Option (List TagDirective) → Option yaml_event_type_t → List ℕ
    → yaml_c_event → Option EventBody
body_with ds None bytes r = None
body_with ds (Some kind.YAML_NO_EVENT) bytes r = Some event.no
body_with ds (Some kind.YAML_STREAM_START_EVENT) bytes r = option_map event.stream_start
    (encoding_meant r.encoding)
body_with ds (Some kind.YAML_STREAM_END_EVENT) bytes r = Some event.stream_end
body_with ds (Some kind.YAML_DOCUMENT_START_EVENT) bytes r = document_by ds r
body_with ds (Some kind.YAML_DOCUMENT_END_EVENT) bytes r = Some
    (event.document_end (is_set r.implicit))
body_with ds (Some kind.YAML_ALIAS_EVENT) bytes r = option_map event.alias (part_at bytes r.anchor)
body_with ds (Some kind.YAML_SCALAR_EVENT) bytes r = scalar_by
    (optional_at bytes r.has_anchor r.anchor) (optional_at bytes r.has_tag r.tag)
    (part_at bytes r.value) (scalar_style_meant r.style) r
body_with ds (Some kind.YAML_SEQUENCE_START_EVENT) bytes r = sequence_by
    (optional_at bytes r.has_anchor r.anchor) (optional_at bytes r.has_tag r.tag)
    (sequence_style_meant r.style) r
body_with ds (Some kind.YAML_SEQUENCE_END_EVENT) bytes r = Some event.sequence_end
body_with ds (Some kind.YAML_MAPPING_START_EVENT) bytes r = mapping_by
    (optional_at bytes r.has_anchor r.anchor) (optional_at bytes r.has_tag r.tag)
    (mapping_style_meant r.style) r
body_with ds (Some kind.YAML_MAPPING_END_EVENT) bytes r = Some event.mapping_end

-- What a record means. None where one of its numbers means nothing.
unfoldable pub body_meant : List ℕ → List yaml_c_directive → yaml_c_event → Option EventBody
body_meant bytes list r = body_with (directives_at bytes list r.directives) (kind_meant r.kind)
    bytes r

-- what records mean, where each means something
abbrev pub body_in_front : Option EventBody → Option (List EventBody) → Option (List EventBody)
body_in_front None bs = None
body_in_front (Some b) None = None
body_in_front (Some b) (Some bs) = Some (b ∷ bs)

-- ---- records that are handed out

abbrev pub no_span : yaml_c_span
no_span = record { at = 0; len = 0 }

-- a record of that kind with those marks, and 0 in all else
abbrev pub plain : ℤ → yaml_c_mark → yaml_c_mark → yaml_c_event
plain kind start end = record {
  kind = kind;
  style = pos 0;
  encoding = pos 0;
  implicit = pos 0;
  quoted_implicit = pos 0;
  has_anchor = pos 0;
  has_tag = pos 0;
  has_version = pos 0;
  major = pos 0;
  minor = pos 0;
  directives = no_span;
  anchor = no_span;
  tag = no_span;
  value = no_span;
  start = start;
  end = end;
}

-- the span of what may be left out: nothing at 0 where it is
abbrev pub span_told : {X : Type 0} → Option X → yaml_c_span → yaml_c_span
span_told None s = no_span
span_told (Some x) s = s

-- a number of what may be left out: 0 where it is
abbrev pub number_told : {X : Type 0} → Option X → ℤ → ℤ
number_told None n = pos 0
number_told (Some x) n = n

abbrev pub node_told : ℤ → Option (List ℕ) → Option (List ℕ) → Bool → yaml_c_event → yaml_c_event
node_told kind a t i r = record (plain kind r.start r.end) {
  style = r.style;
  implicit = flag_told i;
  has_anchor = flag_told (is_some a);
  has_tag = flag_told (is_some t);
  anchor = span_told a r.anchor;
  tag = span_told t r.tag;
}

-- A record of an event with what its kind names, flags as 0 or 1, and 0 in place of all else, also of an anchor, a tag or a
-- version that isn't there.
abbrev pub bare : EventBody → yaml_c_event → yaml_c_event
bare event.no r = plain (pos 0) r.start r.end
bare (event.stream_start x) r = record (plain (pos 1) r.start r.end) { encoding = r.encoding }
bare event.stream_end r = plain (pos 2) r.start r.end
bare (event.document_start v ds i) r = record (plain (pos 3) r.start r.end) {
  implicit = flag_told i;
  has_version = flag_told (is_some v);
  major = number_told v r.major;
  minor = number_told v r.minor;
  directives = r.directives;
}
bare (event.document_end i) r = record (plain (pos 4) r.start r.end) { implicit = flag_told i }
bare (event.alias a) r = record (plain (pos 5) r.start r.end) { anchor = r.anchor }
bare (event.scalar a t v p q s) r = record (node_told (pos 6) a t p r) {
  quoted_implicit = flag_told q;
  value = r.value;
}
bare (event.sequence_start a t i s) r = node_told (pos 7) a t i r
bare event.sequence_end r = plain (pos 8) r.start r.end
bare (event.mapping_start a t i s) r = node_told (pos 9) a t i r
bare event.mapping_end r = plain (pos 10) r.start r.end

-- a record says the event, marks too, and nothing beside
pub record RecordSays (bytes : List ℕ) (list : List yaml_c_directive) (r : yaml_c_event)
    (e : Event) : Type 0 where
  pub body : body_meant bytes list r ≡ Some e.body
  pub start : r.start ≡ mark_told e.start_mark
  pub end : r.end ≡ mark_told e.end_mark
  pub alone : r ≡ bare e.body r

abbrev pub AllSay : List ℕ → List yaml_c_directive → List yaml_c_event → List Event → Type 0
AllSay bytes list [] [] = Unit {0}
AllSay bytes list (r ∷ rs) (e ∷ es) = RecordSays bytes list r e × AllSay bytes list rs es
AllSay bytes list [] (e ∷ es) = ⊥
AllSay bytes list (r ∷ rs) [] = ⊥
