-- The events of an input, one by one, with the styles that the content alone decides.
use Rattle.std.specs.Prelude.{◌≡◌, ℕ, Bool, true, false, not, ◌&&◌, List, [], ◌∷◌, Option, Some, None}
use Rattle.yaml_parse_model.specs.scan_model.declared.name.yaml_encoding_t.{yaml_encoding_t}
use Rattle.yaml_parse_model.specs.Events.{EventBody}
use Rattle.yaml_parse_model.specs.Events as event
use Rattle.yaml_emit_laws.specs.emit_layout.declared.RequestedSettings.{RequestedSettings}
use Rattle.yaml_emit_laws.specs.emit_layout.Content as emit
use Rattle.yaml_emit_laws.specs.emit_layout.Nodes.{has_version, has_directives}
use Rattle.yaml_emit_laws.specs.emit_layout.Streams.{IsStream}
use Rattle.yaml_round_content.specs.Said.{ScalarMark, untagged, tagged, Document, HasContent}
use Rattle.yaml_round_content.specs.Canon.{canon_encoding}
use Rattle.yaml_round_content.specs.Events.{contents}
use Rattle.yaml_round_content.specs.Input.{events_of}
use Rattle.yaml_round_content.specs.Readable.{readable_scalar, readable_start, readable_items}

-- Where an event is: before all documents, at the root of a first one that needs no `---`, or elsewhere.
pub data OpeningPosition : Type 0 where
  Before : OpeningPosition
  Starts : OpeningPosition
  Within : OpeningPosition

abbrev pub root_position : Bool → OpeningPosition
root_position true = Starts
root_position false = Within

abbrev pub next_position : OpeningPosition → EventBody → OpeningPosition
next_position Before (event.document_start version directives implicit) =
    root_position (not (has_version version) && not (has_directives directives))
next_position Before other = Before
next_position Starts e = Within
next_position Within e = Within

abbrev pub is_first : OpeningPosition → Bool
is_first Before = true
is_first Starts = false
is_first Within = false

abbrev pub is_start : OpeningPosition → Bool
is_start Before = false
is_start Starts = true
is_start Within = false

abbrev pub mark_by : Option (List ℕ) → Bool → ScalarMark
mark_by None plain = untagged plain
mark_by (Some t) plain = tagged t

-- of what an event says
abbrev pub readable_event : OpeningPosition → EventBody → emit.Event
readable_event at event.no = emit.no_event
readable_event at (event.stream_start encoding) = emit.stream_start encoding
readable_event at event.stream_end = emit.stream_end
readable_event at (event.document_start version directives implicit) = emit.document_start
    (record {
      version = version;
      directives = directives;
      implicit = is_first at && (not (has_version version) && not (has_directives directives));
    })
readable_event at (event.document_end implicit) = emit.document_end true
readable_event at (event.alias name) = emit.alias name
readable_event at (event.scalar anchor tag value plain quoted style) = emit.scalar
    (readable_scalar (is_start at) anchor (mark_by tag plain) value)
readable_event at (event.sequence_start anchor tag implicit style) = emit.sequence_start
    (readable_start anchor tag)
readable_event at event.sequence_end = emit.sequence_end
readable_event at (event.mapping_start anchor tag implicit style) = emit.mapping_start
    (readable_start anchor tag)
readable_event at event.mapping_end = emit.mapping_end

abbrev pub readable_events : OpeningPosition → List EventBody → List emit.Event
readable_events at [] = []
readable_events at (e ∷ es) = readable_event at e ∷ readable_events (next_position at e) es

-- The text that people read is what is laid out for such events of each input that has the content.
abbrev pub ReadableIsLaidOut : Type 0
ReadableIsLaidOut = (w : RequestedSettings) → w.canonical ≡ false
    → (from : yaml_encoding_t) (input : List ℕ) (c : List Document) → HasContent from input c
    → IsStream w (canon_encoding w) (readable_events Before (contents (events_of from input)))
    (readable_items w c)
