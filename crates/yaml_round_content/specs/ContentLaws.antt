-- An input has one content, and what is laid out for it in canonical form is the content's text.
use Rattle.std.specs.Prelude.{◌≡◌, ℕ, true, not, List, [], ◌∷◌, ◌++◌, None}
use Rattle.yaml_parse_model.specs.scan_model.declared.name.yaml_encoding_t.{yaml_encoding_t}
use Rattle.yaml_parse_model.specs.scan_model.declared.name.yaml_encoding_t.TheVariants.{YAML_ANY_ENCODING, YAML_UTF8_ENCODING, YAML_UTF16LE_ENCODING, YAML_UTF16BE_ENCODING}
use Rattle.yaml_parse_model.specs.Events.{EventBody}
use Rattle.yaml_emit_laws.specs.parse_grammar.Resolve.{Told}
use Rattle.yaml_emit_laws.specs.emit_layout.Content as emit
use Rattle.yaml_emit_laws.specs.emit_layout.Streams.{IsStream}
use Rattle.yaml_emit_laws.specs.emit_layout.Text.{Item}
use Rattle.yaml_emit_laws.specs.emit_layout.declared.Encoding.{Encoding}
use Rattle.yaml_emit_laws.specs.emit_layout.declared.RequestedSettings.{RequestedSettings}
use Rattle.yaml_round_content.specs.Events.{emitter_events, contents}
use Rattle.yaml_round_content.specs.Input.{events_of, ending_of}
use Rattle.yaml_round_content.specs.Said.{Document, stream_says, HasContent}
use Rattle.yaml_round_content.specs.Canon.{canon_items, canon_encoding}

-- A stream of events says one content at most.
abbrev pub SaysIsInjective : Type 0
SaysIsInjective = (c e : List Document) → stream_says c ≡ stream_says e → c ≡ e

-- Each input that is accepted has a content.
abbrev pub InputsHaveContent : Type 0
InputsHaveContent = (from : yaml_encoding_t) (input : List ℕ) → ending_of from input ≡ None
    → (c : List Document) × HasContent from input c

-- events that say what a stream's first ones do
pub record SaysFront (bs : List EventBody) : Type 0 where
  pub content : List Document
  pub rest : List EventBody
  pub same : bs ++ rest ≡ stream_says content

-- What any input says, also before a fault, is a front of what a content does.
abbrev pub InputsSayFronts : Type 0
InputsSayFronts = (from : yaml_encoding_t) (input : List ℕ)
    → SaysFront (contents (events_of from input))

-- ---- layouts

-- an encoding is set
abbrev pub IsSet : yaml_encoding_t → Type 0
IsSet YAML_ANY_ENCODING = ⊥
IsSet YAML_UTF8_ENCODING = Unit {0}
IsSet YAML_UTF16LE_ENCODING = Unit {0}
IsSet YAML_UTF16BE_ENCODING = Unit {0}

-- canonical form in an encoding that is set
pub record AreCanonical (w : RequestedSettings) : Type 0 where
  pub canonical : w.canonical ≡ true
  pub set : IsSet w.encoding

-- an untagged scalar may be quoted exactly where it doesn't count as plain
abbrev pub IsFlaggedScalar : emit.Scalar → Type 0
IsFlaggedScalar x = x.tag ≡ None → x.quoted ≡ not x.plain

abbrev pub IsFlagged : emit.Event → Type 0
IsFlagged (emit.scalar x) = IsFlaggedScalar x
IsFlagged other = Unit {0}

abbrev pub AreFlagged : List emit.Event → Type 0
AreFlagged [] = Unit {0}
AreFlagged (e ∷ es) = IsFlagged e × AreFlagged es

-- What is laid out in canonical form for events that say a content is the content's layout.
abbrev pub LayoutIsOfContent : Type 0
LayoutIsOfContent = (w : RequestedSettings) → AreCanonical w → (es : List Told)
    → AreFlagged (emitter_events true es) → (c : List Document) → contents es ≡ stream_says c
    → (x : Encoding) (whole : List Item) → IsStream w x (emitter_events true es) whole
    → (x ≡ canon_encoding w) × (whole ≡ canon_items w c)

-- The content's layout is laid out for the events of each input that has it.
abbrev pub ContentIsLaidOut : Type 0
ContentIsLaidOut = (w : RequestedSettings) → AreCanonical w
    → (from : yaml_encoding_t) (input : List ℕ)
    → AreFlagged (emitter_events true (events_of from input))
    → (c : List Document) → HasContent from input c
    → IsStream w (canon_encoding w) (emitter_events true (events_of from input))
    (canon_items w c)
