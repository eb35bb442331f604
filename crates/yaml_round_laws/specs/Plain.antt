-- The laws beneath, said of plain readings.
use Rattle.std.specs.Prelude.{◌≡◌, ℕ, true, false, List, Ok}
use Rattle.yaml_round.specs.declared.yaml_encoding_t.{yaml_encoding_t}
use Rattle.yaml_round.specs.declared.yaml_encoding_t.TheVariants.{YAML_ANY_ENCODING}
use Rattle.yaml_emit_layout.specs.Text.{Item, encode}
use Rattle.yaml_emit_layout.specs.declared.Encoding.{Encoding}
use Rattle.yaml_emit_layout.specs.declared.RequestedSettings.{RequestedSettings}
use Rattle.yaml_emit_layout.specs.Streams.{IsStream}
use Rattle.yaml_parse_grammar.specs.Resolve.{Told}
use Rattle.yaml_round_content.specs.Said.{Document}
use Rattle.yaml_round_content.specs.Canon.{canonical_layout}
use Rattle.yaml_round_content.specs.Events.{emitter_events}
use Rattle.yaml_round_content.specs.Reading.{PlainReading, HasEvents}
use Rattle.yaml_round_content.specs.Flags.{begins_with_nothing}

-- ---- canonical text

-- Of every input that is accepted, under all settings and without a limit: the canonical text of its content, read with its encoding
-- detected, has exactly that content.
abbrev pub CanonicalTextReadsBack : Type 0
CanonicalTextReadsBack = (from : yaml_encoding_t) (input : List ℕ) (c : List Document)
    → PlainReading from input (Ok c) → (w : RequestedSettings) → w.canonical ≡ true
    → PlainReading YAML_ANY_ENCODING (canonical_layout w c) (Ok c)

-- Contents of inputs that have one canonical text are one.
abbrev pub CanonicalTextTellsContents : Type 0
CanonicalTextTellsContents = (w : RequestedSettings) → w.canonical ≡ true
    → (a_from b_from : yaml_encoding_t) (a b : List ℕ) (c e : List Document)
    → PlainReading a_from a (Ok c) → PlainReading b_from b (Ok e)
    → canonical_layout w c ≡ canonical_layout w e → c ≡ e

-- ---- pretty text

-- the text in that encoding is laid out in pretty form for the events of the input, which has that content
pub record IsPrettyText (w : RequestedSettings) (from : yaml_encoding_t) (input : List ℕ)
    (c : List Document) (es : List Told) (text : List ℕ) : Type 0 where
  pub pretty : w.canonical ≡ false
  pub content : PlainReading from input (Ok c)
  pub events : HasEvents from input es
  pub encoding : Encoding
  pub whole : List Item
  pub stream : IsStream w encoding (emitter_events false es) whole
  pub is : text ≡ encode encoding whole

-- It reads back where the input doesn't begin with nothing.
abbrev pub PrettyTextReadsBack : Type 0
PrettyTextReadsBack = (w : RequestedSettings) (from : yaml_encoding_t) (input : List ℕ)
    (c : List Document) (es : List Told) (text : List ℕ) → IsPrettyText w from input c es text
    → begins_with_nothing (emitter_events false es) ≡ false
    → PlainReading YAML_ANY_ENCODING text (Ok c)

-- And where it does, it never reads back.
abbrev pub PrettyTextIsLost : Type 0
PrettyTextIsLost = (w : RequestedSettings) (from : yaml_encoding_t) (input : List ℕ)
    (c : List Document) (es : List Told) (text : List ℕ) → IsPrettyText w from input c es text
    → begins_with_nothing (emitter_events false es) ≡ true
    → PlainReading YAML_ANY_ENCODING text (Ok c) → ⊥
