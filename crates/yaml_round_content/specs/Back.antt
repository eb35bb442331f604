-- Canonical text reads back, and is a normal form of what inputs say.
use Rattle.std.specs.Prelude.{◌≡◌, ℕ, true, false, List, ◌∷◌}
use Rattle.yaml_parse_model.specs.scan_model.declared.name.yaml_encoding_t.{yaml_encoding_t}
use Rattle.yaml_parse_model.specs.scan_model.declared.name.yaml_encoding_t.TheVariants.{YAML_ANY_ENCODING}
use Rattle.yaml_parse_model.specs.scan_types.Tokens.{Token, TokenBody}
use Rattle.yaml_parse_model.specs.scan_types.Tokens as token
use Rattle.yaml_scan_laws.specs.scan_history.Scanned.{scanned}
use Rattle.yaml_emit_laws.specs.emit_layout.declared.RequestedSettings.{RequestedSettings}
use Rattle.yaml_emit_laws.specs.emit_layout.Streams.{IsStream}
use Rattle.yaml_round_content.specs.Said.{Document, HasContent}
use Rattle.yaml_round_content.specs.Events.{emitter_events}
use Rattle.yaml_round_content.specs.Input.{events_of}
use Rattle.yaml_round_content.specs.ContentLaws.{AreCanonical}
use Rattle.yaml_round_content.specs.Canon.{written_documents, canonical_layout, canon_encoding, canon_items}
use Rattle.yaml_round_content.specs.BytesLaws.{encoding_named}
use Rattle.yaml_round_content.specs.TreeLaws.{token_bodies}
use Rattle.yaml_round_content.specs.Adapting.{without_fault}
use Rattle.yaml_emit_laws.specs.Bodies.{documents_bodies}
use Rattle.yaml_round_content.specs.Writable.{AreWritable}

-- With the encoding detected, the bytes are scanned as tokens with these bodies, without fault.
pub record IsScannedAs (bytes : List ℕ) (bs : List TokenBody) : Type 0 where
  pub tokens : List Token
  pub read : scanned YAML_ANY_ENCODING bytes ≡ without_fault tokens
  pub same : token_bodies tokens ≡ bs

-- Canonical text is scanned as the tokens of the content's documents.
abbrev pub CanonIsScanned : Type 0
CanonIsScanned = (w : RequestedSettings) → w.canonical ≡ true → (c : List Document) → AreWritable c
    → IsScannedAs (canonical_layout w c) (token.stream_start (encoding_named (canon_encoding w))
    ∷ documents_bodies false (written_documents c))

-- Canonical text is accepted, and says the content, whatever else is set.
abbrev pub CanonReadsBack : Type 0
CanonReadsBack = (w : RequestedSettings) → w.canonical ≡ true → (c : List Document) → AreWritable c
    → HasContent YAML_ANY_ENCODING (canonical_layout w c) c

-- Contents that may be written and have one canonical text are one.
abbrev pub CanonTellsContents : Type 0
CanonTellsContents = (w : RequestedSettings) → w.canonical ≡ true → (c e : List Document)
    → AreWritable c → AreWritable e → canonical_layout w c ≡ canonical_layout w e → c ≡ e

-- ---- of inputs

-- For every input that is accepted, and all settings: the canonical text of what it says is accepted, with its encoding detected,
-- and says exactly that.
abbrev pub CanonicalReadsBack : Type 0
CanonicalReadsBack = (from : yaml_encoding_t) (input : List ℕ) (c : List Document)
    → HasContent from input c → (w : RequestedSettings) → w.canonical ≡ true
    → HasContent YAML_ANY_ENCODING (canonical_layout w c) c

-- Inputs whose contents have one canonical text have one content.
abbrev pub CanonTellsInputs : Type 0
CanonTellsInputs = (w : RequestedSettings) → w.canonical ≡ true
    → (a_from b_from : yaml_encoding_t) (a b : List ℕ) (c e : List Document)
    → HasContent a_from a c → HasContent b_from b e → canonical_layout w c ≡ canonical_layout w e
    → c ≡ e

-- What is laid out for the events of a canonical text is that text again.
abbrev pub CanonIsLaidOutAgain : Type 0
CanonIsLaidOutAgain = (from : yaml_encoding_t) (input : List ℕ) (c : List Document)
    → HasContent from input c → (w : RequestedSettings) → AreCanonical w
    → IsStream w (canon_encoding w)
    (emitter_events true (events_of YAML_ANY_ENCODING (canonical_layout w c))) (canon_items w c)
