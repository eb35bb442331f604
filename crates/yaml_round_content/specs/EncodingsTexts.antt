-- What bytes say is what the text says that they spell.
use Rattle.std.specs.Prelude.{◌≡◌, ◌↔◌, ◌<◌, ℕ, List, [], Some, Result, All}
use Rattle.yaml_parse_model.specs.scan_model.declared.name.yaml_encoding_t.{yaml_encoding_t}
use Rattle.yaml_parse_model.specs.scan_model.declared.name.yaml_error_type_t.TheVariants.{YAML_READER_ERROR}
use Rattle.yaml_parse_model.specs.scan_types.Faults.{Fault}
use Rattle.yaml_scan_laws.specs.scan_decode.Spelling.{Spells, SpellsNothing}
use Rattle.yaml_scan_laws.specs.scan_history.Remaining.{offline}
use Rattle.yaml_scan_laws.specs.scan_history.Scanned.{scanned}
use Rattle.yaml_round_content.specs.Said.{Document}
use Rattle.yaml_round_content.specs.Reading.{spelled_in, TextReads, PlainReading}

-- The tokens of bytes are those of the text that they spell.
abbrev pub TokensAreOfText : Type 0
TokensAreOfText = (from : yaml_encoding_t) (input text : List ℕ) → Spells from input text
    → scanned from input ≡ offline (spelled_in from input text)

-- Bytes that spell no text have no token, and a fault of the reader.
abbrev pub NoTextHasNoToken : Type 0
NoTextHasNoToken = (from : yaml_encoding_t) (input : List ℕ) → All (λ b. b < 256) input
    → SpellsNothing from input → (fault : Fault) × (fault.kind ≡ YAML_READER_ERROR)
    × (scanned from input ≡ record { tokens = []; fault = Some fault })

-- The plain reading of an input is that of the text that its bytes spell.
abbrev pub ReadingIsOfText : Type 0
ReadingIsOfText = (from : yaml_encoding_t) (input text : List ℕ)
    (r : Result (List Document) Fault) → Spells from input text
    → PlainReading from input r ↔ TextReads (spelled_in from input text) r
