-- What an input loads, by the definitions that the members' contracts cite.
use Rattle.std.specs.Prelude.{◌≡◌, ℕ, List, Result, Ok, Err}
use Rattle.yaml_scan.specs.declared.yaml_encoding_t.{yaml_encoding_t}
use Rattle.yaml_scan.specs.scan_types.Faults.{Fault}
use Rattle.yaml_scan.specs.Remaining as scan
use Rattle.yaml_scan.specs.Scanned.{scanned}
use Rattle.yaml_parse.specs.Documents.{Document, no_document}
use Rattle.yaml_parse.specs.NextLoad.{NextLoad, next_document, next_fault, next_none, IsLoadOf}
use Rattle.yaml_parse.specs.Resolve.{Reading}
use Rattle.yaml_parse.specs.parse_laws_trees.Places.{FaultOfTokens}
use Rattle.yaml_parse.specs.parse_laws_trees.Given.{EventsOfTokens}
use Rattle.yaml_round_reading.specs.round_content.Adapted.{adapted}

-- the scanner's tokens of the input, as a parser takes them
abbrev pub tokens_of : yaml_encoding_t → List ℕ → scan.Remaining
tokens_of encoding input = adapted (scanned encoding input)

-- the events of those, and the fault that ends them
pub record IsReadingOf (c : scan.Remaining) (r : Reading) : Type 0 where
  pub events : EventsOfTokens c.tokens c.fault r.events
  pub ending : FaultOfTokens c.tokens c.fault r.ending

-- a document, that without nodes where none comes, or the fault
abbrev pub outcome : NextLoad → Result Document Fault
outcome (next_document d left unasked) = Ok d
outcome next_none = Ok no_document
outcome (next_fault f unasked) = Err f

-- The first document of the input, or the fault that is met before its end. Each input has one, and one alone: its tokens
-- have one list of events, and one fault, and these one first load.
pub record IsFirstDocument (encoding : yaml_encoding_t) (input : List ℕ)
    (first : Result Document Fault) : Type 0 where
  pub reading : Reading
  pub parsed : IsReadingOf (tokens_of encoding input) reading
  pub load : NextLoad
  -- that many tokens are not asked for when the fault after the events is reported
  pub unasked : ℕ
  pub is : IsLoadOf reading.events reading.ending unasked load
  pub same : first ≡ outcome load
