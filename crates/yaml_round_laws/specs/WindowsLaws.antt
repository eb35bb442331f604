-- What is read of a text that is cut in two.
use Rattle.std.specs.Prelude.{◌≡◌, ◌⊎◌, ◌<◌, ℕ, true, List, [], ◌∷◌, ◌++◌, map, length, Some, None, option_map}
use Rattle.yaml_round_content.specs.scan_model.declared.name.yaml_encoding_t.{yaml_encoding_t}
use Rattle.yaml_round_content.specs.scan_types.Marks.{line_at}
use Rattle.yaml_round_content.specs.scan_types.Faults.{Fault}
use Rattle.yaml_round_content.specs.scan_types.Tokens.{Token}
use Rattle.yaml_scan_history.specs.History.{flow_depth}
use Rattle.yaml_scan_history.specs.Remaining as scan
use Rattle.yaml_scan_history.specs.Indicators.{is_document_start}
use Rattle.yaml_round_content.specs.parse_model.Events.{Event, stream_start, stream_end}
use Rattle.yaml_parse_grammar.specs.declared.ParseProblem.TheVariants.{NoDocumentStart}
use Rattle.yaml_parse_grammar.specs.Problems.{parser_fault}
use Rattle.yaml_parse_grammar.specs.Resolve.{Reading, Told}
use Rattle.yaml_round_content.specs.Adapted.{adapted}
use Rattle.yaml_round_content.specs.Input.{parsed}
use Rattle.yaml_scan_laws.specs.Cuts.{IsCut, IsEndCut, LeadsToDirective}
use Rattle.yaml_scan_laws.specs.CutsLaws.{scan_of}
use Rattle.yaml_scan_laws.specs.Moved.{moved_fault}
use Rattle.yaml_round_laws.specs.Moved.{moved_event, IsMovedEnd}

-- a text's tokens as a parser takes them
abbrev pub tokens_in : yaml_encoding_t → List ℕ → scan.Remaining
tokens_in encoding text = adapted (scan_of encoding text)

-- what a parser reads of a text
abbrev pub reading_in : yaml_encoding_t → List ℕ → Reading
reading_in encoding text = parsed (tokens_in encoding text)

-- its events, without how many tokens were asked for
abbrev pub events_in : yaml_encoding_t → List ℕ → List Event
events_in encoding text = map (λ (t : Told). t.0) (reading_in encoding text).events

-- the text is accepted
pub record IsAccepted (encoding : yaml_encoding_t) (text : List ℕ) : Type 0 where
  pub scanned : (tokens_in encoding text).fault ≡ None
  pub parsed : (reading_in encoding text).ending ≡ None

-- A cut between documents: before a line `---`; or after a line `...`, where the rest leads to a directive.
abbrev pub CutsDocuments : List ℕ → List ℕ → Type 0
CutsDocuments front rest = (IsCut front rest × (is_document_start rest 0 ≡ true))
    ⊎ (IsEndCut front rest × LeadsToDirective rest)

-- Where a text is cut between documents, and its front is accepted, the events are those of the front without STREAM-END, and then
-- those of the rest without STREAM-START, moved by the front's bytes and lines. The whole ends as the rest does: it is accepted, or
-- has the rest's fault, moved.
abbrev pub WindowsAreRead : Type 0
WindowsAreRead = (encoding : yaml_encoding_t) (front rest : List ℕ) → CutsDocuments front rest
    → IsAccepted encoding front
    → (before : List Event) (end : Event) → events_in encoding front ≡ before ++ end ∷ []
    → (start : Event) (later : List Event) → events_in encoding rest ≡ start ∷ later
    → let d = length front in let n = line_at front (length front) in
    ((tokens_in encoding (front ++ rest)).fault
    ≡ option_map (moved_fault d n) (tokens_in encoding rest).fault)
    × (events_in encoding (front ++ rest) ≡ before ++ map (moved_event d n) later)
    × IsMovedEnd d n (reading_in encoding rest).ending (reading_in encoding (front ++ rest)).ending

-- So the whole is accepted where both parts are.
abbrev pub WindowsAreAccepted : Type 0
WindowsAreAccepted = (encoding : yaml_encoding_t) (front rest : List ℕ) → CutsDocuments front rest
    → IsAccepted encoding front → IsAccepted encoding rest → IsAccepted encoding (front ++ rest)

-- the fault of a text that ends after directives
abbrev pub AwaitsDocument : yaml_encoding_t → List ℕ → Fault → Type 0
AwaitsDocument encoding text f = (before : List Token) × (last : Token)
    × ((scan_of encoding text).tokens ≡ before ++ last ∷ [])
    × (f ≡ parser_fault NoDocumentStart last.start_mark last.start_mark)

-- Where a front is refused, but not by the scanner, and leaves no bracket open, nor ends after directives, the whole has its events
-- and its fault.
abbrev pub RefusedFrontsAreRead : Type 0
RefusedFrontsAreRead = (encoding : yaml_encoding_t) (front rest : List ℕ) → IsCut front rest
    → is_document_start rest 0 ≡ true
    → (scan_of encoding front).fault ≡ None → flow_depth (scan.all front) ≡ 0
    → (f : Fault) → (reading_in encoding front).ending ≡ Some f
    → (AwaitsDocument encoding front f → ⊥)
    → (events_in encoding (front ++ rest) ≡ events_in encoding front)
    × ((reading_in encoding (front ++ rest)).ending ≡ Some f)

-- Where a front is refused with a fault that is before its end, by whomever, the whole has its events and its fault.
abbrev pub EarlyFaultsAreRead : Type 0
EarlyFaultsAreRead = (encoding : yaml_encoding_t) (front rest : List ℕ) → IsCut front rest
    → is_document_start rest 0 ≡ true
    → (f : Fault) → (reading_in encoding front).ending ≡ Some f
    → f.problem_mark.index < length front
    → (events_in encoding (front ++ rest) ≡ events_in encoding front)
    × ((reading_in encoding (front ++ rest)).ending ≡ Some f)

-- So it is where a front that ends in a line `...` is refused with a fault that is before that line, whatever follows.
abbrev pub EndedFaultsAreRead : Type 0
EndedFaultsAreRead = (encoding : yaml_encoding_t) (front rest : List ℕ)
    → (at : IsEndCut front rest)
    → (f : Fault) → (reading_in encoding front).ending ≡ Some f
    → f.problem_mark.index < length at.before
    → (events_in encoding (front ++ rest) ≡ events_in encoding front)
    × ((reading_in encoding (front ++ rest)).ending ≡ Some f)

-- Every text's events begin with STREAM-START, and those of one that is accepted end with STREAM-END.
abbrev pub ReadingsAreFramed : Type 0
ReadingsAreFramed = (encoding : yaml_encoding_t) (text : List ℕ)
    → ((start : Event) × (later : List Event) × (events_in encoding text ≡ start ∷ later)
    × (start.body ≡ stream_start encoding))
    × (IsAccepted encoding text → (before : List Event) × (end : Event)
    × (events_in encoding text ≡ before ++ end ∷ []) × (end.body ≡ stream_end))
