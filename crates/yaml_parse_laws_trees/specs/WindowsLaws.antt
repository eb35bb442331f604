-- The events of tokens after a document's end.
use Rattle.std.specs.Prelude.{◌≡◌, ◌≢◌, ◌⊎◌, List, [], ◌∷◌, ◌++◌, map, Option, Some, None}
use Rattle.yaml_parse_grammar.specs.parse_model.declared.yaml_encoding_t.{yaml_encoding_t}
use Rattle.yaml_parse_grammar.specs.scan_types.Tokens.{Token, TokenBody, stream_start, stream_end, document_start, document_end, version_directive, tag_directive}
use Rattle.yaml_parse_grammar.specs.scan_types.Faults.{Fault}
use Rattle.yaml_parse_grammar.specs.parse_model.Events.{Event}
use Rattle.yaml_parse_grammar.specs.declared.ParseProblem.TheVariants.{NoDocumentStart}
use Rattle.yaml_parse_grammar.specs.Problems.{parser_fault}
use Rattle.yaml_parse_grammar.specs.Machine.{run, initial}
use Rattle.yaml_parse_grammar.specs.Resolve.{Reading, Told, no_directives}
use Rattle.yaml_parse_grammar.specs.Remaining.{reading_of}
use Rattle.yaml_parse_laws_trees.specs.Depths.{depth_behind}

-- what a parser reads of tokens, and of the fault after them
abbrev pub parse_of : List Token → Option Fault → Reading
parse_of tokens own = reading_of (run tokens initial own) no_directives

-- the events, without how many tokens were asked for
abbrev pub events_in : Reading → List Event
events_in r = map (λ (t : Told). t.0) r.events

-- the stream's end is none of them
abbrev pub GoOn : List Token → Type 0
GoOn [] = Unit {0}
GoOn (t ∷ ts) = (t.body ≢ stream_end) × GoOn ts

-- Where tokens that end in STREAM-END are accepted, and a DOCUMENT-START is in its place, with others after it, the events are
-- those before the stream's end, and then those that these tokens have after a STREAM-START; and so is what they end in.
abbrev pub WindowsAreParsed : Type 0
WindowsAreParsed = (front : List Token) (last : Token) → GoOn front → last.body ≡ stream_end
    → (parse_of (front ++ last ∷ []) None).ending ≡ None
    → (mark : Token) → mark.body ≡ document_start → mark.start_mark ≡ last.start_mark
    → (first : Token) (encoding : yaml_encoding_t) → first.body ≡ stream_start encoding
    → (behind : List Token) (own : Option Fault) (before : List Event) (end : Event)
    → events_in (parse_of (front ++ last ∷ []) None) ≡ before ++ end ∷ []
    → (start : Event) (later : List Event)
    → events_in (parse_of (first ∷ mark ∷ behind) own) ≡ start ∷ later
    → (events_in (parse_of (front ++ mark ∷ behind) own) ≡ before ++ later)
    × ((parse_of (front ++ mark ∷ behind) own).ending ≡ (parse_of
    (first ∷ mark ∷ behind) own).ending)

-- a directive or DOCUMENT-START
abbrev pub BeginsDocument : TokenBody → Type 0
BeginsDocument (version_directive major minor) = Unit {0}
BeginsDocument (tag_directive handle prefix) = Unit {0}
BeginsDocument document_start = Unit {0}
BeginsDocument _ = ⊥

-- what begins a document, or a fault, is first
abbrev pub DocumentGoesOn : List Token → Option Fault → Type 0
DocumentGoesOn [] own = own ≢ None
DocumentGoesOn (mark ∷ behind) own = BeginsDocument mark.body

-- Where DOCUMENT-END is before STREAM-END, a directive may be in the latter's place too, and so may
-- a fault.
abbrev pub DirectivesAreParsed : Type 0
DirectivesAreParsed = (front : List Token) (over last : Token) → GoOn front
    → over.body ≡ document_end → last.body ≡ stream_end
    → (parse_of (front ++ over ∷ last ∷ []) None).ending ≡ None
    → (rest : List Token) (own : Option Fault) → DocumentGoesOn rest own
    → (first : Token) (encoding : yaml_encoding_t) → first.body ≡ stream_start encoding
    → (before : List Event) (end : Event)
    → events_in (parse_of (front ++ over ∷ last ∷ []) None) ≡ before ++ end ∷ []
    → (start : Event) (later : List Event)
    → events_in (parse_of (first ∷ rest) own) ≡ start ∷ later
    → (events_in (parse_of (front ++ over ∷ rest) own) ≡ before ++ later)
    × ((parse_of (front ++ over ∷ rest) own).ending ≡ (parse_of (first ∷ rest) own).ending)

-- Where tokens that end in STREAM-END are refused, and not for lack of a document after directives that end them, they are refused
-- so with a DOCUMENT-START in its place, whatever is after.
abbrev pub RefusedFrontsStay : Type 0
RefusedFrontsStay = (front : List Token) (last : Token) → GoOn front → last.body ≡ stream_end
    → (f : Fault) → (parse_of (front ++ last ∷ []) None).ending ≡ Some f
    → f ≢ parser_fault NoDocumentStart last.start_mark last.start_mark
    → (mark : Token) → mark.body ≡ document_start → mark.start_mark ≡ last.start_mark
    → (behind : List Token) (own : Option Fault)
    → (events_in (parse_of (front ++ mark ∷ behind) own)
    ≡ events_in (parse_of (front ++ last ∷ []) None))
    × ((parse_of (front ++ mark ∷ behind) own).ending ≡ Some f)

-- Where tokens that end in DOCUMENT-END and STREAM-END are refused, they are refused so whatever is after DOCUMENT-END.
abbrev pub EndedFrontsStay : Type 0
EndedFrontsStay = (front : List Token) (over last : Token) → GoOn front
    → over.body ≡ document_end → last.body ≡ stream_end
    → (f : Fault) → (parse_of (front ++ over ∷ last ∷ []) None).ending ≡ Some f
    → (behind : List Token) (own : Option Fault)
    → (events_in (parse_of (front ++ over ∷ behind) own)
    ≡ events_in (parse_of (front ++ over ∷ last ∷ []) None))
    × ((parse_of (front ++ over ∷ behind) own).ending ≡ Some f)

-- Where tokens that a fault ends are refused, that is their fault, or they are refused so whatever is after them.
abbrev pub RefusedTokensStay : Type 0
RefusedTokensStay = (front : List Token) (g f : Fault) → (parse_of front (Some g)).ending ≡ Some f
    → (f ≡ g) ⊎ ((behind : List Token) (own : Option Fault)
    → (events_in (parse_of (front ++ behind) own) ≡ events_in (parse_of front (Some g)))
    × ((parse_of (front ++ behind) own).ending ≡ Some f))

-- Tokens that end in STREAM-END and are accepted leave no bracket open.
abbrev pub BracketsAreClosed : Type 0
BracketsAreClosed = (front : List Token) (last : Token) → GoOn front → last.body ≡ stream_end
    → (parse_of (front ++ last ∷ []) None).ending ≡ None
    → depth_behind front 0 ≡ 0
