-- What an input says: its tokens as a parser takes them, the events that those make, and the fault that ends them.
use Rattle.std.specs.Prelude.{◌≡◌, ℕ, List, Option}
use Rattle.yaml_parse_model.specs.scan_model.declared.name.yaml_encoding_t.{yaml_encoding_t}
use Rattle.yaml_parse_model.specs.scan_types.Faults.{Fault}
use Rattle.yaml_scan_laws.specs.scan_history.Remaining as scan
use Rattle.yaml_scan_laws.specs.scan_history.Scanned.{scanned}
use Rattle.yaml_emit_laws.specs.parse_grammar.Remaining.{ParserRemaining, reading_of}
use Rattle.yaml_emit_laws.specs.parse_grammar.Machine.{run, initial}
use Rattle.yaml_emit_laws.specs.parse_grammar.Resolve.{Reading, Told, no_directives}
use Rattle.yaml_round_content.specs.Adapted.{adapted}

-- the scanner's tokens, up to the first tag that isn't UTF-8
abbrev pub tokens_of : yaml_encoding_t → List ℕ → scan.Remaining
tokens_of from input = adapted (scanned from input)

abbrev pub parsed : scan.Remaining → Reading
parsed c = reading_of (run c.tokens initial c.fault) no_directives

unfoldable pub read : yaml_encoding_t → List ℕ → Reading
read from input = parsed (tokens_of from input)

-- the events of the input, up to its fault
abbrev pub events_of : yaml_encoding_t → List ℕ → List Told
events_of from input = (read from input).events

-- the fault of the input, where it is refused
abbrev pub ending_of : yaml_encoding_t → List ℕ → Option Fault
ending_of from input = (read from input).ending

-- a parser that reads the input from its start
pub record ReadsInput (from : yaml_encoding_t) (input : List ℕ) (parser : ParserRemaining) : Type 0
  where
    pub events : parser.events ≡ events_of from input
    pub ending : parser.ending ≡ ending_of from input
