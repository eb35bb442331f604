-- What a parser's tokens load is the numbering of their tree's documents.
use Rattle.std.specs.Prelude.{◌≡◌, ℕ, List, [], ◌∷◌, map, Option, Some, None}
use Rattle.yaml_parse_model.specs.scan_model.declared.name.yaml_encoding_t.{yaml_encoding_t}
use Rattle.yaml_parse_model.specs.scan_types.Tokens.{Token}
use Rattle.yaml_parse_model.specs.scan_types.Faults.{Fault}
use Rattle.yaml_parse_model.specs.Events.{Event}
use Rattle.yaml_parse_model.specs.Events as event
use Rattle.yaml_emit_laws.specs.parse_grammar.Trees as tree
use Rattle.yaml_emit_laws.specs.parse_grammar.Machine.{run, initial}
use Rattle.yaml_emit_laws.specs.parse_grammar.Resolve.{Reading, Told, no_directives}
use Rattle.yaml_emit_laws.specs.parse_grammar.Remaining.{reading_of}
use Rattle.yaml_emit_laws.specs.parse_laws_trees.Places.{BeginsWithSentence}
use Rattle.yaml_parse_loader.specs.Loading.{nothing_loaded}
use Rattle.yaml_emit_laws.specs.parse_laws_trees.NextLoad.{NextLoad, next_document, next_fault, next_none, IsLoadOf}
use Rattle.yaml_parse_loader.specs.Numbering.{DocumentContent, spanning, document_events}
use Rattle.yaml_round_content.specs.Input.{tokens_of}
use Rattle.yaml_round_content.specs.Loads.{Loads, no_more, in_front, load_all, loads_of}
use Rattle.yaml_round_content.specs.TreeDocuments.{tree_documents, loaded_documents}

-- where a tree's stream ends
abbrev pub end_of : tree.Documents → tree.Span
end_of (tree.end_stream s) = s
end_of (tree.document ds s root ends more) = end_of more

-- the events of documents, and the stream's end
abbrev pub placed_events : List DocumentContent → tree.Span → List Event
placed_events [] s = spanning event.stream_end s.from s.to ∷ []
placed_events (d ∷ ds) s = document_events d (placed_events ds s)

-- The events of a tree: the stream's start, those of its documents, and its end.
abbrev pub tree_events : tree.Stream → List Token → List Event
tree_events t rest = spanning (event.stream_start t.encoding) t.start.from t.start.to
    ∷ placed_events (tree_documents t rest) (end_of t.documents)

abbrev pub events_told : List Told → List Event
events_told gs = map (λ (g : Told). g.0) gs

-- what a parser of a source reads: the tokens to come, and the fault after them
abbrev pub read_of : List Token → Option Fault → Reading
read_of ts own = reading_of (run ts initial own) no_directives

-- The events of a source whose tokens begin with a sentence are those of its tree.
abbrev pub EventsArePlaced : Type 0
EventsArePlaced = (ts : List Token) (own : Option Fault) → (b : BeginsWithSentence ts)
    → events_told (read_of ts own).events ≡ tree_events b.tree b.rest

-- And what they load is the numbering of its documents.
abbrev pub LoadsAreNumbered : Type 0
LoadsAreNumbered = (ts : List Token) (own : Option Fault) → (b : BeginsWithSentence ts)
    → load_all (read_of ts own).events (read_of ts own).ending nothing_loaded
    ≡ loaded_documents (tree_documents b.tree b.rest)

-- So is what an input loads that is accepted by the parser.
abbrev pub InputsAreNumbered : Type 0
InputsAreNumbered = (from : yaml_encoding_t) (input : List ℕ)
    → (b : BeginsWithSentence (tokens_of from input).tokens)
    → loads_of from input ≡ loaded_documents (tree_documents b.tree b.rest)

-- ---- one load after another

-- What is loaded in all, by what the next load gives: its document before the others, its fault, or nothing.
abbrev pub by_next : NextLoad → Option Fault → Loads
by_next (next_document d left unasked) f = in_front d.nodes d (load_all left f nothing_loaded)
by_next (next_fault e unasked) f = no_more (Some e)
by_next next_none f = no_more None

-- The documents of events are those that loads give, one after another, each the one that content says.
abbrev pub LoadsAreOneByOne : Type 0
LoadsAreOneByOne = (gs : List Told) (f : Option Fault) (unasked : ℕ) (n : NextLoad)
    → IsLoadOf gs f unasked n → load_all gs f nothing_loaded ≡ by_next n f
