-- What a parser makes of the tokens of pretty text.
use Rattle.std.specs.Prelude.{◌≡◌, true, false, List, ◌∷◌, None}
use Rattle.yaml_parse_model.specs.declared.yaml_encoding_t.{yaml_encoding_t}
use Rattle.yaml_parse_model.specs.scan_types.Tokens.{Token}
use Rattle.yaml_parse_model.specs.scan_types.Tokens as token
use Rattle.yaml_parse_model.specs.Events as event
use Rattle.yaml_emit_laws.specs.emit_layout.declared.Settings.{Settings}
use Rattle.yaml_emit_laws.specs.parse_grammar.Resolve.{Told}
use Rattle.yaml_emit_laws.specs.emit_layout.Content.{Document, stream_events}
use Rattle.yaml_round_content.specs.Events.{emitter_events, contents}
use Rattle.yaml_round_content.specs.Adapted.{adapted}
use Rattle.yaml_round_content.specs.TreeLaws.{token_bodies, event_bodies, AreParsable, parsed_of}
use Rattle.yaml_round_content.specs.Adapting.{HaveTexts, without_fault}
use Rattle.yaml_emit_laws.specs.NodeBodies.{stream_bodies, starts_with_nothing}
use Rattle.yaml_round_content.specs.PrettyReads.{stream_reads}
use Rattle.yaml_round_content.specs.Flags.{HaveReaderFlags, begins_with_nothing}

-- Tokens with the bodies of documents in pretty form, which don't start with nothing, are parsed without fault, and say them. The
-- directives may be written, and no scalar has the tag `!`; nothing is asked of settings and flags.
abbrev pub PrettyTokensAreParsed : Type 0
PrettyTokensAreParsed = (s : Settings) (x : yaml_encoding_t) (ds : List Document) → AreParsable ds
    → starts_with_nothing s ds ≡ false → (ts : List Token)
    → token_bodies ts ≡ token.stream_start x ∷ stream_bodies s ds
    → (event_bodies (parsed_of ts) ≡ event.stream_start x ∷ stream_reads s ds)
    × ((parsed_of ts).ending ≡ None)

-- Such tokens, of which tags can be read and prefixes are UTF-8, pass the adapter as they are.
abbrev pub PrettyTokensPass : Type 0
PrettyTokensPass = (s : Settings) (x : yaml_encoding_t) (ds : List Document) → HaveTexts ds
    → (ts : List Token) → token_bodies ts ≡ token.stream_start x ∷ stream_bodies s ds
    → adapted (without_fault ts) ≡ without_fault ts

-- Where events are those of documents with a reader's flags, as an emitter sees them, such tokens say what the events do.
abbrev pub PrettyTokensSayDocuments : Type 0
PrettyTokensSayDocuments = (s : Settings) (es : List Told) (x y : yaml_encoding_t)
    → (ds : List Document) → emitter_events false es ≡ stream_events x ds → HaveReaderFlags ds
    → AreParsable ds → starts_with_nothing s ds ≡ false → (ts : List Token)
    → token_bodies ts ≡ token.stream_start y ∷ stream_bodies s ds
    → (contents (parsed_of ts).events ≡ contents es) × ((parsed_of ts).ending ≡ None)

-- The documents that start with nothing are known by their first three events.
abbrev pub BeginningIsTold : Type 0
BeginningIsTold = (s : Settings) → s.canonical ≡ false → (x : yaml_encoding_t)
    → (ds : List Document) → HaveReaderFlags ds
    → begins_with_nothing (stream_events x ds) ≡ starts_with_nothing s ds

-- Tokens of documents that start with nothing are refused, or say something else.
abbrev pub PrettyTokensAreLost : Type 0
PrettyTokensAreLost = (s : Settings) (es : List Told) (x y : yaml_encoding_t) (ds : List Document)
    → emitter_events false es ≡ stream_events x ds → HaveReaderFlags ds → AreParsable ds
    → starts_with_nothing s ds ≡ true → (ts : List Token)
    → token_bodies ts ≡ token.stream_start y ∷ stream_bodies s ds
    → (contents (parsed_of ts).events ≡ contents es) → (parsed_of ts).ending ≡ None → ⊥
