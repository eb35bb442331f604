-- What the tokens of a content's canonical documents say.
use Rattle.std.specs.Prelude.{◌≡◌, false, List, ◌∷◌, None}
use Rattle.yaml_parse_model.specs.scan_model.declared.name.yaml_encoding_t.{yaml_encoding_t}
use Rattle.yaml_parse_model.specs.scan_types.Tokens.{Token}
use Rattle.yaml_parse_model.specs.scan_types.Tokens as token
use Rattle.yaml_round_content.specs.Events.{contents}
use Rattle.yaml_round_content.specs.Said.{Document, stream_says}
use Rattle.yaml_round_content.specs.Canon.{written_documents}
use Rattle.yaml_round_content.specs.TreeLaws.{token_bodies, AreParsable, parsed_of}
use Rattle.yaml_emit_laws.specs.Bodies.{documents_bodies}

-- They are parsed without fault, and their events say the content.
abbrev pub CanonicalTokensSayContent : Type 0
CanonicalTokensSayContent = (x : yaml_encoding_t) (c : List Document)
    → AreParsable (written_documents c) → (ts : List Token)
    → token_bodies ts ≡ token.stream_start x ∷ documents_bodies false (written_documents c)
    → (contents (parsed_of ts).events ≡ stream_says c) × ((parsed_of ts).ending ≡ None)
