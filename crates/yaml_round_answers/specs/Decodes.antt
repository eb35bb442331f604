-- What C receives of a decoding.
use Rattle.std.specs.Prelude.{◌≡◌, ℕ, List, [], ◌∷◌, Some, Result, Ok, Err}
use Rattle.yaml_parse.specs.declared.yaml_encoding_t.{yaml_encoding_t}
use Rattle.yaml_parse.specs.declared.yaml_origin_t.{yaml_origin_t}
use Rattle.yaml_parse.specs.declared.yaml_origin_t.TheVariants.{Reader}
use Rattle.yaml_parse.specs.scan_types.Faults.{Fault}
use Rattle.yaml_scan.specs.Decoding.{decoded_text}
use Rattle.yaml_scan.specs.DecodedText.{decoding_fault}
use Rattle.yaml_round_answers.specs.declared.answer.yaml_c_answer.{yaml_c_answer}
use Rattle.yaml_round_answers.specs.Told.{TellsResult, IsAnswered, OrMemory}

-- the text that the bytes spell, or the fault of the first of them that spells none
abbrev pub IsDecoded : yaml_encoding_t → List ℕ → Result (List ℕ) Fault → Type 0
IsDecoded from input (Ok text) = decoded_text from input ≡ Ok text
IsDecoded from input (Err fault) = decoding_fault from input ≡ Some fault

-- only what reads takes memory
abbrev pub decode_layers : List yaml_origin_t
decode_layers = Reader ∷ []

abbrev pub Decodes : List ℕ → yaml_encoding_t → yaml_c_answer → Type 0
Decodes input from = IsAnswered (OrMemory decode_layers (IsDecoded from input)) TellsResult
