-- What numbers mean: those of libyaml's enums. A number beside them means nothing.
use Rattle.std.specs.Prelude.{ℕ, suc, ℤ, pos, Bool, true, false, not, ◌&&◌, if◌then◌else◌, List, [], ◌∷◌, Option, None, Some}
use Rattle.std.specs.Ordering.{int_eq}
use Rattle.yaml_parse.specs.declared.yaml_encoding_t.{yaml_encoding_t}
use Rattle.yaml_parse.specs.declared.yaml_encoding_t.TheVariants as encoding
use Rattle.yaml_parse.specs.declared.yaml_break_t.{yaml_break_t}
use Rattle.yaml_parse.specs.declared.yaml_break_t.TheVariants as line_break
use Rattle.yaml_parse.specs.declared.yaml_error_type_t.{yaml_error_type_t}
use Rattle.yaml_parse.specs.declared.yaml_error_type_t.TheVariants as error
use Rattle.yaml_parse.specs.declared.yaml_event_type_t.{yaml_event_type_t}
use Rattle.yaml_parse.specs.declared.yaml_event_type_t.TheVariants as kind
use Rattle.yaml_parse.specs.declared.yaml_scalar_style_t.{yaml_scalar_style_t}
use Rattle.yaml_parse.specs.declared.yaml_scalar_style_t.TheVariants as scalar
use Rattle.yaml_parse.specs.declared.yaml_sequence_style_t.{yaml_sequence_style_t}
use Rattle.yaml_parse.specs.declared.yaml_sequence_style_t.TheVariants as sequence
use Rattle.yaml_parse.specs.declared.yaml_mapping_style_t.{yaml_mapping_style_t}
use Rattle.yaml_parse.specs.declared.yaml_mapping_style_t.TheVariants as mapping

-- a flag is off at 0 and on at every other number
unfoldable pub is_set : ℤ → Bool
is_set n = not (int_eq n (pos 0))

-- an anchor or a tag is there: its flag is on, and isn't 2, which says of a tag that was left out
unfoldable pub is_there : ℤ → Bool
is_there n = is_set n && not (int_eq n (pos 2))

-- the number of a flag, as it is handed out
abbrev pub flag_told : Bool → ℤ
flag_told false = pos 0
flag_told true = pos 1

-- ---- rows: the constants of an enum in their order

-- the constant that a number means, where the first one has the number k
abbrev pub numbered_from : {X : Type 0} → List X → ℕ → ℤ → Option X
numbered_from [] k n = None
numbered_from (x ∷ xs) k n = if int_eq n (pos k) then Some x else numbered_from xs (suc k) n

-- the same where it has the number 0
abbrev pub numbered : {X : Type 0} → List X → ℤ → Option X
numbered xs n = numbered_from xs 0 n

abbrev pub encodings : List yaml_encoding_t
encodings = encoding.YAML_ANY_ENCODING ∷ encoding.YAML_UTF8_ENCODING
    ∷ encoding.YAML_UTF16LE_ENCODING ∷ encoding.YAML_UTF16BE_ENCODING ∷ []

abbrev pub breaks : List yaml_break_t
breaks = line_break.YAML_ANY_BREAK ∷ line_break.YAML_CR_BREAK ∷ line_break.YAML_LN_BREAK
    ∷ line_break.YAML_CRLN_BREAK ∷ []

abbrev pub kinds : List yaml_event_type_t
kinds = kind.YAML_NO_EVENT ∷ kind.YAML_STREAM_START_EVENT ∷ kind.YAML_STREAM_END_EVENT
    ∷ kind.YAML_DOCUMENT_START_EVENT ∷ kind.YAML_DOCUMENT_END_EVENT ∷ kind.YAML_ALIAS_EVENT
    ∷ kind.YAML_SCALAR_EVENT ∷ kind.YAML_SEQUENCE_START_EVENT ∷ kind.YAML_SEQUENCE_END_EVENT
    ∷ kind.YAML_MAPPING_START_EVENT ∷ kind.YAML_MAPPING_END_EVENT ∷ []

abbrev pub scalar_styles : List yaml_scalar_style_t
scalar_styles = scalar.YAML_ANY_SCALAR_STYLE ∷ scalar.YAML_PLAIN_SCALAR_STYLE
    ∷ scalar.YAML_SINGLE_QUOTED_SCALAR_STYLE ∷ scalar.YAML_DOUBLE_QUOTED_SCALAR_STYLE
    ∷ scalar.YAML_LITERAL_SCALAR_STYLE ∷ scalar.YAML_FOLDED_SCALAR_STYLE ∷ []

abbrev pub sequence_styles : List yaml_sequence_style_t
sequence_styles = sequence.YAML_ANY_SEQUENCE_STYLE ∷ sequence.YAML_BLOCK_SEQUENCE_STYLE
    ∷ sequence.YAML_FLOW_SEQUENCE_STYLE ∷ []

abbrev pub mapping_styles : List yaml_mapping_style_t
mapping_styles = mapping.YAML_ANY_MAPPING_STYLE ∷ mapping.YAML_BLOCK_MAPPING_STYLE
    ∷ mapping.YAML_FLOW_MAPPING_STYLE ∷ []

abbrev pub errors : List yaml_error_type_t
errors = error.YAML_NO_ERROR ∷ error.YAML_MEMORY_ERROR ∷ error.YAML_READER_ERROR
    ∷ error.YAML_SCANNER_ERROR ∷ error.YAML_PARSER_ERROR ∷ error.YAML_COMPOSER_ERROR
    ∷ error.YAML_WRITER_ERROR ∷ error.YAML_EMITTER_ERROR ∷ []

-- ---- what numbers mean

unfoldable pub encoding_meant : ℤ → Option yaml_encoding_t
encoding_meant n = numbered encodings n

unfoldable pub break_meant : ℤ → Option yaml_break_t
break_meant n = numbered breaks n

-- the kind of an event
unfoldable pub kind_meant : ℤ → Option yaml_event_type_t
kind_meant n = numbered kinds n

unfoldable pub scalar_style_meant : ℤ → Option yaml_scalar_style_t
scalar_style_meant n = numbered scalar_styles n

unfoldable pub sequence_style_meant : ℤ → Option yaml_sequence_style_t
sequence_style_meant n = numbered sequence_styles n

unfoldable pub mapping_style_meant : ℤ → Option yaml_mapping_style_t
mapping_style_meant n = numbered mapping_styles n

-- ---- the numbers of what is handed out

abbrev pub encoding_number : yaml_encoding_t → ℤ
encoding_number encoding.YAML_ANY_ENCODING = pos 0
encoding_number encoding.YAML_UTF8_ENCODING = pos 1
encoding_number encoding.YAML_UTF16LE_ENCODING = pos 2
encoding_number encoding.YAML_UTF16BE_ENCODING = pos 3

abbrev pub scalar_style_number : yaml_scalar_style_t → ℤ
scalar_style_number scalar.YAML_ANY_SCALAR_STYLE = pos 0
scalar_style_number scalar.YAML_PLAIN_SCALAR_STYLE = pos 1
scalar_style_number scalar.YAML_SINGLE_QUOTED_SCALAR_STYLE = pos 2
scalar_style_number scalar.YAML_DOUBLE_QUOTED_SCALAR_STYLE = pos 3
scalar_style_number scalar.YAML_LITERAL_SCALAR_STYLE = pos 4
scalar_style_number scalar.YAML_FOLDED_SCALAR_STYLE = pos 5

abbrev pub sequence_style_number : yaml_sequence_style_t → ℤ
sequence_style_number sequence.YAML_ANY_SEQUENCE_STYLE = pos 0
sequence_style_number sequence.YAML_BLOCK_SEQUENCE_STYLE = pos 1
sequence_style_number sequence.YAML_FLOW_SEQUENCE_STYLE = pos 2

abbrev pub mapping_style_number : yaml_mapping_style_t → ℤ
mapping_style_number mapping.YAML_ANY_MAPPING_STYLE = pos 0
mapping_style_number mapping.YAML_BLOCK_MAPPING_STYLE = pos 1
mapping_style_number mapping.YAML_FLOW_MAPPING_STYLE = pos 2

-- that of a fault's kind
abbrev pub error_number : yaml_error_type_t → ℤ
error_number error.YAML_NO_ERROR = pos 0
error_number error.YAML_MEMORY_ERROR = pos 1
error_number error.YAML_READER_ERROR = pos 2
error_number error.YAML_SCANNER_ERROR = pos 3
error_number error.YAML_PARSER_ERROR = pos 4
error_number error.YAML_COMPOSER_ERROR = pos 5
error_number error.YAML_WRITER_ERROR = pos 6
error_number error.YAML_EMITTER_ERROR = pos 7
