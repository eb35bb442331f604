-- The text that the places of an input's events, tokens and faults refer to.
use Rattle.std.specs.Prelude.{ℕ, Bool, true, false, List, [], Result, Ok, Err}
use Rattle.yaml_parse.specs.declared.yaml_encoding_t.{yaml_encoding_t}
use Rattle.yaml_parse.specs.declared.yaml_error_type_t.{yaml_error_type_t}
use Rattle.yaml_parse.specs.declared.yaml_fault_t.{yaml_fault_t}
use Rattle.yaml_parse.specs.declared.yaml_error_type_t.TheVariants.{YAML_MEMORY_ERROR}
use Rattle.yaml_scan.specs.Decoding.{decoded_text}

abbrev pub text_or_none : {E : Type 0} → Result (List ℕ) E → List ℕ
text_or_none (Ok text) = text
text_or_none (Err e) = []

-- the text that an input's bytes spell; none where they spell none
abbrev pub spelled_text : yaml_encoding_t → List ℕ → List ℕ
spelled_text from input = text_or_none (decoded_text from input)

-- the kind of a fault is out of memory
abbrev pub is_memory : yaml_error_type_t → Bool
is_memory YAML_MEMORY_ERROR = true
is_memory _ = false

-- memory was refused before the end
abbrev pub is_starved : Result (Unit {0}) yaml_fault_t → Bool
is_starved (Ok done) = false
is_starved (Err f) = is_memory f.kind
