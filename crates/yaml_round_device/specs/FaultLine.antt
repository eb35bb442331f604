-- The line that reports a fault.
use Rattle.std.specs.Prelude.{ℕ, zero, ◌+◌, List, [], ◌++◌, Option, Some, None, codes, decimal, ℤ, negsuc}
use Rattle.std.specs.Fmt.{signed_decimal}
use Rattle.yaml_scan_types.specs.declared.name.yaml_error_type_t.{yaml_error_type_t}
use Rattle.yaml_scan_types.specs.declared.name.yaml_error_type_t.TheVariants.{YAML_NO_ERROR, YAML_MEMORY_ERROR, YAML_READER_ERROR, YAML_SCANNER_ERROR, YAML_PARSER_ERROR, YAML_COMPOSER_ERROR, YAML_WRITER_ERROR, YAML_EMITTER_ERROR}
use Rattle.yaml_scan_types.specs.declared.record.yaml_mark_t.{yaml_mark_t}
use Rattle.yaml_scan_types.specs.Faults.{Fault}

-- the kind's word, and `error`
abbrev pub headline : yaml_error_type_t → List ℕ
headline YAML_NO_ERROR = codes "no error"
headline YAML_MEMORY_ERROR = codes "memory error"
headline YAML_READER_ERROR = codes "reader error"
headline YAML_SCANNER_ERROR = codes "scanner error"
headline YAML_PARSER_ERROR = codes "parser error"
headline YAML_COMPOSER_ERROR = codes "composer error"
headline YAML_WRITER_ERROR = codes "writer error"
headline YAML_EMITTER_ERROR = codes "emitter error"

-- a place in a text, counted from 1
abbrev pub place : yaml_mark_t → List ℕ
place mark = codes " (line " ++ decimal (mark.line + 1) ++ codes ", column " ++ decimal
    (mark.column + 1) ++ codes ")"

-- the offset, and the value that is there unless it is -1
abbrev pub bytes_place : ℕ → ℤ → List ℕ
bytes_place offset (negsuc zero) = codes " (byte " ++ decimal offset ++ codes ")"
bytes_place offset number = codes " (byte " ++ decimal offset ++ codes ", value " ++ signed_decimal
    number ++ codes ")"

-- the same by its parts
abbrev pub problem_place_of : yaml_error_type_t → ℕ → ℤ → yaml_mark_t → List ℕ
problem_place_of YAML_READER_ERROR offset number mark = bytes_place offset number
problem_place_of YAML_SCANNER_ERROR offset number mark = place mark
problem_place_of YAML_PARSER_ERROR offset number mark = place mark
problem_place_of YAML_COMPOSER_ERROR offset number mark = place mark
problem_place_of other offset number mark = []

-- where the problem is, as the kind says it
abbrev pub problem_place : Fault → List ℕ
problem_place fault = problem_place_of fault.kind fault.offset fault.number fault.problem_mark

-- the context and its place, where there is one
abbrev pub context_part : Option (List ℕ) → yaml_mark_t → List ℕ
context_part None mark = []
context_part (Some context) mark = codes ": " ++ context ++ place mark

-- what follows the kind; nothing where memory ran out
abbrev pub details : Fault → List ℕ
details fault = context_part fault.context fault.context_mark ++ codes ": " ++ fault.problem
    ++ problem_place fault

abbrev pub details_unless_memory : yaml_error_type_t → List ℕ → List ℕ
details_unless_memory YAML_MEMORY_ERROR rest = []
details_unless_memory other rest = rest

abbrev pub fault_line : Fault → List ℕ
fault_line fault = headline fault.kind ++ details_unless_memory fault.kind (details fault)
