-- The number of a fault's kind is that of its row.
use Rattle.std.proofs.Common.{◌≡◌, refl, Some}
use Rattle.yaml_parse.specs.declared.yaml_error_type_t.{yaml_error_type_t}
use Rattle.yaml_parse.specs.declared.yaml_error_type_t.TheVariants as error
use Rattle.yaml_round_answers.specs.Numbers.{error_number, numbered, errors}

pub error_is : (k : yaml_error_type_t) → numbered errors (error_number k) ≡ Some k
error_is error.YAML_NO_ERROR = refl
error_is error.YAML_MEMORY_ERROR = refl
error_is error.YAML_READER_ERROR = refl
error_is error.YAML_SCANNER_ERROR = refl
error_is error.YAML_PARSER_ERROR = refl
error_is error.YAML_COMPOSER_ERROR = refl
error_is error.YAML_WRITER_ERROR = refl
error_is error.YAML_EMITTER_ERROR = refl
