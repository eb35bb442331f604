-- The faults of bytes that spell no text.
use Rattle.std.specs.Prelude.{ℕ, List, None, codes}
use Rattle.yaml_scan_model.specs.declared.name.yaml_error_type_t.TheVariants.{YAML_READER_ERROR}
use Rattle.yaml_scan_model.specs.declared.fault.yaml_origin_t.TheVariants.{Reader}
use Rattle.yaml_scan_types.specs.Tokens.{zero_mark}
use Rattle.yaml_scan_types.specs.Faults.{Fault}
use Rattle.yaml_scan_decode.specs.declared.offence.ReaderProblem.{ReaderProblem}
use Rattle.yaml_scan_decode.specs.declared.offence.ReaderProblem.TheVariants as problems
use Rattle.yaml_scan_decode.specs.declared.offence.Offence.{Offence}

unfoldable pub problem_text_of : ReaderProblem → List ℕ
problem_text_of problems.InvalidLeadingOctet = codes "invalid leading UTF-8 octet"
problem_text_of problems.IncompleteSequence = codes "incomplete UTF-8 octet sequence"
problem_text_of problems.InvalidTrailingOctet = codes "invalid trailing UTF-8 octet"
problem_text_of problems.InvalidLength = codes "invalid length of a UTF-8 sequence"
problem_text_of problems.InvalidCharacter = codes "invalid Unicode character"
problem_text_of problems.IncompleteCharacter = codes "incomplete UTF-16 character"
problem_text_of problems.UnexpectedLowSurrogate = codes "unexpected low surrogate area"
problem_text_of problems.IncompletePair = codes "incomplete UTF-16 surrogate pair"
problem_text_of problems.ExpectedLowSurrogate = codes "expected low surrogate area"
problem_text_of problems.ControlCharacter = codes "control characters are not allowed"

-- the located fault of an offence
abbrev pub reader_fault : Offence → Fault
reader_fault o = record {
  kind = YAML_READER_ERROR;
  problem = problem_text_of o.problem;
  offset = o.offset;
  number = o.value;
  problem_mark = zero_mark;
  context = None;
  context_mark = zero_mark;
  origin = Reader;
}
