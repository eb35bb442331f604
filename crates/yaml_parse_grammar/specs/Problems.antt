-- The parser's faults.
use Rattle.std.specs.Prelude.{ℕ, pos, List, Option, Some, None, codes}
use Rattle.yaml_parse_model.specs.declared.yaml_mark_t.{yaml_mark_t}
use Rattle.yaml_parse_model.specs.declared.yaml_error_type_t.TheVariants.{YAML_PARSER_ERROR}
use Rattle.yaml_parse_model.specs.declared.yaml_origin_t.TheVariants.{Parser}
use Rattle.yaml_parse_model.specs.scan_types.Tokens.{zero_mark}
use Rattle.yaml_parse_model.specs.scan_types.Faults.{Fault}
use Rattle.yaml_parse_grammar.specs.declared.problem.ParseProblem.{ParseProblem}
use Rattle.yaml_parse_grammar.specs.declared.problem.ParseProblem.TheVariants as problem

unfoldable pub problem_text_of : ParseProblem → List ℕ
problem_text_of problem.NoStreamStart = codes "did not find expected <stream-start>"
problem_text_of problem.NoDocumentStart = codes "did not find expected <document start>"
problem_text_of problem.NoDash = codes "did not find expected '-' indicator"
problem_text_of problem.NoKey = codes "did not find expected key"
problem_text_of problem.NoSequenceEnd = codes "did not find expected ',' or ']'"
problem_text_of problem.NoMappingEnd = codes "did not find expected ',' or '}'"
problem_text_of problem.NoBlockNode = codes "did not find expected node content"
problem_text_of problem.NoFlowNode = codes "did not find expected node content"
problem_text_of problem.DuplicateVersion = codes "found duplicate %YAML directive"
problem_text_of problem.IncompatibleVersion = codes "found incompatible YAML document"
problem_text_of problem.DuplicateHandle = codes "found duplicate %TAG directive"
problem_text_of problem.UndefinedHandle = codes "found undefined tag handle"

unfoldable pub context_text_of : ParseProblem → Option (List ℕ)
context_text_of problem.NoStreamStart = None
context_text_of problem.NoDocumentStart = None
context_text_of problem.NoDash = Some (codes "while parsing a block collection")
context_text_of problem.NoKey = Some (codes "while parsing a block mapping")
context_text_of problem.NoSequenceEnd = Some (codes "while parsing a flow sequence")
context_text_of problem.NoMappingEnd = Some (codes "while parsing a flow mapping")
context_text_of problem.NoBlockNode = Some (codes "while parsing a block node")
context_text_of problem.NoFlowNode = Some (codes "while parsing a flow node")
context_text_of problem.DuplicateVersion = None
context_text_of problem.IncompatibleVersion = None
context_text_of problem.DuplicateHandle = None
context_text_of problem.UndefinedHandle = Some (codes "while parsing a node")

-- where the context begins, or zero where there is none
unfoldable pub context_place : ParseProblem → yaml_mark_t → yaml_mark_t
context_place problem.NoStreamStart mark = zero_mark
context_place problem.NoDocumentStart mark = zero_mark
context_place problem.DuplicateVersion mark = zero_mark
context_place problem.IncompatibleVersion mark = zero_mark
context_place problem.DuplicateHandle mark = zero_mark
context_place _ mark = mark

-- a problem at a mark, in what begins at another
abbrev pub parser_fault : ParseProblem → yaml_mark_t → yaml_mark_t → Fault
parser_fault problem at context = record {
  kind = YAML_PARSER_ERROR;
  problem = problem_text_of problem;
  offset = 0;
  number = pos 0;
  problem_mark = at;
  context = context_text_of problem;
  context_mark = context_place problem context;
  origin = Parser;
}
