-- The texts that say why a text can't be scanned.
use Rattle.std.specs.Prelude.{ℕ, pos, List, Option, Some, None, codes}
use Rattle.yaml_scan_types.specs.declared.name.yaml_error_type_t.TheVariants.{YAML_SCANNER_ERROR}
use Rattle.yaml_scan_types.specs.declared.fault.yaml_origin_t.TheVariants.{Scanner}
use Rattle.yaml_scan_model.specs.declared.problem.Problem.{Problem}
use Rattle.yaml_scan_model.specs.declared.problem.Problem.TheVariants as problem
use Rattle.yaml_scan_model.specs.declared.problem.Context.{Context}
use Rattle.yaml_scan_model.specs.declared.problem.Context.TheVariants as context
use Rattle.yaml_scan_model.specs.declared.problem.ScanFault.{ScanFault}
use Rattle.yaml_scan_types.specs.Faults.{Fault}

unfoldable pub problem_text_of : Problem → List ℕ
problem_text_of problem.NoTokenStart = codes "found character that cannot start any token"
problem_text_of problem.NoColon = codes "could not find expected ':'"
problem_text_of problem.SequenceEntryNotAllowed = codes
    "block sequence entries are not allowed in this context"
problem_text_of problem.KeyNotAllowed = codes "mapping keys are not allowed in this context"
problem_text_of problem.ValueNotAllowed = codes "mapping values are not allowed in this context"
problem_text_of problem.UnexpectedColon = codes "found unexpected ':'"
problem_text_of problem.TabInIndentation = codes "found a tab character that violates indentation"
problem_text_of problem.UnknownEscape = codes "found unknown escape character"
problem_text_of problem.NoHexNumber = codes "did not find expected hexdecimal number"
problem_text_of problem.InvalidCode = codes "found invalid Unicode character escape code"
problem_text_of problem.DocumentIndicator = codes "found unexpected document indicator"
problem_text_of problem.EndOfStream = codes "found unexpected end of stream"
problem_text_of problem.ZeroIndentation = codes "found an indentation indicator equal to 0"
problem_text_of problem.NoCommentOrBreak = codes "did not find expected comment or line break"
problem_text_of problem.TabForSpace = codes
    "found a tab character where an indentation space is expected"
problem_text_of problem.NoAlphanumeric = codes
    "did not find expected alphabetic or numeric character"
problem_text_of problem.NoTagUri = codes "did not find expected tag URI"
problem_text_of problem.NoEscapedOctet = codes "did not find URI escaped octet"
problem_text_of problem.WrongLeadingOctet = codes "found an incorrect leading UTF-8 octet"
problem_text_of problem.WrongTrailingOctet = codes "found an incorrect trailing UTF-8 octet"
problem_text_of problem.NoClosingBracket = codes "did not find the expected '>'"
problem_text_of problem.NoWhitespaceOrBreak = codes "did not find expected whitespace or line break"
problem_text_of problem.NoDirectiveName = codes "could not find expected directive name"
problem_text_of problem.NotAlphabetical = codes "found unexpected non-alphabetical character"
problem_text_of problem.UnknownDirective = codes "found unknown directive name"
problem_text_of problem.NoVersionNumber = codes "did not find expected version number"
problem_text_of problem.LongVersionNumber = codes "found extremely long version number"
problem_text_of problem.NoDigitOrDot = codes "did not find expected digit or '.' character"
problem_text_of problem.NoExclamationMark = codes "did not find expected '!'"
problem_text_of problem.NoWhitespace = codes "did not find expected whitespace"

unfoldable pub context_text_of : Context → Option (List ℕ)
context_text_of context.Nothing = None
context_text_of context.NextToken = Some (codes "while scanning for the next token")
context_text_of context.SimpleKey = Some (codes "while scanning a simple key")
context_text_of context.PlainScalar = Some (codes "while scanning a plain scalar")
context_text_of context.QuotedScalarEscape = Some (codes "while parsing a quoted scalar")
context_text_of context.QuotedScalar = Some (codes "while scanning a quoted scalar")
context_text_of context.BlockScalar = Some (codes "while scanning a block scalar")
context_text_of context.Anchor = Some (codes "while scanning an anchor")
context_text_of context.Alias = Some (codes "while scanning an alias")
context_text_of context.TagUri = Some (codes "while parsing a tag")
context_text_of context.Tag = Some (codes "while scanning a tag")
context_text_of context.TagDirectiveUri = Some (codes "while parsing a %TAG directive")
context_text_of context.Directive = Some (codes "while scanning a directive")
context_text_of context.VersionDirective = Some (codes "while scanning a %YAML directive")
context_text_of context.TagDirectiveStart = Some (codes "while scanning a tag directive")
context_text_of context.TagDirectiveHandle = Some (codes "while parsing a tag directive")
context_text_of context.TagDirective = Some (codes "while scanning a %TAG directive")

-- the located fault of a problem in its context
abbrev pub scanner_fault : ScanFault → Fault
scanner_fault f = record {
  kind = YAML_SCANNER_ERROR;
  problem = problem_text_of f.problem;
  offset = 0;
  number = pos 0;
  problem_mark = f.problem_mark;
  context = context_text_of f.context;
  context_mark = f.context_mark;
  origin = Scanner;
}
