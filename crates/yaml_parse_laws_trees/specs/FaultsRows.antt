-- Lists of tokens with their faults, by hand.
use Rattle.std.specs.Prelude.{ℕ, pos, List, [], ◌∷◌, Option, Some, None, codes}
use Rattle.yaml_parse_laws_trees.specs.parse_grammar.parse_model.declared.yaml_mark_t.{yaml_mark_t}
use Rattle.yaml_parse_laws_trees.specs.parse_grammar.parse_model.declared.yaml_encoding_t.TheVariants.{YAML_UTF8_ENCODING}
use Rattle.yaml_parse_laws_trees.specs.parse_grammar.parse_model.declared.yaml_scalar_style_t.TheVariants.{YAML_PLAIN_SCALAR_STYLE}
use Rattle.yaml_parse_model.specs.scan_types.Tokens.{Token, TokenBody, zero_mark}
use Rattle.yaml_parse_model.specs.scan_types.Tokens as token
use Rattle.yaml_parse_model.specs.scan_types.Faults.{Fault}
use Rattle.yaml_parse_laws_trees.specs.Wrong.{while_parsing, alone}
use Rattle.yaml_parse_laws_trees.specs.Places.{FaultOfTokens}

abbrev pub column : ℕ → yaml_mark_t
column n = record { index = n; line = 0; column = n }

-- a token of one byte, in that column
abbrev pub in_column : ℕ → TokenBody → Token
in_column n body = record { body = body; start_mark = column n; end_mark = column n }

-- a stream that begins with these
abbrev pub stream : List Token → List Token
stream ts = in_column 0 (token.stream_start YAML_UTF8_ENCODING) ∷ ts

abbrev pub word : TokenBody
word = token.scalar (codes "a") YAML_PLAIN_SCALAR_STYLE

abbrev pub version : ℕ → ℕ → TokenBody
version major minor = token.version_directive (pos major) (pos minor)

abbrev pub handle_e : TokenBody
handle_e = token.tag_directive (codes "!e!") (codes "e")

abbrev pub tag_e : TokenBody
tag_e = token.tag (codes "!e!") (codes "x")

-- a list of tokens, its own fault, and the fault that it has
pub record FaultRow : Type 0 where
  pub tokens : List Token
  pub own : Option Fault
  pub fault : Option Fault

-- a list without a fault of its own
abbrev pub row : List Token → Fault → FaultRow
row ts fault = record { tokens = ts; own = None; fault = Some fault }

abbrev pub no_node_at : List ℕ → ℕ → Fault
no_node_at context n = while_parsing context (column n)
    (codes "did not find expected node content") (column n)

abbrev pub scanner_fault : Fault
scanner_fault = alone (codes "a fault of the scanner") (column 2)

-- The texts, contexts and marks of the grammar's faults.
abbrev pub grammar_rows : List FaultRow
grammar_rows =
    -- nothing at all
    row [] (alone (codes "did not find expected <stream-start>") zero_mark)
    -- `a` after `a`
    ∷ row (stream (in_column 1 word ∷ in_column 2 word ∷ []))
    (alone (codes "did not find expected <document start>") (column 2))
    -- `- a`, and in the sequence `a` again
    ∷ row (stream (in_column 1 token.block_sequence_start ∷ in_column 2 token.block_entry
    ∷ in_column 3 word ∷ in_column 4 word ∷ []))
    (while_parsing (codes "while parsing a block collection") (column 1)
    (codes "did not find expected '-' indicator") (column 4))
    -- a key `[]`, and then `a`: the sequence is closed
    ∷ row (stream (in_column 1 token.block_mapping_start ∷ in_column 2 token.key
    ∷ in_column 3 token.flow_sequence_start ∷ in_column 4 token.flow_sequence_end
    ∷ in_column 5 word ∷ []))
    (while_parsing (codes "while parsing a block mapping") (column 1)
    (codes "did not find expected key") (column 5))
    -- `[a`, and the list ends
    ∷ row (stream (in_column 1 token.flow_sequence_start ∷ in_column 2 word ∷ []))
    (while_parsing (codes "while parsing a flow sequence") (column 1)
    (codes "did not find expected ',' or ']'") zero_mark)
    -- `[{a]`
    ∷ row (stream (in_column 1 token.flow_sequence_start ∷ in_column 2 token.flow_mapping_start
    ∷ in_column 3 word ∷ in_column 4 token.flow_sequence_end ∷ []))
    (while_parsing (codes "while parsing a flow mapping") (column 2)
    (codes "did not find expected ',' or '}'") (column 4))
    -- `:` where a document may begin
    ∷ row (stream (in_column 1 token.value ∷ []))
    (no_node_at (codes "while parsing a block node") 1)
    -- `[,`
    ∷ row (stream (in_column 1 token.flow_sequence_start ∷ in_column 2 token.flow_entry ∷ []))
    (no_node_at (codes "while parsing a flow node") 2)
    ∷ []

-- Those of directives and of tag handles.
abbrev pub directive_rows : List FaultRow
directive_rows =
    row (stream (in_column 1 (version 1 1) ∷ in_column 2 (version 1 2) ∷ []))
    (alone (codes "found duplicate %YAML directive") (column 2))
    ∷ row (stream (in_column 1 (version 2 0) ∷ []))
    (alone (codes "found incompatible YAML document") (column 1))
    ∷ row (stream (in_column 1 handle_e ∷ in_column 2 handle_e ∷ []))
    (alone (codes "found duplicate %TAG directive") (column 2))
    -- the handle's fault comes before that of the token at which it is met
    ∷ row (stream (in_column 1 (token.anchor (codes "b")) ∷ in_column 2 tag_e
    ∷ in_column 3 token.flow_entry ∷ []))
    (while_parsing (codes "while parsing a node") (column 1)
    (codes "found undefined tag handle") (column 2))
    -- the first document has the directive, the second one hasn't
    ∷ row (stream (in_column 1 handle_e ∷ in_column 2 token.document_start ∷ in_column 3 tag_e
    ∷ in_column 4 token.document_start ∷ in_column 5 tag_e ∷ []))
    (while_parsing (codes "while parsing a node") (column 5)
    (codes "found undefined tag handle") (column 5))
    ∷ []

-- A whole stream has none, whatever follows it. An unfinished list has its own.
abbrev pub other_rows : List FaultRow
other_rows =
    record {
      tokens = stream (in_column 1 token.stream_end ∷ in_column 2 word ∷ []);
      own = None;
      fault = None;
    }
    ∷ record {
      tokens = stream (in_column 1 token.flow_sequence_start ∷ []);
      own = Some scanner_fault;
      fault = Some scanner_fault;
    }
    ∷ []

abbrev pub AllHold : List FaultRow → Type 0
AllHold [] = Unit {0}
AllHold (r ∷ rs) = FaultOfTokens r.tokens r.own r.fault × AllHold rs

abbrev pub RowsHold : Type 0
RowsHold = AllHold grammar_rows × (AllHold directive_rows × AllHold other_rows)
