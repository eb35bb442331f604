-- Lists of tokens with the faults that loading them ends in, by hand.
use Rattle.std.specs.Prelude.{ℕ, List, [], ◌∷◌, Some, None, codes}
use Rattle.yaml_parse_model.specs.scan_types.Tokens.{TokenBody, zero_mark}
use Rattle.yaml_parse_model.specs.scan_types.Tokens as token
use Rattle.yaml_parse_model.specs.scan_types.Faults.{Fault}
use Rattle.yaml_parse_laws_trees.specs.Wrong.{while_parsing, alone}
use Rattle.yaml_parse_laws_trees.specs.FaultsRows.{column, in_column, stream, word, tag_e, FaultRow, row, scanner_fault}
use Rattle.yaml_parse_loader.specs.Numbering.{undefined_alias}
use Rattle.yaml_parse_laws_trees.specs.Faults.{FaultOfLoading}

abbrev pub anchor_b : TokenBody
anchor_b = token.anchor (codes "b")

abbrev pub alias_b : TokenBody
alias_b = token.alias (codes "b")

abbrev pub no_anchor_at : ℕ → Fault
no_anchor_at n = undefined_alias (column n)

-- Aliases without an anchor before them.
abbrev pub alias_rows : List FaultRow
alias_rows =
    -- `*b`
    row (stream (in_column 1 alias_b ∷ in_column 2 token.stream_end ∷ [])) (no_anchor_at 1)
    -- `[*b, &b a`: an anchor after it doesn't count, and what is wrong after it comes later
    ∷ row (stream (in_column 1 token.flow_sequence_start ∷ in_column 2 alias_b
    ∷ in_column 3 token.flow_entry ∷ in_column 4 anchor_b ∷ in_column 5 word ∷ []))
    (no_anchor_at 2)
    -- the same before a fault of the scanner
    ∷ record {
      tokens = stream (in_column 1 token.flow_sequence_start ∷ in_column 2 alias_b ∷ []);
      own = Some scanner_fault;
      fault = Some (no_anchor_at 2);
    }
    -- `&b a`, and in the next document `*b`
    ∷ row (stream (in_column 1 anchor_b ∷ in_column 2 word ∷ in_column 3 token.document_start
    ∷ in_column 4 alias_b ∷ in_column 5 token.stream_end ∷ [])) (no_anchor_at 4)
    ∷ []

-- What the parser finds wrong comes first, also at the alias itself.
abbrev pub parser_rows : List FaultRow
parser_rows =
    -- `a *b`
    row (stream (in_column 1 word ∷ in_column 2 alias_b ∷ []))
    (alone (codes "did not find expected <document start>") (column 2))
    -- `!e!x *b`: the handle's fault is met at the alias
    ∷ row (stream (in_column 1 tag_e ∷ in_column 2 alias_b ∷ []))
    (while_parsing (codes "while parsing a node") (column 1)
    (codes "found undefined tag handle") (column 1))
    ∷ []

-- Each alias has its anchor.
abbrev pub right_rows : List FaultRow
right_rows =
    -- `&b [*b`: a collection is named from its start on
    row (stream (in_column 1 anchor_b ∷ in_column 2 token.flow_sequence_start
    ∷ in_column 3 alias_b ∷ []))
    (while_parsing (codes "while parsing a flow sequence") (column 2)
    (codes "did not find expected ',' or ']'") zero_mark)
    -- `&b [*b]`, and an alias after the stream's end
    ∷ record {
      tokens = stream (in_column 1 anchor_b ∷ in_column 2 token.flow_sequence_start
          ∷ in_column 3 alias_b ∷ in_column 4 token.flow_sequence_end
          ∷ in_column 5 token.stream_end ∷ in_column 6 (token.alias (codes "c")) ∷ []);
      own = None;
      fault = None;
    }
    ∷ []

abbrev pub AllHold : List FaultRow → Type 0
AllHold [] = Unit {0}
AllHold (r ∷ rs) = FaultOfLoading r.tokens r.own r.fault × AllHold rs

abbrev pub RowsHold : Type 0
RowsHold = AllHold alias_rows × (AllHold parser_rows × AllHold right_rows)
