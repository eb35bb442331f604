-- Lists of tokens with the events before their fault, by hand.
use Rattle.std.specs.Prelude.{ℕ, true, false, List, [], ◌∷◌, Option, Some, None, codes}
use Rattle.yaml_parse_laws_trees.specs.parse_grammar.parse_model.declared.yaml_encoding_t.TheVariants.{YAML_UTF8_ENCODING}
use Rattle.yaml_parse_laws_trees.specs.parse_grammar.parse_model.declared.yaml_scalar_style_t.TheVariants.{YAML_PLAIN_SCALAR_STYLE}
use Rattle.yaml_parse_laws_trees.specs.parse_grammar.parse_model.declared.yaml_sequence_style_t.TheVariants.{YAML_BLOCK_SEQUENCE_STYLE, YAML_FLOW_SEQUENCE_STYLE}
use Rattle.yaml_parse_laws_trees.specs.parse_grammar.parse_model.declared.yaml_mapping_style_t.TheVariants.{YAML_FLOW_MAPPING_STYLE}
use Rattle.yaml_parse_laws_trees.specs.parse_grammar.parse_model.declared.yaml_mark_t.{yaml_mark_t}
use Rattle.yaml_parse_model.specs.scan_types.Tokens.{Token, TokenBody, zero_mark}
use Rattle.yaml_parse_model.specs.scan_types.Tokens as token
use Rattle.yaml_parse_laws_trees.specs.parse_grammar.parse_model.Events.{EventBody}
use Rattle.yaml_parse_laws_trees.specs.parse_grammar.parse_model.Events as event
use Rattle.yaml_parse_model.specs.scan_types.Faults.{Fault}
use Rattle.yaml_parse_laws_trees.specs.parse_grammar.Resolve.{Told}
use Rattle.yaml_parse_laws_trees.specs.FaultsRows.{column, in_column, stream, word, scanner_fault}
use Rattle.yaml_parse_laws_trees.specs.Given.{EventsOfTokens}

-- an event at a mark, and how many tokens aren't asked for by then
abbrev pub at_mark : yaml_mark_t → EventBody → ℕ → Told
at_mark mark body left = (record { body = body; start_mark = mark; end_mark = mark }, left)

abbrev pub told_at : ℕ → EventBody → ℕ → Told
told_at n body left = at_mark (column n) body left

-- a stream's start, and that of its first document, in column 1; that many tokens are after the first
abbrev pub begun : ℕ → ℕ → List Told → List Told
begun left less others = told_at 0 (event.stream_start YAML_UTF8_ENCODING) left
    ∷ told_at 1 (event.document_start None [] true) less ∷ others

abbrev pub word_event : EventBody
word_event = event.scalar None None (codes "a") true false YAML_PLAIN_SCALAR_STYLE

-- a node that has an anchor and nothing else
abbrev pub named : EventBody
named = event.scalar (Some (codes "b")) None [] true false YAML_PLAIN_SCALAR_STYLE

abbrev pub anchor_b : TokenBody
anchor_b = token.anchor (codes "b")

-- a list of tokens, its own fault, and its events
pub record EventsRow : Type 0 where
  pub tokens : List Token
  pub own : Option Fault
  pub events : List Told

abbrev pub row : List Token → Option Fault → List Told → EventsRow
row ts own events = record { tokens = ts; own = own; events = events }

abbrev pub rows : List EventsRow
rows =
    -- `[? a : &b`, and a block's end: the node that has an anchor alone is given, and the end of the pair
    row (stream (in_column 1 token.flow_sequence_start ∷ in_column 2 token.key ∷ in_column 3 word
    ∷ in_column 4 token.value ∷ in_column 5 anchor_b ∷ in_column 6 token.block_end ∷ [])) None
    (begun 6 5 (told_at 1 (event.sequence_start None None true YAML_FLOW_SEQUENCE_STYLE) 5
    ∷ told_at 2 (event.mapping_start None None true YAML_FLOW_MAPPING_STYLE) 4
    ∷ told_at 3 word_event 3
    ∷ told_at 5 named 0
    ∷ told_at 6 event.mapping_end 0
    ∷ []))
    -- `- ]`: the node that may be left out isn't
    ∷ row (stream (in_column 1 token.block_sequence_start ∷ in_column 2 token.block_entry
    ∷ in_column 3 token.flow_sequence_end ∷ [])) None
    (begun 3 2 (told_at 1 (event.sequence_start None None true YAML_BLOCK_SEQUENCE_STYLE) 2 ∷ []))
    -- `a` after `a`: the document's end is
    ∷ row (stream (in_column 1 word ∷ in_column 2 word ∷ [])) None
    (begun 2 1 (told_at 1 word_event 1 ∷ told_at 2 (event.document_end true) 0 ∷ []))
    -- an anchor, and the list ends
    ∷ row (stream (in_column 1 anchor_b ∷ [])) None
    (begun 1 0 (told_at 1 named 0 ∷ at_mark zero_mark (event.document_end true) 0 ∷ []))
    -- or a fault of the scanner is in the next token's place
    ∷ row (stream (in_column 1 anchor_b ∷ [])) (Some scanner_fault) (begun 1 0 [])
    ∷ []

abbrev pub AllHold : List EventsRow → Type 0
AllHold [] = Unit {0}
AllHold (r ∷ rs) = EventsOfTokens r.tokens r.own r.events × AllHold rs

abbrev pub RowsHold : Type 0
RowsHold = AllHold rows
