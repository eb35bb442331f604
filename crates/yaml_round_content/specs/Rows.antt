-- Lists of tokens with their contents, by hand.
use Rattle.std.specs.Prelude.{pos, true, false, List, [], ◌∷◌, Some, None, Ok, codes}
use Rattle.yaml_parse_model.specs.scan_model.declared.name.yaml_scalar_style_t.TheVariants.{YAML_DOUBLE_QUOTED_SCALAR_STYLE}
use Rattle.yaml_parse_model.specs.scan_types.Tokens.{Token, TokenBody}
use Rattle.yaml_parse_model.specs.scan_types.Tokens as token
use Rattle.yaml_emit_laws.specs.parse_laws_trees.FaultsRows.{in_column, stream, word, handle_e, tag_e, version}
use Rattle.yaml_round_content.specs.Said.{Node, Document, untagged, tagged, alias, scalar, sequence, mapping, no_nodes, node, no_pairs, pair}
use Rattle.yaml_round_content.specs.Reading.{TokensRead}

pub record Row : Type 0 where
  pub tokens : List Token
  pub content : List Document

-- tokens up to the stream's end; their places say nothing
abbrev pub to_end : List TokenBody → List Token
to_end [] = in_column 0 token.stream_end ∷ []
to_end (b ∷ bs) = in_column 0 b ∷ to_end bs

abbrev pub whole : List TokenBody → List Token
whole bodies = stream (to_end bodies)

-- one document without directives
abbrev pub bare : Node → List Document
bare root = record { version = None; directives = []; root = root } ∷ []

abbrev pub a : Node
a = scalar None (untagged true) (codes "a")

abbrev pub left_out : Node
left_out = scalar None (untagged true) []

abbrev pub rows : List Row
rows =
    -- nothing
    record { tokens = whole []; content = [] }
    -- `"a"`: it doesn't count as plain
    ∷ record {
      tokens = whole (token.scalar (codes "a") YAML_DOUBLE_QUOTED_SCALAR_STYLE ∷ []);
      content = bare (scalar None (untagged false) (codes "a"));
    }
    -- `! "a"`: with the tag `!` it does
    ∷ record {
      tokens = whole (token.tag [] (codes "!")
          ∷ token.scalar (codes "a") YAML_DOUBLE_QUOTED_SCALAR_STYLE ∷ []);
      content = bare a;
    }
    -- `[a, a: ]`: a pair inside the brackets of a sequence is a mapping of its own
    ∷ record {
      tokens = whole (token.flow_sequence_start ∷ word ∷ token.flow_entry ∷ token.key ∷ word
          ∷ token.value ∷ token.flow_sequence_end ∷ []);
      content = bare (sequence None None
          (node a (node (mapping None None (pair a left_out no_pairs)) no_nodes)));
    }
    -- `{a}`: a lone node inside those of a mapping is a key
    ∷ record {
      tokens = whole (token.flow_mapping_start ∷ word ∷ token.flow_mapping_end ∷ []);
      content = bare (mapping None None (pair a left_out no_pairs));
    }
    -- a block mapping with an anchor; its value is a sequence that isn't indented, and has an alias
    ∷ record {
      tokens = whole (token.anchor (codes "b") ∷ token.block_mapping_start ∷ token.key ∷ word
          ∷ token.value ∷ token.block_entry ∷ token.alias (codes "b") ∷ token.block_entry
          ∷ token.block_end ∷ []);
      content = bare (mapping (Some (codes "b")) None
          (pair a (sequence None None (node (alias (codes "b")) (node left_out no_nodes)))
          no_pairs));
    }
    -- a tag under a directive, and then a document in which `!!` stands for YAML's tags
    ∷ record {
      tokens = whole (version 1 1 ∷ handle_e ∷ token.document_start ∷ tag_e ∷ word
          ∷ token.document_end ∷ token.document_start ∷ token.tag (codes "!!") (codes "x") ∷ []);
      content = record {
        version = Some (record { major = pos 1; minor = pos 1 });
        directives = record { handle = codes "!e!"; prefix = codes "e" } ∷ [];
        root = scalar None (tagged (codes "ex")) (codes "a");
      } ∷ bare (scalar None (tagged (codes "tag:yaml.org,2002:x")) []);
    }
    ∷ []

abbrev pub AllHold : List Row → Type 0
AllHold [] = Unit {0}
AllHold (r ∷ rs) = TokensRead r.tokens None (Ok r.content) × AllHold rs

-- The contents of these lists are those.
abbrev pub RowsHold : Type 0
RowsHold = AllHold rows
