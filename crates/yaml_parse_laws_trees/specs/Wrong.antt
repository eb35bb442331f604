-- What is wrong at a token, by the tokens before it, the latest first.
use Rattle.std.specs.Prelude.{ℕ, ℤ, pos, Bool, true, false, if◌then◌else◌, ◌&&◌, ◌||◌, List, [], ◌∷◌, Option, Some, None, codes}
use Rattle.std.specs.Ordering.{int_eq}
use Rattle.yaml_parse_laws_trees.specs.parse_grammar.parse_model.declared.yaml_mark_t.{yaml_mark_t}
use Rattle.yaml_parse_laws_trees.specs.parse_grammar.parse_model.declared.yaml_error_type_t.TheVariants.{YAML_PARSER_ERROR}
use Rattle.yaml_parse_laws_trees.specs.parse_grammar.parse_model.declared.yaml_origin_t.TheVariants.{Parser}
use Rattle.yaml_parse_model.specs.scan_types.Tokens.{Token, TokenBody, zero_mark}
use Rattle.yaml_parse_model.specs.scan_types.Tokens as token
use Rattle.yaml_parse_model.specs.scan_types.Faults.{Fault}
use Rattle.yaml_parse_laws_trees.specs.LookBack.{opened, in_brackets, asks_for_node, directives_before, document_directives, has_version, has_handle, is_defined, NodeTag, ended_tag}

-- a problem at a mark, while something was parsed that begins at another
abbrev pub while_parsing : List ℕ → yaml_mark_t → List ℕ → yaml_mark_t → Fault
while_parsing context start problem at = record {
  kind = YAML_PARSER_ERROR;
  problem = problem;
  offset = 0;
  number = pos 0;
  problem_mark = at;
  context = Some context;
  context_mark = start;
  origin = Parser;
}

-- a problem at a mark, without a context
abbrev pub alone : List ℕ → yaml_mark_t → Fault
alone problem at = record {
  kind = YAML_PARSER_ERROR;
  problem = problem;
  offset = 0;
  number = pos 0;
  problem_mark = at;
  context = None;
  context_mark = zero_mark;
  origin = Parser;
}

-- ---- the grammar's

-- a node must come at that mark
abbrev pub no_node : Bool → yaml_mark_t → Fault
no_node true at = while_parsing (codes "while parsing a flow node") at
    (codes "did not find expected node content") at
no_node false at = while_parsing (codes "while parsing a block node") at
    (codes "did not find expected node content") at

abbrev pub no_document : yaml_mark_t → Fault
no_document at = alone (codes "did not find expected <document start>") at

-- the collection that such a token opened doesn't go on so
abbrev pub no_part : TokenBody → yaml_mark_t → yaml_mark_t → Fault
no_part token.block_sequence_start start at = while_parsing
    (codes "while parsing a block collection") start
    (codes "did not find expected '-' indicator") at
no_part token.block_mapping_start start at = while_parsing
    (codes "while parsing a block mapping") start
    (codes "did not find expected key") at
no_part token.flow_sequence_start start at = while_parsing
    (codes "while parsing a flow sequence") start
    (codes "did not find expected ',' or ']'") at
no_part token.flow_mapping_start start at = while_parsing
    (codes "while parsing a flow mapping") start
    (codes "did not find expected ',' or '}'") at
no_part _ start at = no_document at

-- the innermost open collection doesn't go on so; where none is open, a document must come
abbrev pub not_going_on : List Token → yaml_mark_t → Fault
not_going_on [] at = no_document at
not_going_on (t ∷ others) at = no_part t.body t.start_mark at

-- The fault of a token at that mark with which no tree goes on.
abbrev pub grammar_fault : List Token → yaml_mark_t → Fault
grammar_fault [] at = alone (codes "did not find expected <stream-start>") at
grammar_fault (t ∷ past) at =
    if asks_for_node t.body then no_node (in_brackets (opened (t ∷ past))) at
    else not_going_on (opened (t ∷ past)) at

-- ---- a directive's

abbrev pub is_version_1 : ℤ → ℤ → Bool
is_version_1 major minor = int_eq major (pos 1)
    && (int_eq minor (pos 1) || int_eq minor (pos 2))

abbrev pub version_fault : Bool → Bool → yaml_mark_t → Option Fault
version_fault true known at = Some (alone (codes "found duplicate %YAML directive") at)
version_fault false true at = None
version_fault false false at = Some (alone (codes "found incompatible YAML document") at)

abbrev pub handle_twice : Bool → yaml_mark_t → Option Fault
handle_twice true at = Some (alone (codes "found duplicate %TAG directive") at)
handle_twice false at = None

-- The fault of a directive, by the directives that are directly before it.
abbrev pub directive_fault : List Token → TokenBody → yaml_mark_t → Option Fault
directive_fault past (token.version_directive major minor) at =
    version_fault (has_version (directives_before past)) (is_version_1 major minor) at
directive_fault past (token.tag_directive handle prefix) at =
    handle_twice (has_handle handle (directives_before past)) at
directive_fault past _ at = None

-- ---- a tag handle's

abbrev pub undefined_handle : Bool → NodeTag → Option Fault
undefined_handle true tag = None
undefined_handle false tag = Some (while_parsing (codes "while parsing a node") tag.node
    (codes "found undefined tag handle") tag.tag)

abbrev pub tag_fault : Option NodeTag → List Token → Option Fault
tag_fault None directives = None
tag_fault (Some tag) directives = undefined_handle (is_defined tag.handle directives) tag

-- The fault of the handle of a node whose properties end before that token: it is met at the token.
abbrev pub handle_fault : List Token → TokenBody → Option Fault
handle_fault past next = tag_fault (ended_tag past next) (document_directives past)
