-- Looking back over the tokens before a token, the latest first.
use Rattle.std.specs.Prelude.{ℕ, Bool, true, false, if◌then◌else◌, ◌||◌, List, [], ◌∷◌, Option, Some, None, codes}
use Rattle.std.specs.Str.{bytes_eq}
use Rattle.yaml_parse_laws_trees.specs.parse_grammar.parse_model.declared.yaml_mark_t.{yaml_mark_t}
use Rattle.yaml_parse_model.specs.scan_types.Tokens.{Token, TokenBody}
use Rattle.yaml_parse_model.specs.scan_types.Tokens as token

-- the tokens that were read, the latest first, before those that follow
abbrev pub followed_by : List Token → List Token → List Token
followed_by [] ts = ts
followed_by (t ∷ past) ts = followed_by past (t ∷ ts)

-- ---- collections

abbrev pub opens : TokenBody → Bool
opens token.block_sequence_start = true
opens token.block_mapping_start = true
opens token.flow_sequence_start = true
opens token.flow_mapping_start = true
opens _ = false

abbrev pub closes : TokenBody → Bool
closes token.block_end = true
closes token.flow_sequence_end = true
closes token.flow_mapping_end = true
closes _ = false

abbrev pub surrounding : List Token → List Token
surrounding [] = []
surrounding (t ∷ others) = others

-- what is open after a token, by what was open before it
abbrev pub opened_behind : Token → List Token → List Token
opened_behind t others = if opens t.body then t ∷ others
    else if closes t.body then surrounding others
    else others

-- The tokens that opened the collections which no token has closed yet, the innermost first.
abbrev pub opened : List Token → List Token
opened [] = []
opened (t ∷ past) = opened_behind t (opened past)

abbrev pub opens_brackets : TokenBody → Bool
opens_brackets token.flow_sequence_start = true
opens_brackets token.flow_mapping_start = true
opens_brackets _ = false

-- the innermost open collection has brackets
abbrev pub in_brackets : List Token → Bool
in_brackets [] = false
in_brackets (t ∷ others) = opens_brackets t.body

-- after the token a node must come, or what may follow a left-out one
abbrev pub asks_for_node : TokenBody → Bool
asks_for_node (token.stream_start encoding) = true
asks_for_node token.document_start = true
asks_for_node token.block_entry = true
asks_for_node token.key = true
asks_for_node token.value = true
asks_for_node token.flow_entry = true
asks_for_node token.flow_sequence_start = true
asks_for_node token.flow_mapping_start = true
asks_for_node _ = false

-- ---- directives

abbrev pub is_directive : TokenBody → Bool
is_directive (token.version_directive major minor) = true
is_directive (token.tag_directive handle prefix) = true
is_directive _ = false

abbrev pub starts_document : TokenBody → Bool
starts_document token.document_start = true
starts_document _ = false

-- The directives that are directly before.
abbrev pub directives_before : List Token → List Token
directives_before [] = []
directives_before (t ∷ past) = if is_directive t.body then t ∷ directives_before past else []

-- The directives of the document that the tokens lead into: those before the last `---`, if any.
abbrev pub document_directives : List Token → List Token
document_directives [] = []
document_directives (t ∷ past) = if starts_document t.body then directives_before past
    else document_directives past

abbrev pub is_version : TokenBody → Bool
is_version (token.version_directive major minor) = true
is_version _ = false

-- a `%YAML` directive is among them
abbrev pub has_version : List Token → Bool
has_version [] = false
has_version (t ∷ ts) = is_version t.body || has_version ts

abbrev pub names_handle : List ℕ → TokenBody → Bool
names_handle handle (token.tag_directive other prefix) = bytes_eq other handle
names_handle handle _ = false

-- a `%TAG` directive of that handle is among them
abbrev pub has_handle : List ℕ → List Token → Bool
has_handle handle [] = false
has_handle handle (t ∷ ts) = names_handle handle t.body || has_handle handle ts

-- The handle is in order: it is none at all, one of the directives has it, or it is `!` or `!!`.
abbrev pub is_defined : List ℕ → List Token → Bool
is_defined [] directives = true
is_defined (c ∷ handle) directives = has_handle (c ∷ handle) directives
    || (bytes_eq (c ∷ handle) (codes "!") || bytes_eq (c ∷ handle) (codes "!!"))

-- ---- properties

-- the handle of a tag, where the tag begins, and where its node does
pub record NodeTag : Type 0 where
  pub handle : List ℕ
  pub tag : yaml_mark_t
  pub node : yaml_mark_t

abbrev pub begins_node : List ℕ → yaml_mark_t → Option NodeTag
begins_node handle at = Some (record { handle = handle; tag = at; node = at })

-- a tag that is first of the properties: an anchor may still join it
abbrev pub unless_joined : List ℕ → yaml_mark_t → TokenBody → Option NodeTag
unless_joined handle at (token.anchor name) = None
unless_joined handle at _ = begins_node handle at

-- a tag, by the token before it
abbrev pub tag_behind : List ℕ → yaml_mark_t → List Token → TokenBody → Option NodeTag
tag_behind handle at [] next = unless_joined handle at next
tag_behind handle at (t ∷ past) next = behind t.body
  where
    behind : TokenBody → Option NodeTag
    behind (token.anchor name) = Some (record { handle = handle; tag = at; node = t.start_mark })
    behind _ = unless_joined handle at next

-- the tag before an anchor
abbrev pub tag_before_anchor : List Token → Option NodeTag
tag_before_anchor [] = None
tag_before_anchor (t ∷ past) = before t.body
  where
    before : TokenBody → Option NodeTag
    before (token.tag handle suffix) = begins_node handle t.start_mark
    before _ = None

-- The tag among the properties of a node, where those end before that token.
-- A node has one anchor and one tag at most.
abbrev pub ended_tag : List Token → TokenBody → Option NodeTag
ended_tag [] next = None
ended_tag (t ∷ past) next = by_last t.body
  where
    by_last : TokenBody → Option NodeTag
    by_last (token.tag handle suffix) = tag_behind handle t.start_mark past next
    by_last (token.anchor name) = tag_before_anchor past
    by_last _ = None
