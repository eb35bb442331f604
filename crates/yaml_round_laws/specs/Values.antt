-- What a JSON text says, and the same as YAML's content, with styles and without.
use Rattle.std.specs.Prelude.{ℕ, true, false, List, [], ◌∷◌, ◌++◌, None, encode_utf8}
use Rattle.yaml_emit_laws.specs.scan_model.declared.name.yaml_scalar_style_t.TheVariants.{YAML_PLAIN_SCALAR_STYLE, YAML_DOUBLE_QUOTED_SCALAR_STYLE}
use Rattle.yaml_emit_layout.specs.Content.{Start}
use Rattle.yaml_emit_layout.specs.Content as styled
use Rattle.yaml_round_content.specs.Said.{untagged}
use Rattle.yaml_round_content.specs.Said as said
use Rattle.yaml_round_laws.specs.Grammar.{Letter, raw, short, coded, short_means, code, Value, literal, number, string, empty_array, array, empty_object, object, Elements, last_element, element, Members, last_member, member, literal_bytes, number_bytes}

-- ---- the value

mutual
  pub data Json : Type 0 where
    -- a literal or a number, by its spelling
    bare : List ℕ → Json
    -- a string, by its characters in UTF-8
    text : List ℕ → Json
    list : Jsons → Json
    pairs : JsonPairs → Json

  pub data Jsons : Type 0 where
    nothing : Jsons
    one : Json → Jsons → Jsons

  -- keys and values, in order; equal keys stay
  pub data JsonPairs : Type 0 where
    no_pairs : JsonPairs
    pair : List ℕ → Json → JsonPairs → JsonPairs

-- the number after `\u` names a character, except for surrogates, which are an exception
abbrev pub letter_means : Letter → List ℕ
letter_means (raw c) = encode_utf8 c
letter_means (short s) = short_means s ∷ []
letter_means (coded a b c d) = encode_utf8 (code a b c d)

abbrev pub letters_mean : List Letter → List ℕ
letters_mean [] = []
letters_mean (l ∷ ls) = letter_means l ++ letters_mean ls

abbrev mutual
  pub json_value : Value → Json
  json_value (literal l) = bare (literal_bytes l)
  json_value (number n) = bare (number_bytes n)
  json_value (string ls) = text (letters_mean ls)
  json_value (empty_array w) = list nothing
  json_value (array w elements) = list (json_elements elements)
  json_value (empty_object w) = pairs no_pairs
  json_value (object w members) = pairs (json_members members)

  pub json_elements : Elements → Jsons
  json_elements (last_element v a) = one (json_value v) nothing
  json_elements (element v a b elements) = one (json_value v) (json_elements elements)

  pub json_members : Members → JsonPairs
  json_members (last_member k a b v c) = pair (letters_mean k) (json_value v) no_pairs
  json_members (member k a b v c d members) = pair (letters_mean k) (json_value v)
      (json_members members)

-- ---- as content

-- Strings don't count as plain, literals and numbers do.
abbrev mutual
  pub content : Json → said.Node
  content (bare v) = said.scalar None (untagged true) v
  content (text v) = said.scalar None (untagged false) v
  content (list vs) = said.sequence None None (contents vs)
  content (pairs ps) = said.mapping None None (pair_contents ps)

  pub contents : Jsons → said.Nodes
  contents nothing = said.no_nodes
  contents (one v vs) = said.node (content v) (contents vs)

  pub pair_contents : JsonPairs → said.Pairs
  pair_contents no_pairs = said.no_pairs
  pair_contents (pair k v ps) = said.pair (said.scalar None (untagged false) k) (content v)
      (pair_contents ps)

-- a document without directives
abbrev pub json_content : Json → said.Document
json_content v = record { version = None; directives = []; root = content v }

-- ---- with styles

abbrev pub plain_scalar : List ℕ → styled.Scalar
plain_scalar v = record {
  anchor = None;
  tag = None;
  value = v;
  plain = true;
  quoted = false;
  style = YAML_PLAIN_SCALAR_STYLE;
}

abbrev pub quoted_scalar : List ℕ → styled.Scalar
quoted_scalar v = record {
  anchor = None;
  tag = None;
  value = v;
  plain = false;
  quoted = true;
  style = YAML_DOUBLE_QUOTED_SCALAR_STYLE;
}

-- in brackets
abbrev pub flow_start : Start
flow_start = record { anchor = None; tag = None; implicit = true; flow = true }

-- Strings are double quoted, literals and numbers plain, and all else is in brackets.
abbrev mutual
  pub json_node : Json → styled.Node
  json_node (bare v) = styled.scalar_node (plain_scalar v)
  json_node (text v) = styled.scalar_node (quoted_scalar v)
  json_node (list vs) = styled.sequence_node flow_start (json_nodes vs)
  json_node (pairs ps) = styled.mapping_node flow_start (json_pairs ps)

  pub json_nodes : Jsons → styled.Nodes
  json_nodes nothing = styled.no_nodes
  json_nodes (one v vs) = styled.node (json_node v) (json_nodes vs)

  pub json_pairs : JsonPairs → styled.Pairs
  json_pairs no_pairs = styled.no_pairs
  json_pairs (pair k v ps) = styled.pair (styled.scalar_node (quoted_scalar k)) (json_node v)
      (json_pairs ps)

-- a document without `---`, `...` and directives
abbrev pub json_document : Json → styled.Document
json_document v = record {
  opening = record { version = None; directives = []; implicit = true };
  root = json_node v;
  implicit_end = true;
}
