-- What a clause sees of a node's text.
use Rattle.std.specs.Prelude.{ℕ, List}
use Rattle.yaml_parse_model.specs.declared.node_text.yaml_node_text_t.TheInside.{Inside}
use Rattle.yaml_parse_model.specs.NodeTexts.{bytes_of, IsKept}

abbrev pub text_view : Inside → List ℕ
text_view t = bytes_of t.kept

abbrev pub IsNodeText : Inside → Type 0
IsNodeText t = IsKept t.kept
