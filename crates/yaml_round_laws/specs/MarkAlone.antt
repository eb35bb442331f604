-- Which inputs begin with nothing, by their trees.
use Rattle.std.specs.Prelude.{◌≡◌, ℕ, Bool, true, false, ◌&&◌, List, [], ◌∷◌, codes}
use Rattle.std.specs.Str.{bytes_eq}
use Rattle.yaml_round_content.specs.scan_model.declared.name.yaml_encoding_t.{yaml_encoding_t}
use Rattle.yaml_parse_grammar.specs.declared.Wants.{Wants}
use Rattle.yaml_parse_grammar.specs.Trees as tree
use Rattle.yaml_parse_laws_trees.specs.Places.{BeginsWithSentence}
use Rattle.yaml_round_content.specs.Events.{emitter_events}
use Rattle.yaml_round_content.specs.Input.{tokens_of, events_of}
use Rattle.yaml_round_content.specs.Flags.{begins_with_nothing}

abbrev pub is_no_handle : List ℕ → Bool
is_no_handle [] = true
is_no_handle (c ∷ cs) = false

-- It spells `!`: there is no handle, and the suffix is `!`. So `!`, `!<!>` and `!<%21>` are read.
abbrev pub is_mark : tree.TagToken → Bool
is_mark t = is_no_handle t.handle && bytes_eq t.suffix (codes "!")

-- such a tag, and no anchor
abbrev pub is_mark_alone : tree.PropertyTokens → Bool
is_mark_alone (tree.anchor a) = false
is_mark_alone (tree.anchor_tag a t) = false
is_mark_alone (tree.tag t) = is_mark t
is_mark_alone (tree.tag_anchor t a) = false

-- and nothing after it
abbrev pub is_mark_node : {w : Wants} → tree.Node w → Bool
is_mark_node (tree.alias s name) = false
is_mark_node (tree.only_properties d) = is_mark_alone d
is_mark_node (tree.with_properties d c) = false
is_mark_node (tree.bare c) = false

-- the first document has no `---`, and is such a tag alone
abbrev pub begins_with_mark : tree.First → Bool
begins_with_mark tree.no_first = false
begins_with_mark (tree.first n ends) = is_mark_node n

-- An input whose tokens are a tree's begins with nothing exactly where that tree begins so.
abbrev pub BeginningIsAMark : Type 0
BeginningIsAMark = (from : yaml_encoding_t) (input : List ℕ)
    → (b : BeginsWithSentence (tokens_of from input).tokens)
    → begins_with_nothing (emitter_events false (events_of from input))
    ≡ begins_with_mark b.tree.first
