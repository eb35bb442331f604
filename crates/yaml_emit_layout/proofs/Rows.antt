-- Worked examples, computed by the definitions.
use Rattle.std.proofs.Common.{◌≡◌, ℕ, List, [], ◌∷◌, refl, true, false, Bool, Some, None}
use Rattle.std.specs.Prelude.{codes}
use Rattle.std.specs.Str.{chars}
use Rattle.yaml_scan_model.specs.declared.name.yaml_scalar_style_t.{yaml_scalar_style_t}
use Rattle.yaml_scan_model.specs.declared.name.yaml_scalar_style_t.TheVariants as asked
use Rattle.yaml_scan_types.specs.Classes.{is_alpha_byte, is_digit_byte, any_below}
use Rattle.yaml_emit_layout.specs.declared.settings.Settings.{Settings}
use Rattle.yaml_emit_layout.specs.declared.settings.Encoding.TheVariants.{Utf8}
use Rattle.yaml_emit_layout.specs.declared.settings.LineBreak.TheVariants.{Lf}
use Rattle.yaml_emit_layout.specs.Text.{shown}
use Rattle.yaml_emit_layout.specs.Layout.{letters, blanks, line, text_of}
use Rattle.yaml_emit_layout.specs.Quoted.{needs_escape, escape_letter, escape_text, quoted_char, quoted_body}
use Rattle.yaml_emit_layout.specs.Hex.{hex_digit}
use Rattle.yaml_emit_layout.specs.Style.{somewhere, last_or, allowed, taken}
use Rattle.yaml_emit_layout.specs.Scalars.{flow_char, flow_body, behind_breaks, block_char, block_body, chomp, scalar_text}
use Rattle.yaml_emit_layout.specs.declared.problem.Problem.TheVariants as problem
use Rattle.yaml_emit_layout.specs.Content.{Start, Node, scalar_node, sequence_node, mapping_node, no_nodes, node, no_pairs, pair, Document}
use Rattle.yaml_emit_layout.specs.Grammar.{handle_problem, directives_problem}
use Rattle.yaml_emit_layout.specs.Nodes.{style_of, scalar_layout, alias_layout, is_simple_scalar, is_simple_alias, is_simple_start, is_simple, turned, before_item, before_key, before_value, closer, node_layout, items_layout, pairs_layout, directives_text, start_layout, end_layout, stop_layout, documents_layout, stream_layout}

abbrev canonical : Settings
canonical = record { encoding = Utf8; canonical = true; indent = 2; width = 80; unicode = true; line_break = Lf }

abbrev pretty : Settings
pretty = record { encoding = Utf8; canonical = false; indent = 2; width = 80; unicode = true; line_break = Lf }

abbrev untagged : Bool → yaml_scalar_style_t → List ℕ → Node
untagged plain style value = scalar_node (record { anchor = None; tag = None; value = value; plain = plain; quoted = true; style = style })

abbrev plain : List ℕ → Node
plain value = untagged true asked.YAML_PLAIN_SCALAR_STYLE value

abbrev implicit : Bool → Start
implicit flow = record { anchor = None; tag = None; implicit = true; flow = flow }

abbrev bare : Node → Document
bare n = record { opening = record { version = None; directives = []; implicit = true }; root = n; implicit_end = true }

canonical_sequence : text_of (stream_layout canonical
    (bare (sequence_node (implicit true)
    (node (plain (codes "a")) (node (plain (codes "b")) no_nodes))) ∷ []))
    ≡ codes "---\n[\n  \"a\",\n  \"b\",\n]\n"
unfolding chars shown letters blanks line needs_escape escape_letter hex_digit escape_text quoted_char quoted_body somewhere last_or allowed taken flow_char flow_body behind_breaks block_char block_body chomp scalar_text style_of scalar_layout alias_layout is_simple_scalar is_simple_alias is_simple_start is_simple any_below turned before_item before_key before_value closer node_layout items_layout pairs_layout directives_text start_layout end_layout stop_layout documents_layout stream_layout
canonical_sequence = refl

canonical_mapping : text_of (stream_layout canonical
    (bare (mapping_node (implicit false) (pair (plain (codes "k")) (plain (codes "v")) no_pairs))
    ∷ [])) ≡ codes "---\n{\n  ? \"k\"\n  : \"v\",\n}\n"
unfolding chars shown letters blanks line needs_escape escape_letter hex_digit escape_text quoted_char quoted_body somewhere last_or allowed taken flow_char flow_body behind_breaks block_char block_body chomp scalar_text style_of scalar_layout alias_layout is_simple_scalar is_simple_alias is_simple_start is_simple any_below turned before_item before_key before_value closer node_layout items_layout pairs_layout directives_text start_layout end_layout stop_layout documents_layout stream_layout
canonical_mapping = refl

-- the first thing wrong with a list of handles
handle_twice : directives_problem [] (record { handle = codes "!a!"; prefix = codes "x" }
    ∷ record { handle = codes "!a!"; prefix = codes "y" } ∷ []) ≡ Some problem.HandleTwice
unfolding directives_problem handle_problem is_alpha_byte is_digit_byte
handle_twice = refl
