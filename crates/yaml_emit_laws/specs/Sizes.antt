-- How many bytes a text has at most, in canonical and in pretty form, by what it says.
use Rattle.std.specs.Prelude.{ℕ, ◌+◌, ◌*◌, true, ◌==◌, nat_lt, nat_le, if◌then◌else◌, List, [], ◌∷◌, length, Option, Some, None}
use Rattle.std.specs.Str.{chars}
use Rattle.yaml_emit_layout.specs.scan_types.Ascii.{space}
use Rattle.yaml_emit_layout.specs.parse_model.Events.{TagDirective}
use Rattle.yaml_emit_layout.specs.declared.Settings.{Settings}
use Rattle.yaml_emit_layout.specs.declared.Encoding.{Encoding}
use Rattle.yaml_emit_layout.specs.declared.Encoding.TheVariants.{Utf8, Utf16Le, Utf16Be}
use Rattle.yaml_emit_layout.specs.Text.{char_bytes}
use Rattle.yaml_emit_layout.specs.Quoted.{needs_escape, escape_text}
use Rattle.yaml_emit_layout.specs.Tags.{tag_spelling, uri_text}
use Rattle.yaml_emit_layout.specs.Content.{Node, alias_node, scalar_node, sequence_node, mapping_node, Nodes, no_nodes, node, Pairs, no_pairs, pair, Document}
use Rattle.yaml_emit_layout.specs.Grammar.{scalar_tag, start_tag}
use Rattle.yaml_emit_layout.specs.Nodes.{Context, context_of}

-- a character of ASCII has one byte in UTF-8, and two in UTF-16
abbrev pub unit : Encoding → ℕ
unit Utf8 = 1
unit Utf16Le = 2
unit Utf16Be = 2

-- that many of them
abbrev pub ascii : Settings → ℕ → ℕ
ascii s n = unit s.encoding * n

-- the bytes of a text
unfoldable pub text_bytes : Encoding → List ℕ → ℕ
text_bytes x [] = 0
text_bytes x (c ∷ cs) = length (char_bytes x c) + text_bytes x cs

-- ---- nodes

-- a space and `&`, and the name
abbrev pub anchor_bytes : Settings → Option (List ℕ) → ℕ
anchor_bytes s None = 0
anchor_bytes s (Some name) = ascii s 2 + text_bytes s.encoding name

-- a space, and the tag as the document's directives spell it
abbrev pub tag_bytes : Context → Option (List ℕ) → ℕ
tag_bytes p None = 0
tag_bytes p (Some tag) = ascii p.settings 1
    + text_bytes p.settings.encoding (tag_spelling p.directives tag)

abbrev pub properties_bytes : Context → Option (List ℕ) → Option (List ℕ) → ℕ
properties_bytes p anchor tag = anchor_bytes p.settings anchor + tag_bytes p tag

-- A character of a value in double quotes whose lines are indented by n: at a space the line may be folded, with a break of two
-- characters, the indentation and a backslash; another character is written as it is, or escaped.
abbrev pub most_of_quoted : Settings → ℕ → ℕ → ℕ
most_of_quoted s n c =
    if c == space then ascii s (n + 3)
    else if needs_escape s.unicode c then text_bytes s.encoding (escape_text c)
    else length (char_bytes s.encoding c)

abbrev pub larger : ℕ → ℕ → ℕ
larger a b = if nat_le a b then b else a

-- In canonical form each value is in double quotes; in pretty form a character is in these, or takes a line at most, as where a break
-- of the value or a fold is.
abbrev pub most_of_char : Settings → ℕ → ℕ → ℕ
most_of_char s n c = if s.canonical then most_of_quoted s n c
    else larger (most_of_quoted s n c) (ascii s (n + 10))

-- how long an escape is at most: `\x`, `\u` or `\U` with its digits
abbrev pub most_of_escape : ℕ → ℕ
most_of_escape c = if nat_lt c 0x100 then 4 else if nat_lt c 0x1_0000 then 6 else 10

unfoldable pub most_of_value : Settings → ℕ → List ℕ → ℕ
most_of_value s n [] = 0
most_of_value s n (c ∷ cs) = most_of_char s n c + most_of_value s n cs

-- A line of a collection, with what separates it from the one before: a comma, a break of two
-- characters, the indentation, and `?` or `:` after a space, or a bracket.
abbrev pub most_of_line : Settings → ℕ → ℕ
most_of_line s n = ascii s (n + 5)

-- A node whose lines are indented by n: the properties, and a name after a space and `*`; a value in quotes, a space before it,
-- and `!` after one; or a bracket after a space, and a line for each item, key and value, and for the closing bracket. In pretty
-- form some of this isn't written.
unfoldable mutual
  pub most_of_node : Context → ℕ → Node → ℕ
  most_of_node p n (alias_node name) = ascii p.settings 3 + text_bytes p.settings.encoding name
  most_of_node p n (scalar_node x) = properties_bytes p x.anchor (scalar_tag true x)
      + ascii p.settings 5 + most_of_value p.settings n (chars x.value)
  most_of_node p n (sequence_node q items) = properties_bytes p q.anchor (start_tag true q)
      + ascii p.settings 2 + most_of_items p n items
  most_of_node p n (mapping_node q pairs) = properties_bytes p q.anchor (start_tag true q)
      + ascii p.settings 2 + most_of_pairs p n pairs

  pub most_of_items : Context → ℕ → Nodes → ℕ
  most_of_items p n no_nodes = most_of_line p.settings n
  most_of_items p n (node x xs) = most_of_line p.settings n
      + most_of_node p (n + p.settings.indent) x + most_of_items p n xs

  pub most_of_pairs : Context → ℕ → Pairs → ℕ
  most_of_pairs p n no_pairs = most_of_line p.settings n
  most_of_pairs p n (pair k v ps) = most_of_line p.settings n
      + most_of_node p (n + p.settings.indent) k + most_of_line p.settings n
      + most_of_node p (n + p.settings.indent) v + most_of_pairs p n ps

-- ---- documents

-- `%TAG`, handle and prefix, a space before each, and a break
unfoldable pub directives_bytes : Settings → List TagDirective → ℕ
directives_bytes s [] = 0
directives_bytes s (d ∷ ds) = ascii s 9 + text_bytes s.encoding d.handle
    + text_bytes s.encoding (uri_text true d.prefix) + directives_bytes s ds

-- A document: at most 34 characters for `%YAML` with the version, `---` and `...` twice, its directives, and its root, whose lines
-- are indented by one indent.
abbrev pub most_of_document : Settings → Document → ℕ
most_of_document s d = ascii s 34 + directives_bytes s d.opening.directives
    + most_of_node (context_of s d.opening.directives) s.indent d.root

-- A stream: a byte order mark, the documents, and a last `...`.
unfoldable pub most_of_documents : Settings → List Document → ℕ
most_of_documents s [] = 0
most_of_documents s (d ∷ ds) = most_of_document s d + most_of_documents s ds

abbrev pub most_bytes : Settings → List Document → ℕ
most_bytes s ds = ascii s 7 + most_of_documents s ds
