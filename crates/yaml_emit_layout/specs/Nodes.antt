-- The layouts: canonical and pretty.
use Rattle.std.specs.Prelude.{ℕ, ◌+◌, ◌-◌, Bool, true, false, not, ◌&&◌, ◌||◌, ◌==◌, nat_le, nat_lt, if◌then◌else◌, List, [], ◌∷◌, length, Option, Some, None, pos, codes}
use Rattle.std.specs.Ordering.{int_eq}
use Rattle.std.specs.Str.{chars}
use Rattle.yaml_scan_types.specs.Ascii as ascii
use Rattle.yaml_scan_types.specs.Classes.{has_break}
use Rattle.yaml_scan_model.specs.declared.record.yaml_version_directive_t.{yaml_version_directive_t}
use Rattle.yaml_parse_model.specs.Events.{TagDirective}
use Rattle.yaml_emit_layout.specs.declared.cursor.Cursor.{Cursor}
use Rattle.yaml_emit_layout.specs.declared.settings.Settings.{Settings}
use Rattle.yaml_emit_layout.specs.declared.page.Page.{Page}
use Rattle.yaml_emit_layout.specs.declared.page.Style.{Style}
use Rattle.yaml_emit_layout.specs.declared.page.Style.TheVariants as style
use Rattle.yaml_emit_layout.specs.Text.{Item, deep}
use Rattle.yaml_emit_layout.specs.Style.{allowed, taken}
use Rattle.yaml_emit_layout.specs.Scalars.{scalar_text}
use Rattle.yaml_emit_layout.specs.Tags.{tag_spelling, tag_size, uri_text}
use Rattle.yaml_emit_layout.specs.Layout.{Layout, ◌▹◌, stay, choose, when, char, word, indicator, opener, line, wrap, keep, order_mark}
use Rattle.yaml_emit_layout.specs.declared.level.Part.{Part}
use Rattle.yaml_emit_layout.specs.declared.level.Part.TheVariants as part
use Rattle.yaml_emit_layout.specs.declared.level.NodePosition.{NodePosition}
use Rattle.yaml_emit_layout.specs.Content.{Scalar, Start, Node, alias_node, scalar_node, sequence_node, mapping_node, Nodes, no_nodes, node, Pairs, no_pairs, pair, Opening, Document}
use Rattle.yaml_emit_layout.specs.Grammar.{has, scalar_tag, start_tag}

-- what holds throughout a document: the settings, and the directives by which tags are spelled
pub record Context : Type 0 where
  pub settings : Settings
  pub directives : List TagDirective

abbrev pub root_position : NodePosition
root_position = record { around = None; flow = false; part = part.Item }

abbrev pub position : Bool → ℕ → Part → NodePosition
position flow n p = record { around = Some n; flow = flow; part = p }

abbrev pub is_simple_part : Part → Bool
is_simple_part part.SimpleKey = true
is_simple_part part.Item = false
is_simple_part part.Key = false
is_simple_part part.Value = false

-- the largest indentation, in columns
abbrev pub MOST : ℕ
MOST = 2147483647

-- one indent deeper than the surroundings; round a root nothing is indented
abbrev pub deeper : Settings → Option ℕ → ℕ
deeper s None = s.indent
deeper s (Some n) = n + s.indent

-- what follows, marked as too deep where that holds
abbrev pub deep_if : Bool → List Item → List Item
deep_if true t = deep ∷ t
deep_if false t = t

-- an indentation that is too deep is marked
abbrev pub checked : ℕ → Layout
checked n c rest = deep_if (nat_lt MOST n) (rest c)

abbrev pub line_at : Settings → ℕ → Layout
line_at s n = line s.line_break n

abbrev pub wrap_at : Settings → ℕ → Layout
wrap_at s n = wrap s.width s.line_break n

abbrev pub anchor_text : Option (List ℕ) → Layout
anchor_text None = stay
anchor_text (Some name) = word (ascii.ampersand ∷ name)

abbrev pub tag_text : Context → Option (List ℕ) → Layout
tag_text p None = stay
tag_text p (Some t) = word (tag_spelling p.directives t)

abbrev pub properties_text : Context → Option (List ℕ) → Option (List ℕ) → Layout
properties_text p anchor tag = anchor_text anchor ▹ tag_text p tag

abbrev pub is_plain : Style → Bool
is_plain style.Plain = true
is_plain style.Single = false
is_plain style.Double = false
is_plain style.Literal = false
is_plain style.Folded = false

-- canonical form double quotes all scalars
unfoldable pub style_of : Context → NodePosition → Scalar → Style
style_of p at x =
    if p.settings.canonical then style.Double
    else taken (allowed p.settings.unicode (chars x.value)) x.style (has (scalar_tag false x)
    || x.plain) at.flow (is_simple_part at.part) (length x.value == 0)

-- an untagged scalar that may not be quoted has `!` before it, unless it is plain
abbrev pub mark_text : Context → Scalar → Style → Layout
mark_text p x chosen = when (not (has (scalar_tag p.settings.canonical x))
    && (not x.quoted && not (is_plain chosen))) (word (ascii.exclamation ∷ []))

-- the lines that a scalar is in
abbrev pub page_at : Settings → NodePosition → Page
page_at s at = record {
  width = s.width;
  indentation = deeper s at.around;
  unicode = s.unicode;
  cuts = not (is_simple_part at.part);
  line_break = s.line_break;
}

unfoldable pub scalar_layout : Context → NodePosition → Scalar → Layout
scalar_layout p at x =
    properties_text p x.anchor (scalar_tag p.settings.canonical x) ▹ mark_text p x (style_of p at x)
    ▹ checked (deeper p.settings at.around)
    ▹ scalar_text (page_at p.settings at) p.settings.indent at.flow (style_of p at x)
    (chars x.value)

-- an alias as a simple key has a space after it
unfoldable pub alias_layout : NodePosition → List ℕ → Layout
alias_layout at name = word (ascii.asterisk ∷ name)
    ▹ when (is_simple_part at.part) (char ascii.space)

abbrev pub text_size : Option (List ℕ) → ℕ
text_size None = 0
text_size (Some t) = length t

abbrev pub written_size : Context → Option (List ℕ) → ℕ
written_size p None = 0
written_size p (Some t) = tag_size p.directives t

-- bytes of the anchor, and of the tag's handle and suffix before they are escaped
abbrev pub properties_size : Context → Option (List ℕ) → Option (List ℕ) → ℕ
properties_size p anchor tag = text_size anchor + written_size p tag

-- how many bytes of anchor, tag and value a simple key may have, or of an alias's name
abbrev pub simple_key_bytes : ℕ
simple_key_bytes = 128

-- a simple key has no break, and no more bytes; canonical form has none
unfoldable pub is_simple_scalar : Context → Scalar → Bool
is_simple_scalar p x = not p.settings.canonical
    && (not (has_break x.value) && nat_le (properties_size p x.anchor (scalar_tag false x) + length
    x.value) simple_key_bytes)

unfoldable pub is_simple_alias : Context → List ℕ → Bool
is_simple_alias p name = not p.settings.canonical && nat_le (length name) simple_key_bytes

unfoldable pub is_simple_start : Context → Start → Bool → Bool
is_simple_start p q empty = not p.settings.canonical
    && (empty && nat_le (properties_size p q.anchor (start_tag false q)) simple_key_bytes)

abbrev pub are_none : Nodes → Bool
are_none no_nodes = true
are_none (node n ns) = false

abbrev pub are_no_pairs : Pairs → Bool
are_no_pairs no_pairs = true
are_no_pairs (pair k v ps) = false

unfoldable pub is_simple : Context → Node → Bool
is_simple p (alias_node name) = is_simple_alias p name
is_simple p (scalar_node x) = is_simple_scalar p x
is_simple p (sequence_node q items) = is_simple_start p q (are_none items)
is_simple p (mapping_node q pairs) = is_simple_start p q (are_no_pairs pairs)

abbrev pub is_of_mapping : Part → Bool
is_of_mapping part.Item = false
is_of_mapping part.Key = true
is_of_mapping part.SimpleKey = true
is_of_mapping part.Value = true

-- a block collection's indentation: none at the root, one deeper, or that round it
abbrev pub block_indent_in : Settings → Option ℕ → Bool → ℕ
block_indent_in s None keeps = 0
block_indent_in s (Some n) keeps = if keeps then n else n + s.indent

-- a collection is flow inside a flow one, with flow style, or empty; in canonical form always
abbrev pub is_flow : Settings → NodePosition → Start → Bool → Bool
is_flow s at q empty = s.canonical || (at.flow || (q.flow || empty))

-- the indentation of a collection, found after its properties: a block sequence that is a key or a value keeps that round it where the line isn't bare
abbrev pub indent_of : Settings → NodePosition → Bool → Bool → Cursor → ℕ
indent_of s at sequence flow c = if flow then deeper s at.around else block_indent_in s at.around
    (sequence && (is_of_mapping at.part && not c.bare))

-- a layout by an indentation that is found at the cursor
abbrev pub indented : (Cursor → ℕ) → (ℕ → Layout) → Layout
indented n f c rest = f (n c) c rest

abbrev pub comma : Bool → Layout
comma fresh = when (not fresh) (char ascii.comma)

-- in flow a line comes past the width alone; in canonical form always
unfoldable pub turned : Settings → ℕ → Layout
turned s n = if s.canonical then line_at s n else wrap_at s n

-- what comes before an item, by whether none has come
unfoldable pub before_item : Settings → Bool → ℕ → Bool → Layout
before_item s true n fresh = comma fresh ▹ turned s n
before_item s false n fresh = line_at s n ▹ indicator ascii.hyphen

abbrev pub question : Bool → Layout
question true = word (ascii.question ∷ [])
question false = indicator ascii.question

-- what comes before a key, by whether none has come and whether it is simple
unfoldable pub before_key : Settings → Bool → ℕ → Bool → Bool → Layout
before_key s flow n fresh simple = (if flow then comma fresh ▹ turned s n else line_at s n)
    ▹ when (not simple) (question flow)

-- what comes before a value, by whether its key was simple
unfoldable pub before_value : Settings → Bool → ℕ → Bool → Layout
before_value s flow n true = char ascii.colon
before_value s true n false = turned s n ▹ word (ascii.colon ∷ [])
before_value s false n false = line_at s n ▹ indicator ascii.colon

-- what ends a collection; in canonical form a comma and a line of the surroundings come before the indicator, unless nothing has come
unfoldable pub closer : Settings → Bool → ℕ → Bool → ℕ → Layout
closer s true n fresh x =
    when (s.canonical && not fresh) (char ascii.comma ▹ line_at s (n - s.indent)) ▹ char x
closer s false n fresh x = stay

abbrev pub key_part : Bool → Part
key_part true = part.SimpleKey
key_part false = part.Key

-- The layout of a node at a position, and of the rest of a collection with what ends it.
unfoldable mutual
  pub node_layout : Context → NodePosition → Node → Layout
  node_layout p at (alias_node name) = alias_layout at name
  node_layout p at (scalar_node x) = scalar_layout p at x
  node_layout p at (sequence_node q items) =
      properties_text p q.anchor (start_tag p.settings.canonical q)
      ▹ when (is_flow p.settings at q (are_none items)) (opener ascii.open_bracket)
      ▹ indented (indent_of p.settings at true (is_flow p.settings at q (are_none items)))
      (λ n. checked n ▹ items_layout p (is_flow p.settings at q (are_none items)) n true items)
  node_layout p at (mapping_node q pairs) =
      properties_text p q.anchor (start_tag p.settings.canonical q)
      ▹ when (is_flow p.settings at q (are_no_pairs pairs)) (opener ascii.open_brace)
      ▹ indented (indent_of p.settings at false (is_flow p.settings at q (are_no_pairs pairs)))
      (λ n. checked n ▹ pairs_layout p (is_flow p.settings at q (are_no_pairs pairs)) n true
      pairs)

  pub items_layout : Context → Bool → ℕ → Bool → Nodes → Layout
  items_layout p flow n fresh no_nodes = closer p.settings flow n fresh ascii.close_bracket
  items_layout p flow n fresh (node x xs) = before_item p.settings flow n fresh
      ▹ node_layout p (position flow n part.Item) x ▹ items_layout p flow n false xs

  pub pairs_layout : Context → Bool → ℕ → Bool → Pairs → Layout
  pairs_layout p flow n fresh no_pairs = closer p.settings flow n fresh ascii.close_brace
  pairs_layout p flow n fresh (pair k v ps) =
      before_key p.settings flow n fresh (is_simple p k)
      ▹ node_layout p (position flow n (key_part (is_simple p k))) k
      ▹ before_value p.settings flow n (is_simple p k)
      ▹ node_layout p (position flow n part.Value) v
      ▹ pairs_layout p flow n false ps

abbrev pub dots : Settings → Layout
dots s = word (ascii.dot ∷ ascii.dot ∷ ascii.dot ∷ []) ▹ line_at s 0

abbrev pub version_word : yaml_version_directive_t → List ℕ
version_word v = if int_eq v.minor (pos 1) then codes "1.1" else codes "1.2"

-- `%YAML 1.1` or `%YAML 1.2`
abbrev pub version_text : Settings → Option yaml_version_directive_t → Layout
version_text s None = stay
version_text s (Some v) = word (codes "%YAML") ▹ word (version_word v) ▹ line_at s 0

-- `%TAG`, the handle and the prefix
abbrev pub directive_text : Settings → TagDirective → Layout
directive_text s d = word (codes "%TAG") ▹ word d.handle ▹ word (uri_text true d.prefix)
    ▹ line_at s 0

unfoldable pub directives_text : Settings → List TagDirective → Layout
directives_text s [] = stay
directives_text s (d ∷ ds) = directive_text s d ▹ directives_text s ds

abbrev pub has_version : Option yaml_version_directive_t → Bool
has_version None = false
has_version (Some v) = true

abbrev pub has_directives : List TagDirective → Bool
has_directives [] = false
has_directives (d ∷ ds) = true

abbrev pub is_directed : Opening → Bool
is_directed o = has_version o.version || has_directives o.directives

abbrev pub dashes : Settings → Layout
dashes s = line_at s 0 ▹ word (ascii.hyphen ∷ ascii.hyphen ∷ ascii.hyphen ∷ [])
    ▹ when s.canonical (line_at s 0)

-- a first implicit document without directives has no `---`; in canonical form each has one
abbrev pub is_marked : Settings → Bool → Opening → Bool
is_marked s first o = s.canonical || not (first && (o.implicit && not (is_directed o)))

-- `...` separates directives from a document that ended implicitly
unfoldable pub start_layout : Settings → Bool → Bool → Opening → Layout
start_layout s first unended o =
    when (unended && is_directed o) (dots s) ▹ keep false ▹ version_text s o.version
    ▹ directives_text s o.directives ▹ when (is_marked s first o) (dashes s)

unfoldable pub end_layout : Settings → Bool → Layout
end_layout s implicit = line_at s 0 ▹ when (not implicit) (dots s)

abbrev pub is_kept : Cursor → Bool
is_kept c = c.kept

-- `...` ends a stream whose last document ended implicitly, where its last block scalar keeps its breaks
unfoldable pub stop_layout : Settings → Bool → Layout
stop_layout s unended = when unended (choose is_kept (dots s) stay)

abbrev pub context_of : Settings → List TagDirective → Context
context_of s directives = record { settings = s; directives = directives }

unfoldable pub documents_layout : Settings → Bool → Bool → List Document → Layout
documents_layout s first unended [] = stop_layout s unended
documents_layout s first unended (d ∷ ds) =
    start_layout s first unended d.opening ▹ node_layout (context_of s d.opening.directives)
    root_position d.root
    ▹ end_layout s d.implicit_end ▹ documents_layout s false d.implicit_end ds

-- The layout of a stream: canonical or pretty, as the settings say.
unfoldable pub stream_layout : Settings → List Document → Layout
stream_layout s ds = order_mark s.encoding ▹ documents_layout s true false ds
