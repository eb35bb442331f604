-- Which columns canonical layout passes, how many bytes it takes, and where a column counts for nothing.
use Rattle.std.specs.Prelude.{◌≡◌, ◌↔◌, ℕ, ◌<◌, ◌≤◌, ◌==◌, Bool, true, false, List, length}
use Rattle.yaml_emit_layout.specs.scan_types.Ascii as ascii
use Rattle.yaml_emit_layout.specs.parse_model.Events.{TagDirective}
use Rattle.yaml_emit_layout.specs.scan_model.declared.name.yaml_encoding_t.{yaml_encoding_t}
use Rattle.yaml_emit_layout.specs.declared.Settings.{Settings}
use Rattle.yaml_emit_layout.specs.Text.{encode, is_deep}
use Rattle.yaml_emit_layout.specs.declared.Cursor.{Cursor}
use Rattle.yaml_emit_layout.specs.Layout.{Rest, ◌▹◌, written}
use Rattle.yaml_emit_layout.specs.declared.level.Part.TheVariants as part
use Rattle.yaml_emit_layout.specs.Content.{Start, Nodes, sequence_node, Document, stream_events}
use Rattle.yaml_emit_layout.specs.Grammar.{start_tag}
use Rattle.yaml_emit_layout.specs.Nodes.{Context, position, is_flow, are_none, properties_text, checked, before_value, node_layout, items_layout, stream_layout}
use Rattle.yaml_emit_layout.specs.ToCome.{Frame, frames, layout}
use Rattle.yaml_emit_laws.specs.Depths.{IsTooDeep}
use Rattle.yaml_emit_laws.specs.Forgetting.{are_block, Forgets}
use Rattle.yaml_emit_laws.specs.Sizes.{ascii, most_of_quoted, most_of_escape, most_bytes}

-- In canonical form, whatever the other settings, the layout of these documents marks an indentation
-- of too many columns exactly where one of their nodes that are no alias is too deep.
abbrev pub ColumnsAreByDepth : Type 0
ColumnsAreByDepth = (s : Settings) → s.canonical ≡ true → (ds : List Document)
    → (is_deep (written (stream_layout s ds)) ≡ true) ↔ IsTooDeep s.indent ds

-- And that depends on the events: documents with the same ones are alike in it.
abbrev pub EventsTellColumns : Type 0
EventsTellColumns = (x y : yaml_encoding_t) (ds es : List Document)
    → stream_events x ds ≡ stream_events y es → (indent : ℕ)
    → IsTooDeep indent ds ↔ IsTooDeep indent es

-- In either form the length of the text of these documents is bounded by its nodes, lines and texts.
abbrev pub SizesAreByContent : Type 0
SizesAreByContent = (s : Settings) (ds : List Document)
    → length (encode s.encoding (written (stream_layout s ds))) ≤ most_bytes s ds

-- In double quotes a character but a space takes at most 4, 6 or 10 of ASCII, by its number.
abbrev pub EscapesAreShort : Type 0
EscapesAreShort = (s : Settings) (n c : ℕ) → c < 0x1_0000_0000 → (c == ascii.space) ≡ false
    → most_of_quoted s n c ≤ ascii s (most_of_escape c)

-- Within block collections, where an item, a key or an end is next, what is still to come of a stream is laid out without a look at
-- the column or at what is in the line: the collections with their indentations, the directives, and whether breaks are kept
-- are all that counts of what came before.
abbrev pub BlocksForgetColumns : Type 0
BlocksForgetColumns = (s : Settings) (directives : List TagDirective) (fs : List Frame)
    (implicit : Bool) (ds : List Document) → are_block fs ≡ true
    → Forgets (layout s (frames directives fs implicit ds))

-- A block sequence that is a value in a block mapping: its indentation depends on the mapping's, on whether its key is simple, and on
-- its own properties, whatever came before and comes after. (By definition a root is at 0, and items, and mappings that are
-- values, one indent deeper.)
abbrev pub ValuesStandByKeys : Type 0
ValuesStandByKeys = (p : Context) (n : ℕ) (simple : Bool) (q : Start) → (m : ℕ)
    × ((items : Nodes)
    → is_flow p.settings (position false n part.Value) q (are_none items) ≡ false
    → (c : Cursor) (rest : Rest)
    → (before_value p.settings false n simple
    ▹ node_layout p (position false n part.Value) (sequence_node q items)) c rest
    ≡ (before_value p.settings false n simple
    ▹ properties_text p q.anchor (start_tag p.settings.canonical q) ▹ checked m
    ▹ items_layout p false m true items) c rest)
