-- Trees by hand, with an indent and whether the columns are passed.
use Rattle.std.specs.Prelude.{◌≡◌, ℕ, Bool, true, false, List, [], ◌∷◌, None, codes}
use Rattle.yaml_emit_layout.specs.scan_model.declared.name.yaml_scalar_style_t.TheVariants.{YAML_ANY_SCALAR_STYLE}
use Rattle.yaml_emit_layout.specs.scan_types.Widths.{default_width}
use Rattle.yaml_emit_layout.specs.declared.Settings.{Settings}
use Rattle.yaml_emit_layout.specs.declared.Encoding.TheVariants.{Utf8}
use Rattle.yaml_emit_layout.specs.declared.LineBreak.TheVariants.{Lf}
use Rattle.yaml_emit_layout.specs.Text.{is_deep}
use Rattle.yaml_emit_layout.specs.Layout.{written}
use Rattle.yaml_emit_layout.specs.Content.{Start, Node, alias_node, scalar_node, sequence_node, mapping_node, no_nodes, node, no_pairs, pair, Document}
use Rattle.yaml_emit_layout.specs.Nodes.{stream_layout}

abbrev pub canonical : ℕ → Settings
canonical indent = record {
  encoding = Utf8;
  canonical = true;
  indent = indent;
  width = default_width;
  unicode = false;
  line_break = Lf;
}

abbrev pub alone : Node → Document
alone root = record {
  opening = record { version = None; directives = []; implicit = true };
  root = root;
  implicit_end = true;
}

-- `a`
abbrev pub a : Node
a = scalar_node (record {
  anchor = None;
  tag = None;
  value = codes "a";
  plain = true;
  quoted = false;
  style = YAML_ANY_SCALAR_STYLE;
})

-- `*a`
abbrev pub star_a : Node
star_a = alias_node (codes "a")

abbrev pub bare : Start
bare = record { anchor = None; tag = None; implicit = true; flow = false }

-- `[n]`
abbrev pub in_sequence : Node → Node
in_sequence n = sequence_node bare (node n no_nodes)

-- `[]`
abbrev pub empty : Node
empty = sequence_node bare no_nodes

-- `{k: v}`
abbrev pub of_pair : Node → Node → Node
of_pair k v = mapping_node bare (pair k v no_pairs)

pub record ColumnsRow : Type 0 where
  pub indent : ℕ
  pub roots : List Node
  pub passed : Bool

abbrev pub row : ℕ → Node → Bool → ColumnsRow
row indent root passed = record { indent = indent; roots = root ∷ []; passed = passed }

abbrev pub rows : List ColumnsRow
rows =
    -- at depth 0: the most columns, and one more
    row 2147483647 a false ∷ row 2147483648 a true ∷ row 2147483648 empty true
    -- an alias has no indentation of its own
    ∷ row 2147483648 star_a false
    -- at depth 1: an item, an alias, an empty collection, a key and a value
    ∷ row 1073741824 empty false ∷ row 1073741823 (in_sequence a) false
    ∷ row 1073741824 (in_sequence a) true ∷ row 1073741824 (in_sequence star_a) false
    ∷ row 1073741824 (in_sequence empty) true ∷ row 1073741824 (of_pair star_a star_a) false
    ∷ row 1073741824 (of_pair a star_a) true ∷ row 1073741824 (of_pair star_a a) true
    -- at depth 2, three indents
    ∷ row 715827882 (in_sequence (in_sequence a)) false
    ∷ row 715827883 (in_sequence (in_sequence a)) true
    ∷ row 715827883 (in_sequence (of_pair star_a star_a)) false
    -- in a document after another one
    ∷ record { indent = 1073741824; roots = a ∷ in_sequence a ∷ []; passed = true } ∷ []

unfoldable pub documents_of : List Node → List Document
documents_of [] = []
documents_of (n ∷ ns) = alone n ∷ documents_of ns

abbrev pub Holds : ColumnsRow → Type 0
Holds r = is_deep (written (stream_layout (canonical r.indent) (documents_of r.roots))) ≡ r.passed

unfoldable pub AllHold : List ColumnsRow → Type 0
AllHold [] = Unit {0}
AllHold (r ∷ rs) = Holds r × AllHold rs

abbrev pub RowsHold : Type 0
RowsHold = AllHold rows
