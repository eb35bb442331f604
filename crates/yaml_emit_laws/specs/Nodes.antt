-- Nodes in a block: each is walked with the line after it.
use Rattle.std.specs.Prelude.{◌≡◌, ◌≤◌, ◌+◌, ℕ, Bool, true, false, not, ◌||◌, List, [], ◌∷◌, Option, Some, None}
use Rattle.yaml_emit_layout.specs.scan_types.Ascii as ascii
use Rattle.yaml_emit_layout.specs.scan_types.Indents.{least_indent, most_indent}
use Rattle.yaml_emit_layout.specs.scan_model.declared.name.yaml_encoding_t.{yaml_encoding_t}
use Rattle.yaml_emit_layout.specs.scan_types.Tokens as tokens
use Rattle.yaml_emit_layout.specs.scan_types.Tokens.{TokenBody}
use Rattle.yaml_emit_layout.specs.scan_types.Marks.{column_at}
use Rattle.yaml_scan_history.specs.History.{indent, opened, start_of}
use Rattle.yaml_scan_history.specs.declared.lexeme.Opens.{Opens}
use Rattle.yaml_scan_history.specs.declared.lexeme.Opens.TheVariants as opening
use Rattle.yaml_emit_layout.specs.declared.Cursor.{Cursor}
use Rattle.yaml_emit_layout.specs.declared.LineBreak.{LineBreak}
use Rattle.yaml_emit_layout.specs.declared.Settings.{Settings}
use Rattle.yaml_emit_layout.specs.declared.Style.{Style}
use Rattle.yaml_emit_layout.specs.declared.Style.TheVariants as style
use Rattle.yaml_emit_layout.specs.Layout.{Rest, ◌▹◌, line, char}
use Rattle.yaml_emit_layout.specs.declared.level.Part.{Part}
use Rattle.yaml_emit_layout.specs.declared.level.Part.TheVariants as part
use Rattle.yaml_emit_layout.specs.declared.level.NodePosition.{NodePosition}
use Rattle.yaml_emit_layout.specs.Content.{Scalar, Opening, Node, alias_node, scalar_node, sequence_node, mapping_node}
use Rattle.yaml_emit_layout.specs.Grammar.{has}
use Rattle.yaml_emit_layout.specs.Nodes.{Context, context_of, is_simple, is_simple_part, is_of_mapping, are_none, are_no_pairs, node_layout, properties_text}
use Rattle.yaml_emit_laws.specs.Bodies.{anchor_bodies, tag_bodies}
use Rattle.yaml_emit_laws.specs.Walk.{Left, bytes}
use Rattle.yaml_emit_laws.specs.Writable.{IsWritable, IsWritableAnchor, IsWritableTag, IsWritableOpening}
use Rattle.yaml_scan_laws.specs.TextFronts.{Rises}
use Rattle.yaml_scan_laws.specs.Tokens.{start_bodies}
use Rattle.yaml_scan_laws.specs.Walks.{WalkState}
use Rattle.yaml_emit_laws.specs.Stops.{begins_white, begins_solid}
use Rattle.yaml_emit_laws.specs.BlockLaws.{margin_round}
use Rattle.yaml_emit_laws.specs.BlockPassing.{begins_white as begins_blank}
use Rattle.yaml_emit_laws.specs.NodeBodies.{style_at, is_flow_at, node_bodies, node_kept}
use Rattle.yaml_emit_laws.specs.NodeWalk.{NodeStage, Lined, LinedUp, Follows, NoFeed, no_comment}
use Rattle.yaml_emit_laws.specs.KeyLaws.{Keyed}

-- ---- what is after a node

-- What is after a line is neither white nor a comment.
pub record ShowsNode (n : ℕ) (rest : Rest) : Type 0 where
  pub solid : (e : Cursor) → e.bare ≡ true → e.white ≡ true → e.column ≡ n
      → begins_solid (bytes (rest e)) ≡ true
  pub calm : (e : Cursor) → e.bare ≡ true → e.white ≡ true → e.column ≡ n
      → no_comment (bytes (rest e)) ≡ true

-- A line of m columns and what comes after it end a node whose innermost level is that or more: it stops plain and block scalars, and
-- is no comment.
pub record Ending (b : LineBreak) (m level : ℕ) (after : Rest) : Type 0 where
  pub follows : Follows level (λ e. line b m e after)
  pub feed : NoFeed m after
  pub solid : (e : Cursor) → e.bare ≡ true → e.white ≡ true → e.column ≡ m
      → begins_blank (bytes (after e)) ≡ false

-- What shows ends what is in a level right of it.
abbrev pub ShownEnds : Type 0
ShownEnds = (b : LineBreak) (n : ℕ) (after : Rest) → ShowsNode n after → Ending b n (n + 1) after

-- ---- nodes

-- a position outside of brackets
abbrev pub block_position : Option ℕ → Part → NodePosition
block_position around q = record { around = around; flow = false; part = q }

-- the innermost level's column, 0 round a root
abbrev pub column_round : Option ℕ → ℕ
column_round None = 0
column_round (Some n) = n

-- a root is an item, and no simple key is walked so
abbrev pub is_place : Option ℕ → Part → Bool
is_place None q = not (is_of_mapping q)
is_place (Some n) q = not (is_simple_part q)

-- Settings of pretty form, and the directives of a document that may be written.
pub record IsPretty (s : Settings) (d : Opening) : Type 0 where
  pub pretty : s.canonical ≡ false
  pub least : least_indent ≤ s.indent
  pub most : s.indent ≤ most_indent
  pub fine : IsWritableOpening d

-- A node at a position of a block, up to the line after it, whose column isn't right of the innermost level: where a text goes on with the
-- node and then with that line and `after`, right of the innermost level or at it, the node's tokens come. It begins with white, where
-- the cursor isn't after white.
pub record NodeWalks (p : Context) (around : Option ℕ) (q : Part) (bare : Bool) (y : Node)
    : Type 0 where
  pub walks : (ls : List ℕ) (c : Cursor) (m : ℕ) (after : Rest) → c.bare ≡ bare
      → indent ls ≡ margin_round around → m ≤ column_round around
      → Ending p.settings.line_break m (indent ls) after
      → (x : yaml_encoding_t) (text : List ℕ) (o : WalkState) (T : List TokenBody → List TokenBody)
      → NodeStage x text c o ls [] T → indent ls ≤ column_at text o.at
      → Left text o.at (bytes (node_layout p (block_position around q) y c
      (λ e. line p.settings.line_break m e after)))
      → LinedUp x text after m (node_kept p false q y c.kept) ls
      (λ bs. T (node_bodies p false q bare y bs))
  pub white : (c : Cursor) (m : ℕ) (after : Rest) → c.white ≡ false
      → begins_white (bytes (node_layout p (block_position around q) y c
      (λ e. line p.settings.line_break m e after))) ≡ true

-- All nodes that may be written are walked so, at each position of a block that isn't a simple key's.
abbrev pub NodesAreWalked : Type 0
NodesAreWalked = (s : Settings) (d : Opening) → IsPretty s d → (y : Node) → IsWritable y
    → (around : Option ℕ) (q : Part) (bare : Bool) → is_place around q ≡ true
    → NodeWalks (context_of s d.directives) around q bare y

-- ---- what that is built on

-- an alias or a scalar
abbrev pub is_leaf : Node → Bool
is_leaf (alias_node name) = true
is_leaf (scalar_node v) = true
is_leaf (sequence_node q items) = false
is_leaf (mapping_node q pairs) = false

-- a literal or folded scalar
abbrev pub is_block : Style → Bool
is_block style.Plain = false
is_block style.Single = false
is_block style.Double = false
is_block style.Literal = true
is_block style.Folded = true

abbrev pub is_block_scalar : Context → Part → Node → Bool
is_block_scalar p q (alias_node name) = false
is_block_scalar p q (scalar_node v) = is_block (style_at p false q v)
is_block_scalar p q (sequence_node o items) = false
is_block_scalar p q (mapping_node o pairs) = false

abbrev pub LeavesAreWalked : Type 0
LeavesAreWalked = (s : Settings) (d : Opening) → IsPretty s d → (y : Node) → IsWritable y
    → (around : Option ℕ) (q : Part) (bare : Bool) → is_simple_part q ≡ false
    → is_leaf y ≡ true → is_block_scalar (context_of s d.directives) q y ≡ false
    → NodeWalks (context_of s d.directives) around q bare y

abbrev pub BlockScalarsAreWalked : Type 0
BlockScalarsAreWalked = (s : Settings) (d : Opening) → IsPretty s d → (v : Scalar)
    → IsWritable (scalar_node v)
    → (around : Option ℕ) (q : Part) (bare : Bool) → is_simple_part q ≡ false
    → is_block (style_at (context_of s d.directives) false q v) ≡ true
    → NodeWalks (context_of s d.directives) around q bare (scalar_node v)

-- a collection in brackets
abbrev pub is_bracketed : Context → Node → Bool
is_bracketed p (alias_node name) = false
is_bracketed p (scalar_node v) = false
is_bracketed p (sequence_node q items) = is_flow_at p false q (are_none items)
is_bracketed p (mapping_node q pairs) = is_flow_at p false q (are_no_pairs pairs)

abbrev pub BracketsAreWalked : Type 0
BracketsAreWalked = (s : Settings) (d : Opening) → IsPretty s d → (y : Node) → IsWritable y
    → is_bracketed (context_of s d.directives) y ≡ true
    → (around : Option ℕ) (q : Part) (bare : Bool) → is_simple_part q ≡ false
    → NodeWalks (context_of s d.directives) around q bare y

-- After an anchor, a tag, or both, in their line.
pub record Dressed (x : yaml_encoding_t) (text : List ℕ) (rest : Rest) (kept : Bool) (ls : List ℕ)
    (T : List TokenBody → List TokenBody) : Type 0 where
  pub cursor : Cursor
  pub place : WalkState
  pub stage : NodeStage x text cursor place ls [] T
  pub left : Left text place.at (bytes (rest cursor))
  pub bare : cursor.bare ≡ false
  pub white : cursor.white ≡ false
  pub right : indent ls ≤ column_at text place.at
  pub same : cursor.kept ≡ kept

-- white or nothing is after properties, or after a key's `:`
abbrev pub PartedBehind : Rest → Type 0
PartedBehind rest = (e : Cursor) → e.bare ≡ false → e.white ≡ false
    → begins_white (bytes (rest e)) ≡ true

-- A node's properties, before its content.
abbrev pub PropertiesAreWalked : Type 0
PropertiesAreWalked = (s : Settings) (d : Opening) → IsPretty s d → (anchor tag : Option (List ℕ))
    → IsWritableAnchor anchor → IsWritableTag tag → (has anchor || has tag) ≡ true
    → (ls : List ℕ) (c : Cursor) (rest : Rest) → PartedBehind rest
    → (x : yaml_encoding_t) (text : List ℕ) (o : WalkState) (T : List TokenBody → List TokenBody)
    → NodeStage x text c o ls [] T → indent ls ≤ column_at text o.at
    → Left text o.at (bytes (properties_text (context_of s d.directives) anchor tag c rest))
    → Dressed x text rest c.kept ls
    (λ bs. T (anchor_bodies anchor (tag_bodies d.directives tag bs)))

-- ---- simple keys

-- A simple key and its `:`, at a column of a bare line, at the innermost level that it leaves or right of it. What it writes shows, and
-- no block scalar is in it.
pub record KeyWalks (p : Context) (k : Node) : Type 0 where
  pub walks : (x : yaml_encoding_t) (text : List ℕ) (n : ℕ) (kept : Bool) (ls more new : List ℕ)
      (what : Opens) (T : List TokenBody → List TokenBody) (rest : Rest)
      → Lined x text
      (λ e. (node_layout p (block_position (Some n) part.SimpleKey) k ▹ char ascii.colon) e rest)
      n kept ls more T
      → indent ls ≤ n + 1 → Rises (n + 1) more → opened true (n + 1) ls ≡ new
      → start_of 0 (n + 1) ls opening.Mapping ≡ what → PartedBehind rest
      → Keyed x text rest n kept new (λ bs. T (start_bodies what (tokens.key
      ∷ node_bodies p false part.SimpleKey false k (tokens.value ∷ bs))))
  pub shows : (n : ℕ) (rest : Rest) → PartedBehind rest
      → ShowsNode n
      (λ e. (node_layout p (block_position (Some n) part.SimpleKey) k ▹ char ascii.colon) e rest)
  pub same : (kept : Bool) → node_kept p false part.SimpleKey k kept ≡ kept

-- All simple keys that may be written.
abbrev pub SimpleKeysAreWalked : Type 0
SimpleKeysAreWalked = (s : Settings) (d : Opening) → IsPretty s d → (k : Node) → IsWritable k
    → is_simple (context_of s d.directives) k ≡ true → KeyWalks (context_of s d.directives) k

-- With these laws all nodes are walked.
abbrev pub NodesFollow : Type 0
NodesFollow = LeavesAreWalked → BlockScalarsAreWalked → BracketsAreWalked → PropertiesAreWalked
    → SimpleKeysAreWalked → NodesAreWalked
