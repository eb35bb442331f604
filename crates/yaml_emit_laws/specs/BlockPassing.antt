-- A block scalar in a text that goes on as its layout does.
use Rattle.std.specs.Prelude.{ℕ, ◌+◌, ◌<◌, ◌≡◌, Bool, true, false, ◌||◌, nat_lt, List, get_or, IsUtf8}
use Rattle.std.specs.Str.{chars}
use Rattle.yaml_emit_layout.specs.scan_types.Marks.{break_of, is_blank}
use Rattle.yaml_emit_layout.specs.declared.Cursor.{Cursor}
use Rattle.yaml_emit_layout.specs.Layout.{Rest, ◌▹◌, line}
use Rattle.yaml_emit_layout.specs.Scalars.{chomp}
use Rattle.yaml_emit_layout.specs.declared.level.NodePosition.{NodePosition}
use Rattle.yaml_emit_layout.specs.Content.{Scalar}
use Rattle.yaml_emit_layout.specs.Nodes.{Context, deeper, style_of, page_at}
use Rattle.yaml_emit_laws.specs.Walk.{Left, bytes}
use Rattle.yaml_emit_laws.specs.BlockLaws.{from_indicator, is_keep, margin_round, block_style, BlockStands}

-- a blank or a break comes first
abbrev pub begins_white : List ℕ → Bool
begins_white bs = is_blank (get_or bs 0 0)
    || nat_lt 0 (break_of (get_or bs 0 0) (get_or bs 1 0) (get_or bs 2 0))

-- the cursor after the start of a line that is indented by m, after a block scalar with that value
abbrev pub behind_line : ℕ → List ℕ → Cursor
behind_line m value = record {
  column = m;
  white = true;
  bare = true;
  kept = is_keep (chomp true true (chars value));
}

-- A block scalar is there, and where the scanner has come to after it, these bytes are left of the text.
pub record BlockPassed (folded : Bool) (level : ℕ) (text : List ℕ) (p : ℕ) (value : List ℕ) (m : ℕ)
    (bs : List ℕ) : Type 0 where
  pub end : ℕ
  pub stands : BlockStands folded level text p value end m
  pub left : Left text (end + m) bs

-- At each position of a layout where literal or folded style is chosen: where a text goes on with the scalar, from its indicator on,
-- then with a line left of it and then with `rest`, which doesn't begin with white space, there the scalar is read, in the level
-- that surrounds the position, and the text goes on with `rest` where the scanner has come to.
abbrev pub BlockIsPassed : Type 0
BlockIsPassed = (p : Context) (at : NodePosition) (x : Scalar) (folded : Bool) (c : Cursor) (m : ℕ)
    (rest : Rest) → IsUtf8 x.value → 0 < p.settings.indent → p.settings.indent < 10
    → style_of p at x ≡ block_style folded → m < deeper p.settings at.around
    → begins_white (bytes (rest (behind_line m x.value))) ≡ false → (text : List ℕ) (q : ℕ)
    → Left text q (bytes ((from_indicator (page_at p.settings at) p.settings.indent folded
    (chars x.value) ▹ line p.settings.line_break m) c rest))
    → BlockPassed folded (margin_round at.around) text q x.value m
    (bytes (rest (behind_line m x.value)))
