-- What a layout within block collections knows of the line that it is in.
use Rattle.std.specs.Prelude.{◌≡◌, Bool, true, false, not, ◌&&◌, List, [], ◌∷◌}
use Rattle.yaml_emit_layout.specs.declared.Cursor.{Cursor}
use Rattle.yaml_emit_layout.specs.Layout.{Rest, Layout}
use Rattle.yaml_emit_layout.specs.ToCome.{Frame, items_left, pairs_left, value_left}

-- a line has text, and no value is due: an item, a key or an end comes next
unfoldable pub is_block : Frame → Bool
is_block (items_left flow n fresh ns) = not flow
is_block (pairs_left flow n fresh ps) = not flow
is_block (value_left flow n simple v ps) = false

unfoldable pub are_block : List Frame → Bool
are_block [] = true
are_block (f ∷ fs) = is_block f && are_block fs

-- From two cursors in lines that have text, after block scalars of which both keep their breaks or both don't, the same is laid out.
abbrev pub Forgets : Layout → Type 0
Forgets a = (c d : Cursor) (rest : Rest) → c.bare ≡ false → d.bare ≡ false → c.kept ≡ d.kept
    → a c rest ≡ a d rest
