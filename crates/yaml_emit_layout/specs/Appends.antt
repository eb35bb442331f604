-- Bytes that are appended, as far as the limit and the memory allow.
use Rattle.std.specs.Prelude.{◌≡◌, ℕ, ◌+◌, ◌<◌, ◌≤◌, true, false, List, ◌++◌, length, take}
use Rattle.yaml_emit_layout.specs.declared.cursor.Cursor.{Cursor}
use Rattle.yaml_emit_layout.specs.declared.cursor.Status.{Status}
use Rattle.yaml_emit_layout.specs.declared.cursor.Status.TheVariants.{Going, Full, Deep, Starved}

-- the bytes are appended, or those of them that the limit or the memory allows
abbrev pub AppendsBy : Status → ℕ → List ℕ → List ℕ → List ℕ → Type 0
AppendsBy Going limit old new bytes = (new ≡ old ++ bytes) × (length new ≤ limit)
AppendsBy Full limit old new bytes = (new ≡ take limit (old ++ bytes))
    × ((limit < length (old ++ bytes)) × (length old ≤ limit))
AppendsBy Deep limit old new bytes = ⊥
AppendsBy Starved limit old new bytes = new ≡ old

-- the cursor after that many spaces, one at least
abbrev pub blanked : ℕ → Cursor → Cursor
blanked n c = record { column = c.column + n; white = true; bare = c.bare; kept = c.kept }

-- the cursor after that many characters, one at least
abbrev pub lettered : ℕ → Cursor → Cursor
lettered n c = record { column = c.column + n; white = false; bare = false; kept = c.kept }
