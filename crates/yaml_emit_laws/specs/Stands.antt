-- Bytes that are at a place of a text.
use Rattle.std.specs.Prelude.{ℕ, ◌+◌, ◌<◌, ◌≡◌, List, length, get_or}
use Rattle.yaml_scan_history.specs.scan_types.Marks.{byte}

-- the text has these bytes from the place on
abbrev pub HasAt : List ℕ → ℕ → List ℕ → Type 0
HasAt text p xs = (k : ℕ) → k < length xs → byte text (p + k) ≡ get_or xs k 0
