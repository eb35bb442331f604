-- The line of a place, by where it starts.
use Rattle.std.specs.Prelude.{ℕ, ◌≡◌, ◌<◌, ◌≤◌, List}
use Rattle.yaml_scan_model.specs.scan_types.Marks.{line_at}

-- The line of a place starts there: it is the same one, and what is before is on an earlier one.
pub record IsLineStart (text : List ℕ) (at line : ℕ) : Type 0 where
  pub before : line ≤ at
  pub same : line_at text line ≡ line_at text at
  pub earlier : (i : ℕ) → i < line → line_at text i < line_at text line
