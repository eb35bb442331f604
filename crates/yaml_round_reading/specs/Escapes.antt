-- Bytes that are pushed as they are.
use Rattle.std.specs.Prelude.{◌≡◌, ◌<◌, ◌≤◌, ℕ, Bool, false, ◌||◌, ◌==◌, nat_le, List, length, slice_index}
use Rattle.yaml_scan_model.specs.scan_types.Ascii as ascii

-- it is a control byte up to CR, or a backslash
unfoldable pub may_escape : ℕ → Bool
may_escape b = nat_le b ascii.carriage_return || b == ascii.backslash

-- none of the bytes before a place is such
pub record IsPlainTo (text : List ℕ) (end : ℕ) : Type 0 where
  pub within : end ≤ length text
  pub plain : (k : ℕ) → k < end → may_escape (slice_index text k) ≡ false
