-- Where a plain scalar ends.
use Rattle.std.specs.Prelude.{ℕ, Bool, not, ◌&&◌, nat_lt, List}
use Rattle.yaml_scan_history.specs.scan_types.Marks.{byte, break_width, is_blank}
use Rattle.yaml_scan_history.specs.Plain.{ends_at}

-- a plain scalar ends before what is there, which is neither a blank nor a break
unfoldable pub ends_plain : Bool → ℕ → List ℕ → ℕ → Bool
ends_plain flow level text p = not (is_blank (byte text p))
    && (not (nat_lt 0 (break_width text p)) && ends_at flow level text p)
