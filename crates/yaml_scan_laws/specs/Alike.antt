-- A text within another one.
use Rattle.std.specs.Prelude.{◌≡◌, ◌⊎◌, ◌<◌, ◌≤◌, ℕ, ◌+◌, Bool, true, not, ◌&&◌, ◌||◌, ◌==◌, List, length}
use Rattle.yaml_scan_history.specs.scan_types.Ascii as ascii
use Rattle.yaml_scan_history.specs.scan_types.Marks.{byte, ends_break, column_at}
use Rattle.yaml_scan_history.specs.scan_types.Classes.{is_bom}
use Rattle.yaml_scan_history.specs.scan_model.Breaks.{is_document_indicator}

-- the byte is neither the end nor CR nor LF
unfoldable pub is_onward : ℕ → Bool
is_onward b = not (b == 0 || (b == ascii.line_feed || b == ascii.carriage_return))

-- From its place d on, the text u has the bytes of t, as far as the place m of t, where both end, or t ends and a line of u
-- begins with `---` or `...`. Both begin at column 0.
pub record Alike (t u : List ℕ) (d m : ℕ) : Type 0 where
  pub bytes : (p : ℕ) → p < m → byte u (d + p) ≡ byte t p
  pub onward : (p : ℕ) → p < m → is_onward (byte t p) ≡ true → p + 1 < m
  pub edge : byte t m ≡ 0
  pub stops : (byte u (d + m) ≡ 0) ⊎ (is_document_indicator u (d + m) ≡ true)
  pub column : column_at u d ≡ 0
  pub ends : (p : ℕ) → p < m → ends_break u (d + p) ≡ ends_break t p
  pub short : m ≤ length t + 1
  pub long : d + m ≤ length u + 1
  pub covers : length t ≤ m
  pub bom : (p : ℕ) → p < m → (d + p == 0 && is_bom u (d + p)) ≡ (p == 0 && is_bom t p)
