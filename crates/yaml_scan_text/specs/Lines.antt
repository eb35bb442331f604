-- Where lines start, and where characters do.
use Rattle.std.specs.Prelude.{ℕ, zero, suc, ◌+◌, ◌-◌, ◌<◌, ◌≤◌, ◌≡◌, true, false, if◌then◌else◌, List, length}
use Rattle.yaml_scan_history.specs.Plain.{leads, after_white}
use Rattle.yaml_scan_types.specs.Marks.{byte, break_width, ends_break, splits_break, column_at, is_blank, starts}

-- where the line starts in which the place is
unfoldable pub line_start : List ℕ → ℕ → ℕ
line_start text zero = zero
line_start text (suc p) = if ends_break text p then suc p else line_start text p

-- Characters begin at the text's front, after ASCII and after breaks: so they do in each text that is UTF-8.
pub record IsSpelled (text : List ℕ) : Type 0 where
  pub front : starts (byte text 0) ≡ true
  pub ascii : (p : ℕ) → byte text p < 128 → starts (byte text (p + 1)) ≡ true
  pub breaks : (p : ℕ) → 0 < break_width text p → starts (byte text (p + break_width text p)) ≡ true

-- A place in a line that starts there, after blanks alone.
pub record InHead (text : List ℕ) (line p : ℕ) : Type 0 where
  pub inside : p ≤ length text
  pub whole : splits_break text p ≡ false
  pub order : line ≤ p
  pub own : line ≡ line_start text p
  pub column : column_at text p ≡ p - line
  pub leading : leads text p ≡ true
  pub white : after_white text p ≡ true
  pub starts : starts (byte text p) ≡ true
  pub blanks : (k : ℕ) → line ≤ k → k < p → is_blank (byte text k) ≡ true

-- A place in a line that starts there; its column is known, except at the text's end.
pub record AtLine (text : List ℕ) (line p : ℕ) : Type 0 where
  pub inside : p ≤ length text
  pub whole : splits_break text p ≡ false
  pub order : line ≤ p
  pub own : line ≡ line_start text p
  pub column : 0 < byte text p → column_at text p ≡ p - line
