-- Classes of bytes, by which values are judged and copied in runs.
use Rattle.std.specs.Prelude.{◌≡◌, ℕ, ◌+◌, ◌<◌, ◌≤◌, Bool, true, false, not, ◌==◌, ◌||◌, ◌&&◌, nat_lt, nat_le, bit_and, get_or, length, if◌then◌else◌, List}
use Rattle.yaml_scan_types.specs.Ascii as ascii

-- a bit where it is due
abbrev pub bit : ℕ → Bool → ℕ
bit m true = m
bit m false = 0

-- a break, or the first byte of one: LF, CR, and those of NEL, LS and PS
abbrev pub leads_break : ℕ → Bool
leads_break b = b == ascii.line_feed || b == ascii.carriage_return || b == 0xC2 || b == 0xE2

-- not printable, or the first byte of a character that may not be
abbrev pub leads_special : ℕ → Bool
leads_special b = (nat_lt b ascii.space && not (b == ascii.line_feed)) || b == ascii.delete
    || b == 0xC2 || b == 0xEF

-- , ? [ ] { }
abbrev pub ends_flow : ℕ → Bool
ends_flow b = b == ascii.comma || b == ascii.question || b == ascii.open_bracket
    || b == ascii.close_bracket || b == ascii.open_brace || b == ascii.close_brace

-- with what no plain scalar begins, or not with every byte after it
abbrev pub leads_badly : ℕ → Bool
leads_badly b =
    b == ascii.space || b == ascii.hash || b == ascii.comma || b == ascii.open_bracket
    || b == ascii.close_bracket || b == ascii.open_brace || b == ascii.close_brace
    || b == ascii.ampersand
    || b == ascii.asterisk || b == ascii.exclamation || b == ascii.bar || b == ascii.greater
    || b == ascii.apostrophe || b == ascii.quote || b == ascii.percent || b == ascii.at
    || b == ascii.grave || b == ascii.hyphen || b == ascii.question || b == ascii.dot

-- its classes, a bit each; what is no byte has all
unfoldable pub class_of : ℕ → ℕ
class_of b =
    if nat_lt b 0x100 then bit 0x001 (b == ascii.space) + (bit 0x002 (leads_break b)
    + (bit 0x004 (leads_special b) + (bit 0x008 (b == ascii.quote || b == ascii.backslash)
    + (bit 0x010 (nat_le 0x80 b) + (bit 0x020 (b == ascii.apostrophe) + (bit 0x040 (ends_flow b)
    + (bit 0x080 (b == ascii.colon || b == ascii.hash) + bit 0x100 (leads_badly b))))))))
    else 0x1FF

-- it is of one of these classes
abbrev pub is_of : ℕ → ℕ → Bool
is_of classes b = not (bit_and (class_of b) classes == 0)

-- some classes have those of each byte from one place to another
abbrev pub Covers : ℕ → List ℕ → ℕ → ℕ → Type 0
Covers classes text from to = (k : ℕ) → from ≤ k → k < to
    → bit_and (class_of (get_or text k 0)) classes ≡ class_of (get_or text k 0)

-- no byte from one place to another is of these classes
pub record NoneOf (classes : ℕ) (text : List ℕ) (from to : ℕ) : Type 0 where
  pub forward : from ≤ to
  pub inside : to ≤ length text
  pub none : (k : ℕ) → from ≤ k → k < to → is_of classes (get_or text k 0) ≡ false

-- the first place from there on whose byte has one of these classes, or the end
pub record FirstOf (classes : ℕ) (text : List ℕ) (from at : ℕ) : Type 0 where
  pub before : NoneOf classes text from at
  pub here : at < length text → is_of classes (get_or text at 0) ≡ true
