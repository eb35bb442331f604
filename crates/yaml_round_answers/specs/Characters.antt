-- Characters before a place, and what is where a node begins.
use Rattle.std.specs.Prelude.{◌≡◌, ◌≤◌, ℕ, Bool, true, false, ◌&&◌, ◌||◌, ◌==◌, List, length, take, drop, slice_range}
use Rattle.std.specs.List.{count_by}
use Rattle.yaml_scan_model.specs.scan_types.Ascii as ascii
use Rattle.yaml_scan_model.specs.scan_types.Marks.{byte, starts}
use Rattle.yaml_scan_history.specs.Between.{gap_at}
use Rattle.yaml_round_answers.specs.declared.counting.Count.{Count}

-- ---- characters

-- how many characters begin before a place of a text; after its end, all
abbrev pub characters_before : List ℕ → ℕ → ℕ
characters_before text place = count_by starts (take place text)

-- that many are before that place; where each byte begins one, that is known alone
pub record Counts (text : List ℕ) (c : Count) : Type 0 where
  pub single : c.is_single ≡ true → count_by starts text ≡ length text
  pub within : c.place ≤ length text
  pub is : c.characters ≡ characters_before text c.place

-- ---- tags

-- the byte after the blanks, comments and breaks with which a text begins
abbrev pub behind_gap : List ℕ → ℕ
behind_gap text = byte text (gap_at true false text 0).place

-- the tag of a node is after an anchor, whose name has that many bytes
abbrev pub stands_behind : List ℕ → ℕ → Bool
stands_behind node name = behind_gap (drop name (drop 1 node)) == ascii.exclamation

-- a node begins with its tag, which begins with `!`, or with an anchor, and has it after that
abbrev pub begins_tag : List ℕ → ℕ → Bool
begins_tag node name = byte node 0 == ascii.exclamation
    || (byte node 0 == ascii.ampersand && stands_behind node name)

-- The node that is in a text from one place to another has a tag; `name` is the length of its anchor's name.
abbrev pub has_tag : List ℕ → ℕ → ℕ → ℕ → Bool
has_tag text start end name = begins_tag (slice_range text start end) name
