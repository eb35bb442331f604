-- White between texts, and what it reads as.
use Rattle.std.specs.Prelude.{ℕ, zero, suc, ◌+◌, ◌-◌, ◌≡◌, ◌<◌, true, false, ◌&&◌, ◌==◌, max, nat_lt, if◌then◌else◌, List, [], ◌∷◌, ◌++◌}
use Rattle.yaml_scan_types.specs.Ascii as ascii
use Rattle.yaml_scan_types.specs.Marks.{byte, break_width, column_at, is_blank}
use Rattle.yaml_scan_model.specs.Breaks.{feed_at}
use Rattle.yaml_scan_model.specs.Runs.{past_blanks}
use Rattle.yaml_scan_history.specs.Pieces.{Piece, Blank, Break, gap}
use Rattle.yaml_scan_history.specs.Plain.{leads}

-- how far a look at a place goes: past the break there, or one byte
abbrev pub step_width : List ℕ → ℕ → ℕ
step_width text p = max (break_width text p) 1

-- what the breaks read as from one place up to another, in at most n steps
unfoldable pub feeds_within : ℕ → List ℕ → ℕ → ℕ → List ℕ
feeds_within zero text p q = []
feeds_within (suc n) text p q =
    if nat_lt p q then feed_at text p ++ feeds_within n text (p + step_width text p) q else []

-- what the breaks read as from one place up to another
abbrev pub feeds : List ℕ → ℕ → ℕ → List ℕ
feeds text p q = feeds_within (q - p) text p q

-- What white reads as from one place up to another, the first break among it: that one goes, or is a space, where it reads as a line
-- feed, and stays else; the others stay.
abbrev pub fold_of : List ℕ → ℕ → ℕ → List ℕ
fold_of text p q =
    let first = past_blanks text p in
    gap (feed_at text first) (feeds text (first + break_width text first) q)

-- From one place to another there is white, of these pieces, with no tab in the indentation.
pub data White (level : ℕ) (text : List ℕ) : ℕ → ℕ → List Piece → Type 0 where
  no_white : (p : ℕ) → White level text p p []
  white_blank : (p q : ℕ) (ps : List Piece) → is_blank (byte text p) ≡ true
      → (byte text p == ascii.tab && (leads text p && nat_lt (column_at text p) level)) ≡ false
      → White level text (p + 1) q ps → White level text p q (Blank (byte text p) ∷ ps)
  white_break : (p q : ℕ) (ps : List Piece) → 0 < break_width text p
      → White level text (p + break_width text p) q ps
      → White level text p q (Break (feed_at text p) ∷ ps)
