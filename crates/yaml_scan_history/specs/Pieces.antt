-- The value of a plain or quoted scalar, from its lines.
use Rattle.std.specs.Prelude.{ℕ, zero, suc, ◌+◌, Bool, true, false, if◌then◌else◌, List, [], ◌∷◌, ◌++◌}
use Rattle.yaml_scan_model.specs.scan_types.Ascii as ascii
use Rattle.yaml_scan_model.specs.scan_types.Marks.{byte}
use Rattle.yaml_scan_model.specs.Breaks.{is_feed}

-- A piece of the text: bytes that stay, a blank, or a break by what it reads as. An escaped break is
-- a piece that stays with no bytes, and a break that reads as nothing.
pub data Piece : Type 0 where
  Kept : List ℕ → Piece
  Blank : ℕ → Piece
  Break : List ℕ → Piece

-- A line's pieces, with no break among them.
abbrev pub Line : Type 0
Line = List Piece

-- A first line, and the others, each with the break before it.
pub record Lines : Type 0 where
  pub first : Line
  pub others : List (List ℕ × Line)

abbrev pub split_one : Piece → Lines → Lines
split_one (Kept bytes) ls = record { first = Kept bytes ∷ ls.first; others = ls.others }
split_one (Blank byte) ls = record { first = Blank byte ∷ ls.first; others = ls.others }
split_one (Break bytes) ls = record { first = []; others = (bytes, ls.first) ∷ ls.others }

abbrev pub lines : List Piece → Lines
lines [] = record { first = []; others = [] }
lines (p ∷ ps) = split_one p (lines ps)

abbrev pub is_empty : Line → Bool
is_empty [] = true
is_empty (Blank byte ∷ l) = is_empty l
is_empty (Kept bytes ∷ l) = false
is_empty (Break bytes ∷ l) = false

-- the line as it is
abbrev pub text : Line → List ℕ
text [] = []
text (Kept bytes ∷ l) = bytes ++ text l
text (Blank byte ∷ l) = byte ∷ text l
text (Break bytes ∷ l) = bytes ++ text l

-- without the blanks at its end
abbrev pub trim_end : Line → Line
trim_end [] = []
trim_end (Kept bytes ∷ l) = Kept bytes ∷ trim_end l
trim_end (Break bytes ∷ l) = Break bytes ∷ trim_end l
trim_end (Blank byte ∷ l) = if is_empty l then [] else Blank byte ∷ trim_end l

-- without the blanks at its start
abbrev pub trim_start : Line → Line
trim_start [] = []
trim_start (Blank byte ∷ l) = trim_start l
trim_start (Kept bytes ∷ l) = Kept bytes ∷ l
trim_start (Break bytes ∷ l) = Break bytes ∷ l

-- What a gap between two texts reads as: its first break, and the bytes of the others. A lone line
-- feed is a space, one before others goes, and any other break stays.
abbrev pub gap : List ℕ → List ℕ → List ℕ
gap first [] = if is_feed first then ascii.space ∷ [] else first
gap first (b ∷ bs) = if is_feed first then b ∷ bs else first ++ b ∷ bs

-- What follows a break: the other breaks of its gap, and the text after the gap.
pub record Rest : Type 0 where
  pub breaks : List ℕ
  pub value : List ℕ

abbrev pub rest_of : Line → List (List ℕ × Line) → Rest
rest_of l [] = record { breaks = []; value = text (trim_start l) }
rest_of l (next ∷ ls) =
    let rest = rest_of next.1 ls in
    if is_empty l then record { breaks = next.0 ++ rest.breaks; value = rest.value }
    else record {
      breaks = [];
      value = text (trim_end (trim_start l)) ++ gap next.0 rest.breaks
          ++ rest.value;
    }

-- The value of lines: blanks round a break go, and breaks are folded.
abbrev pub folded : Line → List (List ℕ × Line) → List ℕ
folded l [] = text l
folded l (next ∷ ls) =
    let rest = rest_of next.1 ls in
    text (trim_end l) ++ gap next.0 rest.breaks ++ rest.value

abbrev pub value : List Piece → List ℕ
value ps = let ls = lines ps in folded ls.first ls.others

-- the value of pieces that are after a gap's first break
abbrev pub behind : List ℕ → List Piece → List ℕ
behind first ps =
    let ls = lines ps in
    let rest = rest_of ls.first ls.others in
    gap first rest.breaks ++ rest.value

-- d bytes from there on
unfoldable pub bytes_at : List ℕ → ℕ → ℕ → List ℕ
bytes_at text p zero = []
bytes_at text p (suc d) = byte text p ∷ bytes_at text (p + 1) d
