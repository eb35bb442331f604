-- Folding, a piece at a time.
use Rattle.std.proofs.Common.{◌≡◌, ℕ, true, false, List, [], ◌∷◌, ◌++◌, map, refl, arith, append_assoc, append-nil}
use Rattle.yaml_scan_history.proofs.ScalarWords.{Piece, Kept, Blank, Break, Line, lines, is_empty, text, trim_end, gap, rest_of, folded, value, is_feed, behind}

abbrev pub blanks_of : List ℕ → List Piece
blanks_of bs = map (λ b. Blank b) bs

pub lines-blanks : (bs : List ℕ) (ps : List Piece)
    → lines (blanks_of bs ++ ps) ≡ record
    { first = blanks_of bs ++ (lines ps).first; others = (lines ps).others }
lines-blanks [] ps = refl
lines-blanks (b ∷ bs) ps = rw (lines-blanks bs ps) refl

pub text-blanks : (bs : List ℕ) (l : Line) → text (blanks_of bs ++ l) ≡ bs ++ text l
text-blanks [] l = refl
text-blanks (b ∷ bs) l = rw (text-blanks bs l) refl

pub blanks_not_empty : (bs k : List ℕ) (l : Line) → is_empty (blanks_of bs ++ Kept k ∷ l) ≡ false
blanks_not_empty [] k l = refl
blanks_not_empty (b ∷ bs) k l = blanks_not_empty bs k l

pub blanks_empty : (bs : List ℕ) → is_empty (blanks_of bs ++ []) ≡ true
blanks_empty [] = refl
blanks_empty (b ∷ bs) = blanks_empty bs

pub trim_end-kept : (bs k : List ℕ) (l : Line)
    → trim_end (blanks_of bs ++ Kept k ∷ l) ≡ blanks_of bs ++ Kept k ∷ trim_end l
trim_end-kept [] k l = refl
trim_end-kept (b ∷ bs) k l = rw (blanks_not_empty bs k l, trim_end-kept bs k l) refl

pub trim_end-blanks : (bs : List ℕ) → trim_end (blanks_of bs ++ []) ≡ []
trim_end-blanks [] = refl
trim_end-blanks (b ∷ bs) = rw (blanks_empty bs) refl

folded-kept : (bs k : List ℕ) (l : Line) (ls : List (List ℕ × Line))
    → folded (blanks_of bs ++ Kept k ∷ l) ls ≡ bs ++ (k ++ folded l ls)
folded-kept bs k l ls = grind (arith, text-blanks, Kept, trim_end-kept, append_assoc)

-- Blanks and a run of text before pieces are their bytes.
pub value-kept : (bs k : List ℕ) (ps : List Piece)
    → value (blanks_of bs ++ Kept k ∷ ps) ≡ bs ++ (k ++ value ps)
value-kept bs k ps = rw (lines-blanks bs (Kept k ∷ ps)) (folded-kept bs k (lines ps).first (lines ps).others)

-- Blanks before a break are no part of the value.
pub value-break : (bs b : List ℕ) (ps : List Piece)
    → value (blanks_of bs ++ Break b ∷ ps) ≡ behind b ps
value-break bs b ps = rw (lines-blanks bs (Break b ∷ ps), trim_end-blanks bs) refl

-- a blank before a line is no part of the value
pub rest_of-blank : (b : ℕ) (l : Line) (ls : List (List ℕ × Line))
    → rest_of (Blank b ∷ l) ls ≡ rest_of l ls
rest_of-blank b l [] = refl
rest_of-blank b l (next ∷ ls) = refl

-- A break that isn't a line feed is kept.
pub gap-other : (first others : List ℕ) → is_feed first ≡ false → gap first others ≡ first ++ others
gap-other first others h = grind (arith, append-nil)
