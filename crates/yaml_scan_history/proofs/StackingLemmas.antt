-- Block scalars' values, a line at a time.
use Rattle.std.proofs.Common.{◌≡◌, ℕ, Bool, true, false, not, ◌&&◌, List, [], ◌∷◌, ◌++◌, length, ◌<◌, refl, append_assoc, append-nil, arith}
use Rattle.yaml_scan_history.proofs.BlockWords.{BlockLine, Empty, Words, TextLine, texts_of, between, behind_text, value_with, at_end, starts_blank, space_or, stacked_with, Chomp}

-- An empty line is put after those before it.
pub stack_empty : (folded : Bool) (done : List ℕ) (any blank : Bool) (feed empties b : List ℕ)
    (chomp : Chomp) (ls : List BlockLine)
    → stacked_with folded done any blank feed (empties ++ b) chomp (texts_of ls)
    ≡ stacked_with folded done any blank feed empties chomp (texts_of (Empty b ∷ ls))
unfolding stacked_with
stack_empty folded done any blank feed empties b chomp ls = grind (arith, append_assoc, texts_of)

pub stack_line : (folded : Bool) (done : List ℕ) (blank : Bool)
    (feed empties words next : List ℕ) (chomp : Chomp) (ls : List BlockLine)
    → stacked_with folded ((done ++ between folded (not blank && not (starts_blank words)) feed empties)
    ++ words) true (starts_blank words) next [] chomp (texts_of ls)
    ≡ stacked_with folded done true blank feed empties chomp (texts_of (Words words next ∷ ls))
unfolding stacked_with
stack_line folded done blank feed empties words next chomp ls = grind (arith, append-nil, append_assoc)

-- With no text before it, nothing but the empty lines is before the first one.
pub stack_start : (folded : Bool) (chomp : Chomp) (lead : List ℕ) (lines : List TextLine)
    → behind_text folded chomp false [] lead lines ≡ value_with folded chomp lead lines
unfolding between
stack_start folded chomp lead lines = grind arith

-- After the last line comes what stays of its break and of the empty lines.
pub stack_done : (folded blank : Bool) (done feed empties : List ℕ) (chomp : Chomp)
    → done ++ at_end chomp feed empties
    ≡ stacked_with folded done true blank feed empties chomp (texts_of [])
unfolding stacked_with
stack_done folded blank done feed empties chomp = rw (append-nil empties) refl

-- A fold with breaks is these, and no space.
pub space_or_some : (xs : List ℕ) → (0 < length xs) → [] ++ xs ≡ space_or xs
space_or_some xs h = grind arith
