-- The values of scalars have no more bytes than what was read of them: pieces between quotes and of plain scalars, lines of block scalars.
use Rattle.std.proofs.Common.{◌≡◌, ℕ, zero, suc, ◌+◌, ◌-◌, ◌<◌, ◌≤◌, Bool, true, false, not, ◌&&◌, ◌==◌, List, [], ◌∷◌, ◌++◌, length, take, drop, refl, arith, inl, inr, le_refl, length-append}
use Rattle.yaml_round_laws.proofs.SizesWords.{cases_Bool, eqb-true, slice_range, break_width, break_value, is_feed, Piece, Kept, Blank, Break, Line, Lines, split_one, lines, is_empty, text, trim_end, trim_start, gap, rest_of, folded, value, chomp_of, BlockLine, Empty, Words, TextLine, Texts, add_line, texts_of, starts_blank, space_or, between, at_end, behind_text, value_with, block_value}

-- ---- between quotes, and plain

abbrev pub piece_size : Piece → ℕ
piece_size (Kept bytes) = length bytes
piece_size (Blank b) = 1
piece_size (Break bytes) = length bytes

abbrev pub pieces_size : List Piece → ℕ
pieces_size [] = 0
pieces_size (p ∷ ps) = piece_size p + pieces_size ps

pub pieces_append : (xs ys : List Piece) → pieces_size (xs ++ ys) ≡ pieces_size xs + pieces_size ys
pieces_append [] ys = omega arith
pieces_append (x ∷ xs) ys = omega (arith, pieces_append xs ys)

abbrev others_size : List (List ℕ × Line) → ℕ
others_size [] = 0
others_size (next ∷ ls) = length next.0 + pieces_size next.1 + others_size ls

abbrev lines_size : Lines → ℕ
lines_size ls = pieces_size ls.first + others_size ls.others

split_size : (p : Piece) (ls : Lines) → lines_size (split_one p ls) ≡ piece_size p + lines_size ls
split_size (Kept bytes) ls = omega arith
split_size _ ls = omega arith

lines_are : (ps : List Piece) → lines_size (lines ps) ≡ pieces_size ps
lines_are [] = refl
lines_are (p ∷ ps) = omega (arith, split_size p (lines ps), lines_are ps)

text_size : (l : Line) → length (text l) ≡ pieces_size l
text_size [] = refl
text_size (Kept bytes ∷ l) = omega (arith, length-append bytes (text l), text_size l)
text_size (Blank b ∷ l) = omega (arith, text_size l)
text_size (Break bytes ∷ l) = omega (arith, length-append bytes (text l), text_size l)

end_size : (l : Line) → pieces_size (trim_end l) ≤ pieces_size l
end_size [] = le_refl _
end_size (Kept bytes ∷ l) = omega (arith, end_size l)
end_size (Break bytes ∷ l) = omega (arith, end_size l)
end_size (Blank b ∷ l) =
    elim (cases_Bool (is_empty l)) [
      | inl e ↦ rw e (omega arith)
      | inr e ↦ rw e (omega (arith, end_size l))
    ]

start_size : (l : Line) → pieces_size (trim_start l) ≤ pieces_size l
start_size (Blank b ∷ l) = omega (arith, start_size l)
start_size _ = le_refl _

gap_size : (first rest : List ℕ) → length (gap first rest) ≤ length first + length rest
gap_size [] [] = omega arith
gap_size [] (c ∷ cs) = omega arith
gap_size (b ∷ bs) [] =
    elim (cases_Bool (is_feed (b ∷ bs))) [ inl e ↦ rw e (omega arith) | inr e ↦ rw e (omega arith) ]
gap_size (b ∷ bs) (c ∷ cs) =
    elim (cases_Bool (is_feed (b ∷ bs))) [
      | inl e ↦ rw e (omega arith)
      | inr e ↦ rw e (omega (arith, length-append (b ∷ bs) (c ∷ cs)))
    ]

rest_size : (l : Line) (ls : List (List ℕ × Line))
    → length (rest_of l ls).breaks + length (rest_of l ls).value ≤ pieces_size l + others_size ls
rest_size l [] = omega (arith, text_size (trim_start l), start_size l)
rest_size l (next ∷ ls) =
    let rest = rest_of next.1 ls in
    let more = rest_size next.1 ls in
    elim (cases_Bool (is_empty l)) [
      | inl e ↦ rw e (omega (arith, more, length-append next.0 rest.breaks))
      | inr e ↦
          let front = text (trim_end (trim_start l)) in
          let between = gap next.0 rest.breaks in
          let a : length (front ++ between ++ rest.value) ≡ length front + length between + length rest.value = omega (arith, length-append (front ++ between) rest.value, length-append front between) in
          rw e (omega (arith, a, more, gap_size next.0 rest.breaks, text_size (trim_end (trim_start l)), end_size (trim_start l), start_size l))
    ]

folded_size : (l : Line) (ls : List (List ℕ × Line))
    → length (folded l ls) ≤ pieces_size l + others_size ls
folded_size l [] = omega (arith, text_size l)
folded_size l (next ∷ ls) =
    let rest = rest_of next.1 ls in
    let front = text (trim_end l) in
    let between = gap next.0 rest.breaks in
    let a : length (front ++ between ++ rest.value) ≡ length front + length between + length rest.value = omega (arith, length-append (front ++ between) rest.value, length-append front between) in
    omega (arith, a, rest_size next.1 ls, gap_size next.0 rest.breaks, text_size (trim_end l), end_size l)

pub value_size : (ps : List Piece) → length (value ps) ≤ pieces_size ps
value_size ps = omega (arith, folded_size (lines ps).first (lines ps).others, lines_are ps)

-- what a break reads as
pub break_size : (text : List ℕ) (p : ℕ) → 0 < break_width text p
    → length (break_value text p) ≤ break_width text p
unfolding break_value
break_size text p some =
    elim (cases_Bool (break_width text p == 3)) [
      | inl e ↦ rw e (omega (arith, eqb-true (break_width text p) 3 e))
      | inr e ↦ rw e (omega (arith, some))
    ]

-- a part
pub slice_size : (xs : List ℕ) (a b : ℕ) → length (slice_range xs a b) ≤ b - a
slice_size xs a b = taken_size (b - a) (drop a xs)
  where
    taken_size : (n : ℕ) (ys : List ℕ) → length (take n ys) ≤ n
    taken_size zero ys = omega arith
    taken_size (suc n) [] = omega arith
    taken_size (suc n) (y ∷ ys) = omega (arith, taken_size n ys)

-- ---- block scalars

abbrev pub line_size : BlockLine → ℕ
line_size (Empty b) = length b
line_size (Words words feed) = length words + length feed

abbrev pub block_size : List BlockLine → ℕ
block_size [] = 0
block_size (l ∷ ls) = line_size l + block_size ls

abbrev texts_size : List TextLine → ℕ
texts_size [] = 0
texts_size (l ∷ ls) = length l.words + length l.feed + length l.empties + texts_size ls

abbrev all_size : Texts → ℕ
all_size g = length g.lead + texts_size g.lines

add_size : (l : BlockLine) (g : Texts) → all_size (add_line l g) ≡ line_size l + all_size g
add_size (Empty b) g = omega (arith, length-append b g.lead)
add_size (Words words feed) g = omega arith

texts_are : (ls : List BlockLine) → all_size (texts_of ls) ≡ block_size ls
texts_are [] = refl
texts_are (l ∷ ls) = omega (arith, add_size l (texts_of ls), texts_are ls)

ending_size : (b : ℕ) (feed empties : List ℕ)
    → length (at_end (chomp_of b) feed empties) ≤ length feed + length empties
unfolding chomp_of
ending_size b feed empties =
    elim (cases_Bool (b == 43)) [
      | inl e ↦ rw e (omega (arith, length-append feed empties))
      | inr e ↦ elim (cases_Bool (b == 45)) [
        | inl f ↦ rw (e, f) (omega arith)
        | inr f ↦ rw (e, f) (omega arith)
      ]
    ]

space_size : (b : ℕ) (feed empties : List ℕ)
    → length (space_or empties) ≤ length (b ∷ feed) + length empties
space_size b feed [] = omega arith
space_size b feed (c ∷ cs) = omega arith

not_bare : (folded bare : Bool) → (folded && (bare && false)) ≡ false
not_bare true true = refl
not_bare true false = refl
not_bare false bare = refl

between_size : (folded bare : Bool) (feed empties : List ℕ)
    → length (between folded bare feed empties) ≤ length feed + length empties
unfolding between
between_size folded bare [] empties = rw (not_bare folded bare) (omega arith)
between_size folded bare (b ∷ feed) empties =
    elim (cases_Bool (folded && (bare && is_feed (b ∷ feed)))) [
      | inl e ↦ rw e (space_size b feed empties)
      | inr e ↦ rw e (omega (arith, length-append (b ∷ feed) empties))
    ]

behind_size : (folded : Bool) (sign : ℕ) (blank : Bool) (feed empties : List ℕ) (ls : List TextLine)
    → length (behind_text folded (chomp_of sign) blank feed empties ls) ≤ length feed + length
    empties + texts_size ls
behind_size folded sign blank feed empties [] = omega (arith, ending_size sign feed empties)
behind_size folded sign blank feed empties (l ∷ ls) =
    let gap = between folded (not blank && not (starts_blank l.words)) feed empties in
    let more = behind_text folded (chomp_of sign) (starts_blank l.words) l.feed l.empties ls in
    omega (arith, length-append gap (l.words ++ more), length-append l.words more, between_size folded (not blank && not (starts_blank l.words)) feed empties, behind_size folded sign (starts_blank l.words) l.feed l.empties ls)

with_size : (folded : Bool) (sign : ℕ) (lead : List ℕ) (ls : List TextLine)
    → length (value_with folded (chomp_of sign) lead ls) ≤ length lead + texts_size ls
with_size folded sign lead [] = omega (arith, ending_size sign [] lead)
with_size folded sign lead (l ∷ ls) =
    let more = behind_text folded (chomp_of sign) (starts_blank l.words) l.feed l.empties ls in
    omega (arith, length-append lead (l.words ++ more), length-append l.words more, behind_size folded sign (starts_blank l.words) l.feed l.empties ls)

pub block_value_size : (folded : Bool) (sign : ℕ) (ls : List BlockLine)
    → length (block_value folded (chomp_of sign) ls) ≤ block_size ls
block_value_size folded sign ls = omega (arith, with_size folded sign (texts_of ls).lead (texts_of ls).lines, texts_are ls)
