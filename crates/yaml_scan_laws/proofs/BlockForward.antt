-- Block scalars end after their start, inside the text.
use Rattle.std.proofs.Common.{◌≡◌, ℕ, zero, suc, ◌+◌, ◌<◌, ◌≤◌, ◌==◌, Bool, true, List, length, Result, Ok, Err, inl, inr, ◌⊎◌, arith}
use Rattle.yaml_scan_laws.proofs.Words.{cases_Bool, eqb-true, nat_tests, byte, break_width, is_blank, Wrong, within, past_break, IsFrom, Lands, BlockText, column_of, block_with, block_lines, block_behind, block_at}
use Rattle.yaml_scan_history.specs.scan_types.Classes.{is_digit_byte}
use Rattle.yaml_scan_history.specs.scan_model.Runs.{past_blanks, line_end}
use Rattle.yaml_scan_history.proofs.RunsLemmas.{past-inside, past-le, text_parts}
use Rattle.yaml_scan_history.specs.Value.{BlockLine, block_value}
use Rattle.yaml_scan_history.specs.Lines.{spaces, LineSpot, Stops, Line, Tab, spot_behind, line_spot, Lines, with_line, line_then, lines_from}
use Rattle.yaml_scan_history.specs.Header.{HeaderText, is_chomping, indicators, past_comment, header_end, header_at}

blank_some : (b : ℕ) → is_blank b ≡ true → 0 < b
blank_some b h = grind (arith, nat_tests)

blanks_place : (text : List ℕ) (p : ℕ) → p ≤ length text → IsFrom text p (past_blanks text p)
blanks_place text p l = grind (arith, nat_tests, past-le, past-inside, blank_some)

line_place : (text : List ℕ) (p : ℕ) → p ≤ length text → IsFrom text p (line_end text p)
line_place text p l = grind (arith, nat_tests, past-le, past-inside, text_parts)

further : (text : List ℕ) (o p q : ℕ) → o ≤ p → IsFrom text p q → IsFrom text o q
further text o p q h f = record { forward = omega (arith, h, f.forward); inside = f.inside }

-- a break there, if one is there, ends inside the text
break_place : (text : List ℕ) (p : ℕ) → p ≤ length text → IsFrom text p (p + break_width text p)
break_place text p l = grind (arith, nat_tests, past_break)

comment_place : (text : List ℕ) (p : ℕ) → p ≤ length text → IsFrom text p (past_comment text p)
unfolding past_comment
comment_place text p l = grind (arith, nat_tests, line_place)

-- how many indicators are there, by what they are
indicators_are : (b c : ℕ)
    → (indicators b c ≡ 0) ⊎ (((indicators b c ≡ 1) × (0 < b)) ⊎ ((indicators b c ≡ 2) × (0 < c)))
unfolding indicators is_chomping is_digit_byte
indicators_are b c = grind (arith, nat_tests)

indicators_place : (text : List ℕ) (p : ℕ) → p ≤ length text
    → IsFrom text p (p + indicators (byte text p) (byte text (p + 1)))
indicators_place text p l = grind (arith, nat_tests, indicators_are, within)

header_end_place : (text : List ℕ) (p : ℕ) → p ≤ length text → IsFrom text p (header_end text p)
header_end_place text p l = grind (arith, nat_tests, indicators_place, blanks_place, comment_place)

abbrev header_place : HeaderText → ℕ
header_place h = h.place

header_lands : (text : List ℕ) (p : ℕ) → p ≤ length text
    → Lands header_place text p (header_at text p)
unfolding header_at
header_lands text p l = grind (arith, nat_tests, header_end_place, further, break_place)

spaces-inside : (n : ℕ) (text : List ℕ) (p : ℕ) → p ≤ length text
    → p + spaces n text p ≤ length text
unfolding spaces
spaces-inside zero text p l = omega (arith, l)
spaces-inside (suc n) text p l =
    elim (cases_Bool (byte text p == 32)) [
      | inl h ↦
          let b : byte text p ≡ 32 = eqb-true _ _ h in
          let here = within text p (omega (arith, b)) in
          rw h (omega (arith, spaces-inside n text (p + 1) (omega (arith, here))))
      | inr h ↦ rw h (omega (arith, l))
    ]

-- a line, or the place where lines stop, is inside the text
abbrev Fits : List ℕ → ℕ → LineSpot → Type 0
Fits text p (Stops q) = IsFrom text p q
Fits text p (Line l q) = IsFrom text p q
Fits text p (Tab q) = Unit {0}

behind_fits : (c : ℕ) (text : List ℕ) (q : ℕ) → q ≤ length text → Fits text q (spot_behind c text q)
unfolding spot_behind
behind_fits c text q l = grind (arith, nat_tests, break_place, line_place, further)

fits_further : (text : List ℕ) (o p : ℕ) (s : LineSpot) → o ≤ p → Fits text p s → Fits text o s
fits_further text o p s h f = grind (arith, nat_tests, further)

spot_fits : (c : ℕ) (text : List ℕ) (p : ℕ) → p ≤ length text → Fits text p (line_spot c text p)
spot_fits c text p l = grind (arith, nat_tests, spaces-inside, fits_further, behind_fits)

-- lines whose last one ends at a place or after it, and that stop there or after, inside the text
record AreLines (text : List ℕ) (end : ℕ) (ls : Lines) : Type 0 where
  pub last : end ≤ ls.end
  pub place : ls.end ≤ ls.place
  pub inside : ls.place ≤ length text

abbrev Land : List ℕ → ℕ → Result Lines Wrong → Type 0
Land text end (Ok ls) = AreLines text end ls
Land text end (Err w) = Unit {0}

line_lands : (text : List ℕ) (end q : ℕ) (l : BlockLine) (r : Result Lines Wrong) → end ≤ q
    → Land text q r → Land text end (with_line l r)
line_lands text end q l r le h = grind (arith, nat_tests)

then_lands : (more : ℕ → Result Lines Wrong) (text : List ℕ) (end p : ℕ) (s : LineSpot) → end ≤ p
    → ((q : ℕ) → q ≤ length text → Land text q (more q)) → Fits text p s
    → Land text end (line_then more end s)
then_lands more text end p s le rest f = grind (arith, nat_tests, line_lands)

lines_land : (n c : ℕ) (text : List ℕ) (end p : ℕ) → end ≤ p → p ≤ length text
    → Land text end (lines_from n c text end p)
unfolding lines_from
lines_land zero c text end p le l = tt
lines_land (suc n) c text end p le l =
    then_lands (λ q. lines_from n c text q q) text end p (line_spot c text p) le (λ q m. lines_land n c text q q (omega arith) m) (spot_fits c text p l)

-- a block scalar that ends there or after, inside the text
pub record IsBlockFrom (text : List ℕ) (p : ℕ) (x : BlockText) : Type 0 where
  pub end : p ≤ x.end
  pub place : x.end ≤ x.place
  pub inside : x.place ≤ length text

abbrev pub LandsBlock : List ℕ → ℕ → Result BlockText Wrong → Type 0
LandsBlock text p (Ok x) = IsBlockFrom text p x
LandsBlock text p (Err w) = Unit {0}

with_lands : (text : List ℕ) (o p : ℕ) (f : List BlockLine → List ℕ) (r : Result Lines Wrong)
    → o ≤ p → Land text p r → LandsBlock text o (block_with f r)
with_lands text o p f r le h = grind (arith, nat_tests)

block_lines_land : (folded : Bool) (text : List ℕ) (p : ℕ) (h : HeaderText) (r : Result ℕ Wrong)
    → IsFrom text p h.place → LandsBlock text p (block_lines folded text h r)
block_lines_land folded text p h (Ok c) f =
    with_lands text p h.place (block_value folded h.chomp) (lines_from (suc (length text)) c text h.place h.place) f.forward
    (lines_land (suc (length text)) c text h.place h.place (omega arith) f.inside)
block_lines_land folded text p h (Err w) f = tt

behind_lands : (folded : Bool) (level : ℕ) (text : List ℕ) (p : ℕ) (r : Result HeaderText Wrong)
    → Lands header_place text p r → LandsBlock text p (block_behind folded level text r)
behind_lands folded level text p (Ok h) f = block_lines_land folded text p h (column_of level text h.digit h.place) f
behind_lands folded level text p (Err w) f = tt

-- a block scalar ends after its indicator
pub block_place : (level : ℕ) (text : List ℕ) (p : ℕ) → p < length text
    → LandsBlock text (p + 1) (block_at level text p)
block_place level text p l = behind_lands (byte text p == 62) level text (p + 1) (header_at text (p + 1)) (header_lands text (p + 1) (omega arith))
