-- The break after a directive, which belongs to its word.
use Rattle.std.proofs.Common.{◌≡◌, ℕ, ◌+◌, ◌==◌, nat_lt, Bool, true, false, List, refl, arith}
use Rattle.yaml_emit_laws.proofs.Shared.{nat_tests, get_or_past, byte, break_of, break_width, is_break, Cursor, LineBreak, Rest, line, blanks, new_line, Left, Starts, bytes, first}
use Rattle.yaml_emit_laws.proofs.Forms.{at_line, NoFeed}
use Rattle.yaml_emit_laws.proofs.Places.{left_first, left_more}
use Rattle.yaml_emit_laws.proofs.Steps.{left_letter, behind_feed, behind_return}

-- A break is there, and the rest of the text is at the start of the line after it.
pub record Broken (text : List ℕ) (q : ℕ) (rest : Rest) (kept : Bool) : Type 0 where
  pub is : is_break text q ≡ true
  pub starts : Starts text (q + break_width text q)
  pub left : Left text (q + break_width text q) (bytes (rest (at_line kept)))

-- The byte at a place is the first of those left there.
pub left_byte : (text : List ℕ) (p : ℕ) (bs : List ℕ) → Left text p bs → byte text p ≡ first bs
left_byte text p bs l = grind (arith, nat_tests, get_or_past, left_first)

-- LF is a break of one byte.
pub feed_width : (text : List ℕ) (q : ℕ) → byte text q ≡ 10 → break_width text q ≡ 1
unfolding break_of
feed_width text q h = rw h refl

-- CR without LF is a break of one byte.
pub return_width : (text : List ℕ) (q : ℕ) → byte text q ≡ 13 → (byte text (q + 1) ≡ 10 → ⊥)
    → break_width text q ≡ 1
unfolding break_of
return_width text q h calm = let e : (byte text (q + 1) == 10) ≡ false = grind (arith, nat_tests) in rw (h, e) refl

-- CR LF is a break of two bytes.
pub both_width : (text : List ℕ) (q : ℕ) → byte text q ≡ 13 → byte text (q + 1) ≡ 10
    → break_width text q ≡ 2
unfolding break_of
both_width text q h k = rw (h, k) refl

broken_by : (text : List ℕ) (q : ℕ) (rest : Rest) (kept : Bool) (n : ℕ) → break_width text q ≡ n
    → nat_lt 0 n ≡ true → Starts text (q + n) → Left text (q + n) (bytes (rest (at_line kept)))
    → Broken text q rest kept
broken_by text q rest kept n width some starts left = grind (arith, nat_tests)

new_line_broken : (b : LineBreak) (text : List ℕ) (c : Cursor) (q : ℕ) (rest : Rest) → NoFeed rest
    → Left text q (bytes (new_line b c rest)) → Broken text q rest c.kept
new_line_broken b text c q rest calm l = grind (arith, nat_tests, left_letter, left_first, broken_by, feed_width, behind_feed, left_more, left_byte, return_width, behind_return, both_width)

-- the end of a line that isn't bare
pub line_broken : (b : LineBreak) (text : List ℕ) (c : Cursor) (q : ℕ) (rest : Rest)
    → c.bare ≡ false → NoFeed rest → Left text q (bytes (line b 0 c rest))
    → Broken text q rest c.kept
unfolding line blanks
line_broken b text c q rest e calm l = grind (arith, nat_tests, new_line_broken)
