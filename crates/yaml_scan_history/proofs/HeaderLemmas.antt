-- Headers of block scalars, a byte at a time.
use Rattle.std.proofs.Common.{◌≡◌, ◌≢◌, ℕ, ◌+◌, ◌<◌, true, false, List, Ok, Err, refl, arith}
use Rattle.yaml_scan_history.proofs.BlockWords.{nat_tests, eq-eqb, ne_eqb, byte, break_of, break_width, is_text, no_break, in_block, is_chomping, indicators, digit_place, chomping_place, digit_of, chomp_of, header_end, header_at}
use Rattle.yaml_scan_model.specs.declared.problem.Problem.TheVariants as problems
use Rattle.yaml_scan_model.specs.scan_types.Classes.{is_digit_byte}

between : (b c d : ℕ) → (42 < b) × (b < 58) → (0 < b) × (break_of b c d ≡ 0)
between b c d (h, k) = (omega arith, no_break b c d (omega arith) (omega arith) (omega arith) (omega arith))

pub first_parts : (b c d e n : ℕ) → n ≡ indicators b c → n ≢ 0 → (0 < b) × (break_of b d e ≡ 0)
first_parts b c d e n i h = between b d e (unfold indicators is_chomping is_digit_byte in (grind (arith, nat_tests), grind (arith, nat_tests)))

pub second_parts : (b c d e n : ℕ) → n ≡ indicators b c → n ≢ 0 → n ≢ 1
    → (0 < c) × (break_of c d e ≡ 0)
second_parts b c d e n i h k = between c d e (unfold indicators is_chomping is_digit_byte in (grind (arith, nat_tests), grind (arith, nat_tests)))

pub zero_header : (text : List ℕ) (p : ℕ) → byte text (digit_place text p) ≡ 48
    → header_at text p ≡ Err (in_block problems.ZeroIndentation (digit_place text p))
unfolding header_at
zero_header text p h = rw (eq-eqb (byte text (digit_place text p)) 48 h) refl

pub wrong_header : (text : List ℕ) (p : ℕ) → byte text (digit_place text p) ≢ 48
    → is_text text (header_end text p) ≡ true
    → header_at text p ≡ Err (in_block problems.NoCommentOrBreak (header_end text p))
unfolding header_at
wrong_header text p h k = rw (ne_eqb (byte text (digit_place text p)) 48 h, k) refl

-- A header is read: its chomping, digit, and the break after it.
pub whole_header : (text : List ℕ) (p : ℕ) → byte text (digit_place text p) ≢ 48
    → is_text text (header_end text p) ≡ false
    → header_at text p ≡ Ok record {
      chomp = chomp_of (byte text (chomping_place text p));
      digit = digit_of (byte text (digit_place text p));
      place = header_end text p + break_width text (header_end text p);
    }
unfolding header_at
whole_header text p h k = rw (ne_eqb (byte text (digit_place text p)) 48 h, k) refl
