-- The header of a block scalar.
use Rattle.std.specs.Prelude.{ℕ, ◌+◌, ◌-◌, Bool, ◌||◌, ◌==◌, if◌then◌else◌, List, Result, Ok, Err}
use Rattle.yaml_scan_model.specs.scan_types.Ascii as ascii
use Rattle.yaml_scan_model.specs.declared.problem.Problem.TheVariants as problems
use Rattle.yaml_scan_model.specs.scan_types.Marks.{byte, break_width}
use Rattle.yaml_scan_model.specs.scan_types.Classes.{is_digit_byte}
use Rattle.yaml_scan_model.specs.Runs.{is_text, past_blanks, line_end}
use Rattle.yaml_scan_model.specs.Wrong.{Wrong}
use Rattle.yaml_scan_history.specs.declared.header.Chomp.{Chomp}
use Rattle.yaml_scan_history.specs.declared.header.Chomp.TheVariants as chomps
use Rattle.yaml_scan_history.specs.Lines.{in_block}

-- A header: what happens to the last breaks, the digit or 0, and the place after the header's break.
pub record HeaderText : Type 0 where
  pub chomp : Chomp
  pub digit : ℕ
  pub place : ℕ

-- `+` or `-`
unfoldable pub is_chomping : ℕ → Bool
is_chomping b = b == ascii.plus || b == ascii.hyphen

unfoldable pub chomp_of : ℕ → Chomp
chomp_of b =
    if b == ascii.plus then chomps.Keep else if b == ascii.hyphen then chomps.Strip else chomps.Clip

-- the digit's value, or 0
unfoldable pub digit_of : ℕ → ℕ
digit_of b = if is_digit_byte b then b - ascii.digit_zero else 0

-- the place where a digit can be, after a chomping indicator there
abbrev pub digit_place : List ℕ → ℕ → ℕ
digit_place text p = if is_chomping (byte text p) then p + 1 else p

-- the place where a chomping indicator can be, after a digit there
abbrev pub chomping_place : List ℕ → ℕ → ℕ
chomping_place text p = if is_digit_byte (byte text p) then p + 1 else p

-- how many of two bytes are a chomping indicator and a digit, in either order
unfoldable pub indicators : ℕ → ℕ → ℕ
indicators b c =
    if is_chomping b then (if is_digit_byte c then 2 else 1)
    else if is_digit_byte b then (if is_chomping c then 2 else 1)
    else 0

-- the place after the comment there, if one is there
unfoldable pub past_comment : List ℕ → ℕ → ℕ
past_comment text p = if byte text p == ascii.hash then line_end text p else p

-- the place of the header's break, after blanks and a comment
abbrev pub header_end : List ℕ → ℕ → ℕ
header_end text p = past_comment text
    (past_blanks text (p + indicators (byte text p) (byte text (p + 1))))

-- the header whose indicator is before the place
unfoldable pub header_at : List ℕ → ℕ → Result HeaderText Wrong
header_at text p =
    if byte text (digit_place text p) == ascii.digit_zero
    then Err (in_block problems.ZeroIndentation (digit_place text p))
    else if is_text text (header_end text p)
    then Err (in_block problems.NoCommentOrBreak (header_end text p))
    else Ok record {
      chomp = chomp_of (byte text (chomping_place text p));
      digit = digit_of (byte text (digit_place text p));
      place = header_end text p + break_width text (header_end text p);
    }
