-- Plain scalars.
use Rattle.std.specs.Prelude.{ℕ, zero, suc, ◌+◌, ◌-◌, Bool, true, false, not, ◌&&◌, ◌||◌, ◌==◌, nat_lt, if◌then◌else◌, List, [], ◌∷◌, length, Result, Ok, Err}
use Rattle.yaml_scan_model.specs.scan_types.Ascii as ascii
use Rattle.yaml_scan_model.specs.declared.problem.Problem.{Problem}
use Rattle.yaml_scan_model.specs.declared.problem.Problem.TheVariants as problems
use Rattle.yaml_scan_model.specs.declared.problem.Context.TheVariants as contexts
use Rattle.yaml_scan_model.specs.scan_types.Marks.{byte, break_width, ends_break, column_at, is_blank, is_blank_or_end}
use Rattle.yaml_scan_model.specs.Breaks.{break_value, is_document_indicator}
use Rattle.yaml_scan_model.specs.Wrong.{Wrong}
use Rattle.yaml_scan_history.specs.Pieces.{Piece, Kept, Blank, Break, value}

-- one of `, [ ] { }`
unfoldable pub is_bracket : ℕ → Bool
is_bracket b = (b == ascii.comma || (b == ascii.open_bracket || b == ascii.close_bracket))
    || (b == ascii.open_brace || b == ascii.close_brace)

-- one of `- ? : , [ ] { } # & * ! | > ' " % @` and the grave accent
unfoldable pub is_indicator_byte : ℕ → Bool
is_indicator_byte b =
    (is_bracket b || (b == ascii.hyphen || (b == ascii.question || b == ascii.colon)))
    || ((b == ascii.hash || (b == ascii.ampersand
    || (b == ascii.asterisk || b == ascii.exclamation)))
    || ((b == ascii.bar || (b == ascii.greater || b == ascii.apostrophe))
    || ((b == ascii.quote || b == ascii.percent) || (b == ascii.at || b == ascii.grave))))

-- a plain scalar can start with what is there
unfoldable pub starts_plain : Bool → List ℕ → ℕ → Bool
starts_plain flow text p =
    not (is_blank_or_end text p)
    && ((not (is_indicator_byte (byte text p))
    || (byte text p == ascii.hyphen && not (is_blank (byte text (p + 1)))))
    || (not flow && ((byte text p == ascii.question || byte text p == ascii.colon)
    && not (is_blank_or_end text (p + 1)))))

-- a blank or the end of a break is before the place
abbrev pub after_white : List ℕ → ℕ → Bool
after_white text p = is_blank (byte text (p - 1)) || ends_break text (p - 1)

-- blanks alone are between the place and the break before it
unfoldable pub leads : List ℕ → ℕ → Bool
leads text zero = false
leads text (suc p) = if is_blank (byte text p) then leads text p else ends_break text p

-- What is at a place inside the scalar: its end, a piece with the place after it, or what is wrong.
pub data PlainSpot : Type 0 where
  Ends : PlainSpot
  Takes : Piece → ℕ → PlainSpot
  Faulty : Wrong → PlainSpot

abbrev pub in_plain : Problem → ℕ → PlainSpot
in_plain problem p = Faulty record { problem = problem; context = contexts.PlainScalar; place = p }

-- the scalar ends before what is there, which is no blank and no break; a level is an indent's column + 1, or 0
unfoldable pub ends_at : Bool → ℕ → List ℕ → ℕ → Bool
ends_at flow level text p =
    (byte text p == 0 || is_document_indicator text p)
    || ((byte text p == ascii.hash && after_white text p)
    || ((byte text p == ascii.colon && is_blank_or_end text (p + 1))
    || (if flow then is_bracket (byte text p) else leads text p && nat_lt (column_at text p)
    level)))

unfoldable pub spot_at : Bool → ℕ → List ℕ → ℕ → PlainSpot
spot_at flow level text p =
    if nat_lt 0 (break_width text p) then Takes (Break (break_value text p))
    (p + break_width text p)
    else if is_blank (byte text p) then
    (if byte text p == ascii.tab && (leads text p && nat_lt (column_at text p) level)
    then in_plain problems.TabInIndentation p
    else Takes (Blank (byte text p)) (p + 1))
    else if ends_at flow level text p then Ends
    else if flow && (byte text p == ascii.colon
    && (is_bracket (byte text (p + 1)) || byte text (p + 1) == ascii.question))
    then in_plain problems.UnexpectedColon p
    else Takes (Kept (byte text p ∷ [])) (p + 1)

-- What follows a place inside the scalar: the pieces up to its last character, the place after that
-- one, the place after the white after it, and whether a break is among that white.
pub record Words : Type 0 where
  pub pieces : List Piece
  pub end : ℕ
  pub place : ℕ
  pub broke : Bool

abbrev pub is_nothing : List Piece → Bool
is_nothing [] = true
is_nothing (x ∷ xs) = false

-- White before what follows is a piece only where characters follow; a character that nothing follows
-- is the last one. The place is the one after the piece.
abbrev pub with_piece : Piece → ℕ → Words → Words
with_piece (Kept bytes) q w = record {
  pieces = Kept bytes ∷ w.pieces;
  end = if is_nothing w.pieces
      then q else w.end;
  place = w.place;
  broke = w.broke;
}
with_piece (Blank b) q w =
    if is_nothing w.pieces then w
    else record { pieces = Blank b ∷ w.pieces; end = w.end; place = w.place; broke = w.broke }
with_piece (Break b) q w =
    if is_nothing w.pieces then record { pieces = []; end = w.end; place = w.place; broke = true }
    else record { pieces = Break b ∷ w.pieces; end = w.end; place = w.place; broke = w.broke }

abbrev pub words_from : Piece → ℕ → Result Words Wrong → Result Words Wrong
words_from x q (Ok w) = Ok (with_piece x q w)
words_from x q (Err e) = Err e

abbrev pub follows : (ℕ → Result Words Wrong) → ℕ → PlainSpot → Result Words Wrong
follows more p Ends = Ok record { pieces = []; end = p; place = p; broke = false }
follows more p (Takes x q) = words_from x q (more q)
follows more p (Faulty w) = Err w

-- what follows the place, in at most n steps
unfoldable pub words : ℕ → Bool → ℕ → List ℕ → ℕ → Result Words Wrong
words zero flow level text p = Err
    record { problem = problems.EndOfStream; context = contexts.PlainScalar; place = p }
words (suc n) flow level text p = follows (words n flow level text) p (spot_at flow level text p)

-- A plain scalar: its value, the place after its last character, the place after the white after it,
-- and whether a break is among that white.
pub record PlainText : Type 0 where
  pub value : List ℕ
  pub end : ℕ
  pub place : ℕ
  pub broke : Bool

abbrev pub plain_with : (Words → PlainText) → Result Words Wrong → Result PlainText Wrong
plain_with f (Ok w) = Ok (f w)
plain_with f (Err e) = Err e

abbrev pub plain_text : Words → PlainText
plain_text w = record { value = value w.pieces; end = w.end; place = w.place; broke = w.broke }

-- the plain scalar whose first byte is there, or what is wrong
abbrev pub plain_at : Bool → ℕ → List ℕ → ℕ → Result PlainText Wrong
plain_at flow level text p = plain_with plain_text (words_from (Kept (byte text p ∷ [])) (p + 1)
    (words (length text) flow level text (p + 1)))
