-- Texts that are written.
use Rattle.std.specs.Prelude.{ℕ, ◌+◌, ◌<◌, ◌/◌, ◌%◌, Bool, true, false, not, ◌&&◌, ◌||◌, ◌==◌, nat_lt, if◌then◌else◌, List, [], ◌∷◌, ◌++◌, ◌≡◌, length, get_or, Ok}
use Rattle.yaml_scan_model.specs.scan_types.Ascii as ascii
use Rattle.yaml_scan_model.specs.scan_types.Marks.{byte, break_width}
use Rattle.yaml_scan_model.specs.scan_types.Classes.{is_alpha_byte, is_bom}
use Rattle.yaml_scan_history.specs.Uris.{is_punctuation, is_wide_punctuation, due_behind}

-- the text has these bytes from the place on
abbrev pub HasAt : List ℕ → ℕ → List ℕ → Type 0
HasAt text p xs = (k : ℕ) → k < length xs → byte text (p + k) ≡ get_or xs k 0

-- alphas alone
abbrev pub are_alphas : List ℕ → Bool
are_alphas [] = true
are_alphas (b ∷ bs) = is_alpha_byte b && are_alphas bs

-- spaces, CR and LF alone
abbrev pub are_gap : List ℕ → Bool
are_gap [] = true
are_gap (b ∷ bs) =
    (b == ascii.space || (b == ascii.line_feed || b == ascii.carriage_return)) && are_gap bs

-- CR or LF is among the bytes
abbrev pub has_break : List ℕ → Bool
has_break [] = false
has_break (b ∷ bs) = (b == ascii.line_feed || b == ascii.carriage_return) || has_break bs

-- a lexeme is there, or the end: neither a blank nor a comment nor a break, nor U+FEFF at the start of the text
abbrev pub begins_lexeme : List ℕ → ℕ → Bool
begins_lexeme text p =
    not (byte text p == ascii.space) && (not (byte text p == ascii.tab)
    && (not (byte text p == ascii.hash)
    && (not (nat_lt 0 (break_width text p)) && not (p == 0 && is_bom text p))))

-- A byte of a URI as it is, or as an escape.
pub data UriPiece : Type 0 where
  raw : ℕ → UriPiece
  escape : ℕ → UriPiece

-- a hexadecimal digit in capitals
unfoldable pub capital : ℕ → ℕ
capital d = if nat_lt d 10 then d + ascii.digit_zero else d + ascii.capital_digit

abbrev pub piece_text : UriPiece → List ℕ
piece_text (raw b) = b ∷ []
piece_text (escape b) = ascii.percent ∷ capital (b / 16) ∷ capital (b % 16) ∷ []

abbrev pub piece_byte : UriPiece → ℕ
piece_byte (raw b) = b
piece_byte (escape b) = b

-- the text that the pieces are written as
abbrev pub uri_text : List UriPiece → List ℕ
uri_text [] = []
uri_text (piece ∷ pieces) = piece_text piece ++ uri_text pieces

-- the bytes that they spell
abbrev pub uri_bytes : List UriPiece → List ℕ
uri_bytes [] = []
uri_bytes (piece ∷ pieces) = piece_byte piece ∷ uri_bytes pieces

-- a character that a URI holds as it is
abbrev pub is_kept : Bool → ℕ → Bool
is_kept wide b = is_alpha_byte b || (is_punctuation b || (wide && is_wide_punctuation b))

-- The pieces are a URI, where that many escapes are due: what is raw is kept, and escapes spell whole characters, a leading
-- byte and its trailing bytes.
abbrev pub IsUri : Bool → ℕ → List UriPiece → Type 0
IsUri wide due [] = due ≡ 0
IsUri wide due (raw b ∷ pieces) = (due ≡ 0) × (is_kept wide b ≡ true) × IsUri wide 0 pieces
IsUri wide due (escape b ∷ pieces) = (b < 256) × ((next : ℕ) × (due_behind b due ≡ Ok next)
    × IsUri wide next pieces)

-- no raw `!` is among the pieces
abbrev pub has_no_mark : List UriPiece → Bool
has_no_mark [] = true
has_no_mark (raw b ∷ pieces) = not (b == ascii.exclamation) && has_no_mark pieces
has_no_mark (escape b ∷ pieces) = has_no_mark pieces
