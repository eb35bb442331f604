-- Double and single quoted scalars.
use Rattle.std.specs.Prelude.{ℕ, zero, suc, ◌+◌, ◌*◌, ◌-◌, Bool, ◌&&◌, ◌||◌, ◌==◌, nat_lt, nat_le, if◌then◌else◌, List, [], ◌∷◌, ◌++◌, length, Option, Some, None, option_and_then, option_map, Result, Ok, Err, encode_utf8}
use Rattle.yaml_scan_model.specs.scan_types.Ascii as ascii
use Rattle.yaml_scan_model.specs.scan_types.Points as points
use Rattle.yaml_scan_model.specs.declared.problem.Problem.{Problem}
use Rattle.yaml_scan_model.specs.declared.problem.Problem.TheVariants as problems
use Rattle.yaml_scan_model.specs.declared.problem.Context.TheVariants as contexts
use Rattle.yaml_scan_model.specs.scan_types.Marks.{byte, break_width, is_blank}
use Rattle.yaml_scan_model.specs.Breaks.{break_value, is_document_indicator}
use Rattle.yaml_scan_model.specs.Wrong.{Wrong}
use Rattle.yaml_scan_history.specs.Pieces.{Piece, Kept, Blank, Break, value}

-- What is at a place inside the quotes: the closing one, pieces with the place after them, or what is wrong.
pub data QuotedSpot : Type 0 where
  Closing : QuotedSpot
  Pieces : List Piece → ℕ → QuotedSpot
  Bad : Wrong → QuotedSpot

abbrev pub in_quotes : Problem → ℕ → QuotedSpot
in_quotes problem p = Bad record { problem = problem; context = contexts.QuotedScalar; place = p }

abbrev pub in_escape : Problem → ℕ → QuotedSpot
in_escape problem p = Bad record {
  problem = problem;
  context = contexts.QuotedScalarEscape;
  place = p;
}

-- the value of a hexadecimal digit
unfoldable pub hex_digit : ℕ → Option ℕ
hex_digit b =
    if nat_le ascii.digit_zero b && nat_le b ascii.digit_nine then Some (b - ascii.digit_zero)
    else if nat_le ascii.capital_a b && nat_le b ascii.capital_f then Some (b - ascii.capital_digit)
    else if nat_le ascii.small_a b && nat_le b ascii.small_f then Some (b - ascii.small_digit)
    else None

-- the number that n hexadecimal digits spell, or none where one of them is no digit
unfoldable pub hex_value : List ℕ → ℕ → ℕ → Option ℕ
hex_value text p zero = Some 0
hex_value text p (suc n) = option_and_then (λ high. option_map (λ low. high * 16 + low)
    (hex_digit (byte text (p + n)))) (hex_value text p n)

-- a Unicode scalar value
abbrev pub is_scalar : ℕ → Bool
is_scalar c = nat_lt c 0xD800 || (nat_le 0xE000 c && nat_le c 0x10_FFFF)

abbrev pub coded : ℕ → ℕ → Option ℕ → QuotedSpot
coded p q None = in_escape problems.NoHexNumber p
coded p q (Some c) = if is_scalar c then Pieces (Kept (encode_utf8 c) ∷ []) q
    else in_escape problems.InvalidCode p

-- how many digits follow `x`, `u` and `U`
unfoldable pub hex_len : ℕ → ℕ
hex_len b = if b == ascii.small_x then 2 else if b == ascii.small_u then 4
    else if b == ascii.capital_u then 8 else 0

-- the bytes that a letter spells after a backslash
unfoldable pub simple_escape : ℕ → Option (List ℕ)
simple_escape b =
    if b == ascii.digit_zero then Some (ascii.null ∷ [])
    else if b == ascii.small_a then Some (ascii.bell ∷ [])
    else if b == ascii.small_b then Some (ascii.backspace ∷ [])
    else if b == ascii.small_t || b == ascii.tab then Some (ascii.tab ∷ [])
    else if b == ascii.small_n then Some (ascii.line_feed ∷ [])
    else if b == ascii.small_v then Some (ascii.vertical_tab ∷ [])
    else if b == ascii.small_f then Some (ascii.form_feed ∷ [])
    else if b == ascii.small_r then Some (ascii.carriage_return ∷ [])
    else if b == ascii.small_e then Some (ascii.escape ∷ [])
    else if b == ascii.space || (b == ascii.quote || (b == ascii.slash || b == ascii.backslash))
    then Some (b ∷ [])
    else if b == ascii.capital_n then Some points.next_line_utf8
    else if b == ascii.underscore then Some points.no_break_space_utf8
    else if b == ascii.capital_l then Some points.line_separator_utf8
    else if b == ascii.capital_p then Some points.paragraph_separator_utf8
    else None

abbrev pub escaped : ℕ → Option (List ℕ) → QuotedSpot
escaped p None = in_escape problems.UnknownEscape p
escaped p (Some bytes) = Pieces (Kept bytes ∷ []) (p + 2)

-- what the backslash there begins
unfoldable pub escape_at : List ℕ → ℕ → QuotedSpot
escape_at text p =
    if nat_lt 0 (break_width text (p + 1)) then Pieces (Kept [] ∷ Break [] ∷ [])
    (p + 1 + break_width text (p + 1))
    else if nat_lt 0 (hex_len (byte text (p + 1)))
    then coded (p + 2) (p + 2 + hex_len (byte text (p + 1)))
    (hex_value text (p + 2) (hex_len (byte text (p + 1))))
    else escaped p (simple_escape (byte text (p + 1)))

-- the quote there closes the scalar, or is the first of two that spell one
unfoldable pub quote_at : ℕ → List ℕ → ℕ → QuotedSpot
quote_at quote text p =
    if quote == ascii.apostrophe && byte text (p + 1) == ascii.apostrophe
    then Pieces (Kept (ascii.apostrophe ∷ []) ∷ [])
    (p + 2) else Closing

-- between quotes of that byte
unfoldable pub standing_at : ℕ → List ℕ → ℕ → QuotedSpot
standing_at quote text p =
    if is_document_indicator text p then in_quotes problems.DocumentIndicator p
    else if byte text p == 0 then in_quotes problems.EndOfStream p
    else if byte text p == quote then quote_at quote text p
    else if nat_lt 0 (break_width text p) then Pieces (Break (break_value text p) ∷ [])
    (p + break_width text p)
    else if is_blank (byte text p) then Pieces (Blank (byte text p) ∷ []) (p + 1)
    else if quote == ascii.quote && byte text p == ascii.backslash then escape_at text p
    else Pieces (Kept (byte text p ∷ []) ∷ []) (p + 1)

-- these pieces before what follows
abbrev pub with_front : List Piece → Result (List Piece × ℕ) Wrong → Result (List Piece × ℕ) Wrong
with_front ps (Ok x) = Ok (ps ++ x.0, x.1)
with_front ps (Err w) = Err w

abbrev pub followed : (ℕ → Result (List Piece × ℕ) Wrong) → ℕ → QuotedSpot
    → Result (List Piece × ℕ) Wrong
followed more p Closing = Ok ([], p + 1)
followed more p (Pieces qs q) = with_front qs (more q)
followed more p (Bad w) = Err w

-- the pieces up to the closing quote, and the place after it, in at most n steps
unfoldable pub pieces : ℕ → ℕ → List ℕ → ℕ → Result (List Piece × ℕ) Wrong
pieces zero quote text p = Err
    record { problem = problems.EndOfStream; context = contexts.QuotedScalar; place = p }
pieces (suc n) quote text p = followed (pieces n quote text) p (standing_at quote text p)

-- a value of the pieces, and the place after them
abbrev pub valued : (List Piece → List ℕ) → Result (List Piece × ℕ) Wrong
    → Result (List ℕ × ℕ) Wrong
valued f (Ok x) = Ok (f x.0, x.1)
valued f (Err w) = Err w

-- the scalar between quotes of that byte whose opening one is there: its value and the place after it, or what is wrong
abbrev pub quoted_at : ℕ → List ℕ → ℕ → Result (List ℕ × ℕ) Wrong
quoted_at quote text p = valued value (pieces (length text) quote text (p + 1))

abbrev pub double_quoted_at : List ℕ → ℕ → Result (List ℕ × ℕ) Wrong
double_quoted_at text p = quoted_at ascii.quote text p

abbrev pub single_quoted_at : List ℕ → ℕ → Result (List ℕ × ℕ) Wrong
single_quoted_at text p = quoted_at ascii.apostrophe text p
