-- Quoted scalars end after their start, inside the text.
use Rattle.std.proofs.Common.{◌≡◌, ℕ, zero, suc, ◌+◌, ◌*◌, ◌<◌, ◌≤◌, ◌==◌, false, List, length, Option, Some, None, option_and_then, option_map, Result, arith}
use Rattle.yaml_scan_laws.proofs.Words.{nat_tests, byte, Wrong, within, past_break, behind_bytes, Lands, Piece, QuotedSpot, Closing, Pieces, Bad, hex_digit, hex_value, coded, simple_escape, escaped, escape_at, quote_at, standing_at, with_front, followed, pieces, quoted_at}
use Rattle.yaml_scan_history.specs.Quoted.{valued}

-- what is not 0 is more
pub some_of : (b : ℕ) → (b == 0) ≡ false → 0 < b
some_of b h = grind (arith, nat_tests)

-- there is a value
abbrev pub IsThere : {A : Type 0} → Option A → Type 0
IsThere (Some x) = Unit {0}
IsThere None = ⊥

digit_some : (b : ℕ) → IsThere (hex_digit b) → 0 < b
unfolding hex_digit
digit_some b h = grind (arith, nat_tests)

simple_some : (b : ℕ) → IsThere (simple_escape b) → 0 < b
unfolding simple_escape
simple_some b h = grind (arith, nat_tests)

-- a number of two digits has the last one
pub last_digit : (a b : Option ℕ)
    → IsThere (option_and_then (λ high. option_map (λ low. high * 16 + low) b) a) → IsThere b
last_digit a b h = grind (arith, nat_tests)

hex_inside : (n : ℕ) (text : List ℕ) (p : ℕ) → 0 < n → IsThere (hex_value text p n)
    → p + n ≤ length text
unfolding hex_value
hex_inside zero text p h s = absurd (omega arith)
hex_inside (suc n) text p h s =
    let digit = last_digit (hex_value text p n) (hex_digit (byte text (p + n))) s in
    omega (arith, within text (p + n) (digit_some (byte text (p + n)) digit))

-- what is at the place ends after it, inside the text
abbrev Fits : List ℕ → ℕ → QuotedSpot → Type 0
Fits text p Closing = p < length text
Fits text p (Pieces qs q) = (p < q) × (q ≤ length text)
Fits text p (Bad w) = Unit {0}

coded_fits : (text : List ℕ) (p spot q : ℕ) (o : Option ℕ)
    → (IsThere o → (p < q) × (q ≤ length text)) → Fits text p (coded spot q o)
coded_fits text p spot q o h = grind (arith, nat_tests)

escaped_fits : (text : List ℕ) (p : ℕ) (o : Option (List ℕ)) → (IsThere o → p + 2 ≤ length text)
    → Fits text p (escaped p o)
escaped_fits text p o h = grind (arith, nat_tests)

simple_inside : (text : List ℕ) (p : ℕ) → IsThere (simple_escape (byte text (p + 1)))
    → p + 2 ≤ length text
simple_inside text p h = let here = within text (p + 1) (simple_some (byte text (p + 1)) h) in omega (arith, here)

escape_fits : (text : List ℕ) (p : ℕ) → Fits text p (escape_at text p)
unfolding escape_at
escape_fits text p = grind (arith, nat_tests, past_break, coded_fits, hex_inside, escaped_fits, simple_inside)

quote_fits : (quote : ℕ) (text : List ℕ) (p : ℕ) → p < length text
    → Fits text p (quote_at quote text p)
unfolding quote_at
quote_fits quote text p l = grind (arith, nat_tests, within)

standing_fits : (quote : ℕ) (text : List ℕ) (p : ℕ) → Fits text p (standing_at quote text p)
unfolding standing_at
standing_fits quote text p = grind (arith, nat_tests, within, some_of, quote_fits, past_break, escape_fits)

abbrev behind_pieces : List Piece × ℕ → ℕ
behind_pieces x = x.1

front_lands : (text : List ℕ) (p : ℕ) (qs : List Piece) (r : Result (List Piece × ℕ) Wrong)
    → Lands behind_pieces text p r → Lands behind_pieces text p (with_front qs r)
front_lands text p qs r h = grind (arith, nat_tests)

lands_further : {Y : Type 0} (end : Y → ℕ) (text : List ℕ) (o p : ℕ) (r : Result Y Wrong) → o ≤ p
    → Lands end text p r → Lands end text o r
lands_further end text o p r l h = grind (arith, nat_tests)

followed_lands : (more : ℕ → Result (List Piece × ℕ) Wrong) (text : List ℕ) (p : ℕ) (s : QuotedSpot)
    → ((q : ℕ) → Lands behind_pieces text (q + 1) (more q)) → Fits text p s
    → Lands behind_pieces text (p + 1) (followed more p s)
followed_lands more text p s rest f = grind (arith, nat_tests, front_lands, lands_further)

pieces_land : (n quote : ℕ) (text : List ℕ) (p : ℕ)
    → Lands behind_pieces text (p + 1) (pieces n quote text p)
unfolding pieces
pieces_land zero quote text p = tt
pieces_land (suc n) quote text p = followed_lands (pieces n quote text) text p (standing_at quote text p) (pieces_land n quote text) (standing_fits quote text p)

valued_lands : (text : List ℕ) (p : ℕ) (f : List Piece → List ℕ) (r : Result (List Piece × ℕ) Wrong)
    → Lands behind_pieces text p r → Lands behind_bytes text p (valued f r)
valued_lands text p f r h = grind (arith, nat_tests)

-- a quoted scalar ends after both quotes, inside the text
pub quoted_place : (quote : ℕ) (text : List ℕ) (p : ℕ)
    → Lands behind_bytes text (p + 1) (quoted_at quote text p)
quoted_place quote text p = grind (arith, nat_tests, lands_further, valued_lands, pieces_land)
