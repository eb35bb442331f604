-- The values of scalars are one and a half times as long at most as what a scanner reads of them.
use Rattle.std.proofs.Common.{◌&&◌, not, ℕ, zero, suc, ◌+◌, ◌-◌, ◌*◌, ◌<◌, ◌≤◌, Bool, true, false, ◌||◌, ◌==◌, nat_lt, if◌then◌else◌, List, [], ◌∷◌, length, Option, Some, None, Result, Ok, Err, arith, inl, inr, le_refl}
use Rattle.yaml_round_laws.proofs.SizesWords.{is_document_indicator, is_bracket, leads, ends_at, is_blank, is_scalar, cases_Bool, ltb-true, byte, break_width, column_at, feed_at, Wrong, Piece, Kept, Blank, Break, value, QuotedSpot, Closing, Pieces, Bad, hex_value, coded, hex_len, simple_escape, escaped, escape_at, quote_at, standing_at, with_front, followed, pieces, valued_pieces, quoted_at, PlainSpot, PlainEnds, Takes, PlainFaulty, plain_spot_at, PlainWords, is_nothing, with_piece, words_from, follows, words, PlainText, plain_with, plain_text, plain_at, BlockLine, block_value, indicators, chomp_of, digit_of, digit_place, chomping_place, past_comment, header_end, header_at, BlockText, column_of, block_with, block_lines, block_at}
use Rattle.yaml_scan_history.specs.scan_model.Runs.{is_blank_there, is_text, past_blanks, line_end}
use Rattle.yaml_scan_history.proofs.RunsLemmas.{past-le}
use Rattle.yaml_scan_history.specs.Lines.{spaces, LineSpot, Stops, Line, Tab, spot_behind, line_spot, Lines, with_line, line_then, lines_from}
use Rattle.yaml_round_laws.proofs.Pieces.{piece_size, pieces_size, pieces_append, value_size, break_size, line_size, block_size, block_value_size, slice_size}
use Rattle.yaml_round_laws.proofs.Decoded.{char_size}

-- ---- between quotes

abbrev Spent : ℕ → QuotedSpot → Type 0
Spent p Closing = Unit {0}
Spent p (Pieces qs q) = 2 * pieces_size qs + 3 * p ≤ 3 * q
Spent p (Bad w) = Unit {0}

coded_spent : (p at q : ℕ) (o : Option ℕ) → p + 4 ≤ q → Spent p (coded at q o)
coded_spent p at q None w = tt
coded_spent p at q (Some c) w =
    elim (cases_Bool (is_scalar c)) [
      | inl e ↦ rw e (omega (arith, w, char_size c))
      | inr e ↦ rw e tt
    ]

abbrev bytes_size : Option (List ℕ) → ℕ
bytes_size None = 0
bytes_size (Some bs) = length bs

short_if : (b : Bool) (x y : Option (List ℕ)) → bytes_size x ≤ 3 → bytes_size y ≤ 3
    → bytes_size (if b then x else y) ≤ 3
short_if true x y f g = f
short_if false x y f g = g

simple_size : (b : ℕ) → bytes_size (simple_escape b) ≤ 3
unfolding simple_escape
simple_size b =
    short_if (b == 0x30) _ _ (omega arith)
    (short_if (b == 0x61) _ _ (omega arith)
    (short_if (b == 0x62) _ _ (omega arith)
    (short_if (b == 0x74 || b == 9) _ _ (omega arith)
    (short_if (b == 0x6E) _ _ (omega arith)
    (short_if (b == 0x76) _ _ (omega arith)
    (short_if (b == 0x66) _ _ (omega arith)
    (short_if (b == 0x72) _ _ (omega arith)
    (short_if (b == 0x65) _ _ (omega arith)
    (short_if (b == 0x20 || (b == 0x22 || (b == 0x2F || b == 0x5C))) _ _ (omega arith)
    (short_if (b == 0x4E) _ _ (omega arith)
    (short_if (b == 0x5F) _ _ (omega arith)
    (short_if (b == 0x4C) _ _ (omega arith)
    (short_if (b == 0x50) _ _ (omega arith) (omega arith))))))))))))))

escaped_spent : (p : ℕ) (o : Option (List ℕ)) → bytes_size o ≤ 3 → Spent p (escaped p o)
escaped_spent p None w = tt
escaped_spent p (Some bs) w = omega (arith, w)

two_digits : (b : ℕ) → 0 < hex_len b → 2 ≤ hex_len b
unfolding hex_len
two_digits b some =
    elim (cases_Bool (b == 0x78)) [
      | inl e ↦ rw e (omega arith)
      | inr e ↦ elim (cases_Bool (b == 0x75)) [
        | inl f ↦ rw (e, f) (omega arith)
        | inr f ↦ elim (cases_Bool (b == 0x55)) [
          | inl g ↦ rw (e, f, g) (omega arith)
          | inr g ↦ let bad : 0 < 0 = rw (e, f, g) at some in absurd (omega arith)
        ]
      ]
    ]

escape_spent : (text : List ℕ) (p : ℕ) → Spent p (escape_at text p)
unfolding escape_at
escape_spent text p =
    elim (cases_Bool (nat_lt 0 (break_width text (p + 1)))) [
      | inl h ↦ rw h (omega arith)
      | inr h ↦ elim (cases_Bool (nat_lt 0 (hex_len (byte text (p + 1))))) [
        | inl i ↦
            let n = hex_len (byte text (p + 1)) in
            let two = two_digits (byte text (p + 1)) (ltb-true 0 n i) in
            rw (h, i) (coded_spent p (p + 2) (p + 2 + n) (hex_value text (p + 2) n) (omega (arith, two)))
        | inr i ↦ rw (h, i) (escaped_spent p (simple_escape (byte text (p + 1))) (simple_size (byte text (p + 1))))
      ]
    ]

quote_spent : (quote : ℕ) (text : List ℕ) (p : ℕ) → Spent p (quote_at quote text p)
unfolding quote_at
quote_spent quote text p =
    elim (cases_Bool (quote == 39 && byte text (p + 1) == 39)) [
      | inl h ↦ rw h (omega arith)
      | inr h ↦ rw h tt
    ]

standing_spent : (quote : ℕ) (text : List ℕ) (p : ℕ) → Spent p (standing_at quote text p)
unfolding standing_at
standing_spent quote text p =
    elim (cases_Bool (is_document_indicator text p)) [
      | inl h ↦ rw h tt
      | inr h ↦ elim (cases_Bool (byte text p == 0)) [
        | inl i ↦ rw (h, i) tt
        | inr i ↦ elim (cases_Bool (byte text p == quote)) [
          | inl j ↦ rw (h, i, j) (quote_spent quote text p)
          | inr j ↦ elim (cases_Bool (nat_lt 0 (break_width text p))) [
            | inl k ↦ rw (h, i, j, k) (omega (arith, break_size text p (ltb-true 0 (break_width text p) k)))
            | inr k ↦ elim (cases_Bool (is_blank (byte text p))) [
              | inl l ↦ rw (h, i, j, k, l) (omega arith)
              | inr l ↦ elim (cases_Bool (quote == 34 && byte text p == 92)) [
                | inl m ↦ rw (h, i, j, k, l, m) (escape_spent text p)
                | inr m ↦ rw (h, i, j, k, l, m) (omega arith)
              ]
            ]
          ]
        ]
      ]
    ]

abbrev PiecesSpent : ℕ → Result (List Piece × ℕ) Wrong → Type 0
PiecesSpent p (Ok x) = 2 * pieces_size x.0 + 3 * p ≤ 3 * x.1
PiecesSpent p (Err w) = Unit {0}

front_spent : (p q : ℕ) (qs : List Piece) (r : Result (List Piece × ℕ) Wrong)
    → 2 * pieces_size qs + 3 * p ≤ 3 * q → PiecesSpent q r → PiecesSpent p (with_front qs r)
front_spent p q qs (Ok x) a b = omega (arith, a, b, pieces_append qs x.0)
front_spent p q qs (Err w) a b = tt

followed_spent : (more : ℕ → Result (List Piece × ℕ) Wrong) (p : ℕ) (s : QuotedSpot)
    → ((q : ℕ) → PiecesSpent q (more q)) → Spent p s → PiecesSpent p (followed more p s)
followed_spent more p Closing rest f = omega arith
followed_spent more p (Pieces qs q) rest f = front_spent p q qs (more q) f (rest q)
followed_spent more p (Bad w) rest f = tt

pieces_spent : (n quote : ℕ) (text : List ℕ) (p : ℕ) → PiecesSpent p (pieces n quote text p)
unfolding pieces
pieces_spent zero quote text p = tt
pieces_spent (suc n) quote text p = followed_spent (pieces n quote text) p (standing_at quote text p) (pieces_spent n quote text) (standing_spent quote text p)

-- a value and the place after it
abbrev pub ValueSpent : ℕ → Result (List ℕ × ℕ) Wrong → Type 0
ValueSpent p (Ok x) = 2 * length x.0 + 3 * p ≤ 3 * x.1
ValueSpent p (Err w) = Unit {0}

valued_spent : (p q : ℕ) (r : Result (List Piece × ℕ) Wrong) → p ≤ q → PiecesSpent q r
    → ValueSpent p (valued_pieces value r)
valued_spent p q (Ok x) w f = omega (arith, w, f, value_size x.0)
valued_spent p q (Err e) w f = tt

pub quoted_spent : (quote : ℕ) (text : List ℕ) (p : ℕ) → ValueSpent p (quoted_at quote text p)
quoted_spent quote text p = valued_spent p (p + 1) (pieces (length text) quote text (p + 1)) (omega arith) (pieces_spent (length text) quote text (p + 1))

-- ---- plain

abbrev SpotSpent : ℕ → PlainSpot → Type 0
SpotSpent p PlainEnds = Unit {0}
SpotSpent p (Takes x q) = piece_size x + p ≤ q
SpotSpent p (PlainFaulty w) = Unit {0}

spot_spent : (flow : Bool) (level : ℕ) (text : List ℕ) (p : ℕ)
    → SpotSpent p (plain_spot_at flow level text p)
unfolding plain_spot_at
spot_spent flow level text p =
    elim (cases_Bool (nat_lt 0 (break_width text p))) [
      | inl h ↦ rw h (omega (arith, break_size text p (ltb-true 0 (break_width text p) h)))
      | inr h ↦ elim (cases_Bool (is_blank (byte text p))) [
        | inl i ↦ elim (cases_Bool (byte text p == 9 && (leads text p && nat_lt (column_at text p) level))) [
          | inl j ↦ rw (h, i, j) tt
          | inr j ↦ rw (h, i, j) (omega arith)
        ]
        | inr i ↦ elim (cases_Bool (ends_at flow level text p)) [
          | inl j ↦ rw (h, i, j) tt
          | inr j ↦ elim (cases_Bool (flow && (byte text p == 58 && (is_bracket (byte text (p + 1)) || byte text (p + 1) == 63)))) [
            | inl k ↦ rw (h, i, j, k) tt
            | inr k ↦ rw (h, i, j, k) (omega arith)
          ]
        ]
      ]
    ]

abbrev WordsSpent : ℕ → Result PlainWords Wrong → Type 0
WordsSpent p (Ok w) = pieces_size w.pieces + p ≤ w.place
WordsSpent p (Err e) = Unit {0}

piece_spent : (x : Piece) (p q r : ℕ) (w : PlainWords) → piece_size x + p ≤ q
    → pieces_size w.pieces + q ≤ w.place
    → pieces_size (with_piece x r w).pieces + p ≤ (with_piece x r w).place
piece_spent (Kept bytes) p q r w a b = omega (arith, a, b)
piece_spent (Blank c) p q r w a b =
    elim (cases_Bool (is_nothing w.pieces)) [
      | inl e ↦ rw e (omega (arith, a, b))
      | inr e ↦ rw e (omega (arith, a, b))
    ]
piece_spent (Break bytes) p q r w a b =
    elim (cases_Bool (is_nothing w.pieces)) [
      | inl e ↦ rw e (omega (arith, a, b))
      | inr e ↦ rw e (omega (arith, a, b))
    ]

from_spent : (x : Piece) (p q : ℕ) (r : Result PlainWords Wrong) → piece_size x + p ≤ q
    → WordsSpent q r → WordsSpent p (words_from x q r)
from_spent x p q (Ok w) a b = piece_spent x p q q w a b
from_spent x p q (Err e) a b = tt

follows_spent : (more : ℕ → Result PlainWords Wrong) (p : ℕ) (s : PlainSpot)
    → ((q : ℕ) → WordsSpent q (more q)) → SpotSpent p s → WordsSpent p (follows more p s)
follows_spent more p PlainEnds rest f = omega arith
follows_spent more p (Takes x q) rest f = from_spent x p q (more q) f (rest q)
follows_spent more p (PlainFaulty w) rest f = tt

words_spent : (n : ℕ) (flow : Bool) (level : ℕ) (text : List ℕ) (p : ℕ)
    → WordsSpent p (words n flow level text p)
unfolding words
words_spent zero flow level text p = tt
words_spent (suc n) flow level text p = follows_spent (words n flow level text) p (plain_spot_at flow level text p) (words_spent n flow level text) (spot_spent flow level text p)

abbrev pub PlainSpent : ℕ → Result PlainText Wrong → Type 0
PlainSpent p (Ok x) = length x.value + p ≤ x.place
PlainSpent p (Err e) = Unit {0}

plain_with_spent : (p : ℕ) (r : Result PlainWords Wrong) → WordsSpent p r
    → PlainSpent p (plain_with plain_text r)
plain_with_spent p (Ok w) f = omega (arith, f, value_size w.pieces)
plain_with_spent p (Err e) f = tt

pub plain_spent : (flow : Bool) (level : ℕ) (text : List ℕ) (p : ℕ)
    → PlainSpent p (plain_at flow level text p)
plain_spent flow level text p =
    let more = words (length text) flow level text (p + 1) in
    plain_with_spent p (words_from (Kept (byte text p ∷ [])) (p + 1) more) (from_spent (Kept (byte text p ∷ [])) p (p + 1) more (omega arith) (words_spent (length text) flow level text (p + 1)))

-- ---- block scalars

feed_size : (text : List ℕ) (p : ℕ) → length (feed_at text p) ≤ break_width text p
feed_size text p =
    elim (cases_Bool (nat_lt 0 (break_width text p))) [
      | inl e ↦ rw e (break_size text p (ltb-true 0 (break_width text p) e))
      | inr e ↦ rw e (omega arith)
    ]

abbrev LineSpent : ℕ → LineSpot → Type 0
LineSpent p (Stops q) = p ≤ q
LineSpent p (Line l q) = line_size l + p ≤ q
LineSpent p (Tab q) = Unit {0}

behind_spent : (c p : ℕ) (text : List ℕ) (q : ℕ) → p ≤ q → LineSpent p (spot_behind c text q)
unfolding spot_behind
behind_spent c p text q w =
    elim (cases_Bool (byte text q == 9 && nat_lt (column_at text q) c)) [
      | inl h ↦ rw h tt
      | inr h ↦ elim (cases_Bool (nat_lt 0 (break_width text q))) [
        | inl i ↦ rw (h, i) (omega (arith, w, break_size text q (ltb-true 0 (break_width text q) i)))
        | inr i ↦ elim (cases_Bool (byte text q == 0 || not (column_at text q == c))) [
          | inl j ↦ rw (h, i, j) w
          | inr j ↦
              let end = line_end text q in
              let f = past-le is_text (length text) text q in
              rw (h, i, j) (omega (arith, w, f, slice_size text q end, feed_size text end))
        ]
      ]
    ]

abbrev LinesSpent : ℕ → Result Lines Wrong → Type 0
LinesSpent p (Ok ls) = block_size ls.lines + p ≤ ls.place
LinesSpent p (Err w) = Unit {0}

line_spent : (p q : ℕ) (l : BlockLine) (r : Result Lines Wrong) → line_size l + p ≤ q
    → LinesSpent q r → LinesSpent p (with_line l r)
line_spent p q l (Ok ls) a b = omega (arith, a, b)
line_spent p q l (Err w) a b = tt

then_spent : (more : ℕ → Result Lines Wrong) (end p : ℕ) (s : LineSpot)
    → ((q : ℕ) → LinesSpent q (more q)) → LineSpent p s → LinesSpent p (line_then more end s)
then_spent more end p (Stops q) rest f = omega (arith, f)
then_spent more end p (Line l q) rest f = line_spent p q l (more q) f (rest q)
then_spent more end p (Tab q) rest f = tt

lines_spent : (n c : ℕ) (text : List ℕ) (end p : ℕ) → LinesSpent p (lines_from n c text end p)
unfolding lines_from
lines_spent zero c text end p = tt
lines_spent (suc n) c text end p =
    then_spent (λ q. lines_from n c text q q) end p (line_spot c text p) (λ q. lines_spent n c text q q) (behind_spent c p text (p + spaces (c - column_at text p) text p) (omega arith))

abbrev pub BlockSpent : ℕ → Result BlockText Wrong → Type 0
BlockSpent p (Ok x) = length x.value + p ≤ x.place
BlockSpent p (Err w) = Unit {0}

with_spent : (folded : Bool) (sign p q : ℕ) (r : Result Lines Wrong) → p ≤ q → LinesSpent q r
    → BlockSpent p (block_with (block_value folded (chomp_of sign)) r)
with_spent folded sign p q (Ok ls) w f = omega (arith, w, f, block_value_size folded sign ls.lines)
with_spent folded sign p q (Err e) w f = tt

column_spent : (folded : Bool) (sign p q digit : ℕ) (text : List ℕ) (r : Result ℕ Wrong) → p ≤ q
    → BlockSpent p (block_lines folded text
    (record { chomp = chomp_of sign; digit = digit; place = q }) r)
column_spent folded sign p q digit text (Ok c) w = with_spent folded sign p q (lines_from (suc (length text)) c text q q) w (lines_spent (suc (length text)) c text q q)
column_spent folded sign p q digit text (Err e) w = tt

comment_forward : (text : List ℕ) (p : ℕ) → p ≤ past_comment text p
unfolding past_comment
comment_forward text p =
    elim (cases_Bool (byte text p == 35)) [
      | inl e ↦ rw e (past-le is_text (length text) text p)
      | inr e ↦ rw e (le_refl _)
    ]

header_forward : (text : List ℕ) (p : ℕ) → p ≤ header_end text p
header_forward text p =
    let q = p + indicators (byte text p) (byte text (p + 1)) in
    let a = past-le is_blank_there (length text) text q in
    let b = comment_forward text (past_blanks text q) in
    omega (arith, a, b)

pub block_spent : (level : ℕ) (text : List ℕ) (p : ℕ) → BlockSpent p (block_at level text p)
unfolding header_at
block_spent level text p =
    let q = p + 1 in
    let a = header_forward text q in
    elim (cases_Bool (byte text (digit_place text q) == 48)) [
      | inl h ↦ rw h tt
      | inr h ↦ elim (cases_Bool (is_text text (header_end text q))) [
        | inl i ↦ rw (h, i) tt
        | inr i ↦
            let end = header_end text q + break_width text (header_end text q) in
            rw (h, i) (column_spent (byte text p == 62) (byte text (chomping_place text q)) p end (digit_of (byte text (digit_place text q))) text (column_of level text (digit_of (byte text (digit_place text q))) end) (omega (arith, a)))
      ]
    ]
