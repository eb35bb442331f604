-- White in plain scalars, and what it reads as.
use Rattle.std.proofs.Common.{◌≡◌, ℕ, ◌+◌, ◌≤◌, Bool, true, false, List, [], ◌∷◌, ◌++◌, Result, Ok, Err, refl, sym, ap, ◌∙◌, append_assoc, append-nil, arith}
use Rattle.yaml_scan_text.proofs.Words.{byte, break_width, is_blank, spot_blank, spot_break, Words, Wrong, with_piece, words_from, words_here, words_on, Piece, Kept, Blank, Break, Line, lines, rest_of, Rest, gap, value, is_nothing, blanks_of, value-break, feed_at, break_of, blank_parts, White, no_white, white_blank, white_break}

pub white_join : (level : ℕ) (text : List ℕ) (p q r : ℕ) (ps qs : List Piece)
    → White level text p q ps
    → White level text q r qs → White level text p r (ps ++ qs)
white_join level text p q r ps qs (no_white s) w = w
white_join level text p q r ps qs (white_blank s t rest b tab v) w = white_blank s r (rest ++ qs) b tab (white_join level text (s + 1) q r rest qs v w)
white_join level text p q r ps qs (white_break s t rest b v) w = white_break s r (rest ++ qs) b (white_join level text (s + break_width text s) q r rest qs v w)

pub white_le : (level : ℕ) (text : List ℕ) (p q : ℕ) (ps : List Piece) → White level text p q ps
    → p ≤ q
white_le level text p q ps (no_white s) = omega arith
white_le level text p q ps (white_blank s t rest b tab v) = let more = white_le level text (s + 1) q rest v in omega arith
white_le level text p q ps (white_break s t rest b v) = let more = white_le level text (s + break_width text s) q rest v in omega arith

-- ---- the words with white before them

abbrev pub with_white : List Piece → Words → Words
with_white [] w = w
with_white (x ∷ xs) w = with_piece x 0 (with_white xs w)

abbrev pub words_with : (Words → Words) → Result Words Wrong → Result Words Wrong
words_with f (Ok w) = Ok (f w)
words_with f (Err e) = Err e

words_none : (r : Result Words Wrong) → r ≡ words_with (λ w. w) r
words_none r = grind arith

words_blank : (b q : ℕ) (f : Words → Words) (r : Result Words Wrong)
    → words_from (Blank b) q (words_with f r) ≡ words_with (λ w. with_piece (Blank b) 0 (f w)) r
words_blank b q f r = grind arith

words_break : (b : List ℕ) (q : ℕ) (f : Words → Words) (r : Result Words Wrong)
    → words_from (Break b) q (words_with f r) ≡ words_with (λ w. with_piece (Break b) 0 (f w)) r
words_break b q f r = grind arith

pub white_words : (flow : Bool) (level : ℕ) (text : List ℕ) (p q : ℕ) (ps : List Piece)
    → White level text p q ps
    → words_on flow level text p ≡ words_with (with_white ps) (words_on flow level text q)
white_words flow level text p q ps (no_white s) = words_none (words_on flow level text s)
white_words flow level text p q ps (white_blank s t rest b tab v) =
    let here = rw (spot_blank flow level text s (blank_none (byte text s) _ _ b) b tab) at (words_here flow level text s) in
    here ∙ rw (white_words flow level text (s + 1) q rest v) (words_blank (byte text s) (s + 1) (with_white rest) (words_on flow level text q))
  where
    blank_none : (b c d : ℕ) → is_blank b ≡ true → break_of b c d ≡ 0
    blank_none b c d h = (blank_parts b c d h).1
white_words flow level text p q ps (white_break s t rest b v) =
    let here = rw (spot_break flow level text s b) at (words_here flow level text s) in
    here ∙ rw (white_words flow level text (s + break_width text s) q rest v) (words_break (feed_at text s) (s + break_width text s) (with_white rest) (words_on flow level text q))

white_there : (ps qs : List Piece) → is_nothing qs ≡ false → is_nothing (ps ++ qs) ≡ false
white_there [] qs h = h
white_there (p ∷ ps) qs h = refl

-- before words it is as its pieces
pub white_some : (level : ℕ) (text : List ℕ) (p q : ℕ) (ps : List Piece) → White level text p q ps
    → (w : Words)
    → is_nothing w.pieces ≡ false
    → with_white ps w ≡ record { pieces = ps ++ w.pieces; end = w.end; place = w.place; broke = w.broke }
white_some level text p q ps (no_white s) w h = refl
white_some level text p q ps (white_blank s t rest b tab v) w h = rw (white_some level text (s + 1) q rest v w h, white_there rest w.pieces h) refl
white_some level text p q ps (white_break s t rest b v) w h = rw (white_some level text (s + break_width text s) q rest v w h, white_there rest w.pieces h) refl

-- a break is among the pieces
abbrev pub has_break : List Piece → Bool
has_break [] = false
has_break (Kept bytes ∷ ps) = has_break ps
has_break (Blank b ∷ ps) = has_break ps
has_break (Break bytes ∷ ps) = true

-- before nothing it says alone whether a break is among it
pub white_nothing : (level : ℕ) (text : List ℕ) (p q : ℕ) (ps : List Piece)
    → White level text p q ps → (e place : ℕ)
    → with_white ps (record { pieces = []; end = e; place = place; broke = false })
    ≡ record { pieces = []; end = e; place = place; broke = has_break ps }
white_nothing level text p q ps (no_white s) e place = refl
white_nothing level text p q ps (white_blank s t rest b tab v) e place = rw (white_nothing level text (s + 1) q rest v e place) refl
white_nothing level text p q ps (white_break s t rest b v) e place = rw (white_nothing level text (s + break_width text s) q rest v e place) refl

-- ---- what it reads as

-- what the breaks among the pieces read as
abbrev pub breaks_of : List Piece → List ℕ
breaks_of [] = []
breaks_of (Kept bytes ∷ ps) = breaks_of ps
breaks_of (Blank b ∷ ps) = breaks_of ps
breaks_of (Break bytes ∷ ps) = bytes ++ breaks_of ps

-- what follows a break, where pieces follow
abbrev pub rest_after : List Piece → List ℕ
rest_after ps = (rest_of (lines ps).first (lines ps).others).breaks

abbrev pub text_after : List Piece → List ℕ
text_after ps = (rest_of (lines ps).first (lines ps).others).value

blank_first : (b : ℕ) (l : Line) (ls : List (List ℕ × Line))
    → rest_of (Blank b ∷ l) ls ≡ rest_of l ls
blank_first b l [] = refl
blank_first b l (next ∷ ls) = refl

pub white_rest : (level : ℕ) (text : List ℕ) (p q : ℕ) (ps : List Piece) → White level text p q ps
    → (ks : List Piece)
    → (rest_after (ps ++ ks) ≡ breaks_of ps ++ rest_after ks) × (text_after (ps ++ ks) ≡ text_after ks)
white_rest level text p q ps (no_white s) ks = (refl, refl)
white_rest level text p q ps (white_blank s t rest b tab v) ks =
    let more = white_rest level text (s + 1) q rest v ks in
    let e = blank_first (byte text s) (lines (rest ++ ks)).first (lines (rest ++ ks)).others in
    (ap (λ (r : Rest). r.breaks) e ∙ more.0, ap (λ (r : Rest). r.value) e ∙ more.1)
white_rest level text p q ps (white_break s t rest b v) ks =
    let more = white_rest level text (s + break_width text s) q rest v ks in
    (rw more.0 (sym (append_assoc (feed_at text s) (breaks_of rest) (rest_after ks))), more.1)

-- the white after a break, before a text or of nothing
pub fold_white : (level : ℕ) (text : List ℕ) (p q : ℕ) (bs first : List ℕ) (ps : List Piece)
    → White level text p q ps
    → (ks : List Piece) → rest_after ks ≡ [] → text_after ks ≡ value ks
    → value (blanks_of bs ++ (Break first ∷ ps ++ ks)) ≡ gap first (breaks_of ps) ++ value ks
fold_white level text p q bs first ps w ks last same =
    let rest = white_rest level text p q ps w ks in
    value-break bs first (ps ++ ks) ∙ rw (rest.0, rest.1, last, same, append-nil (breaks_of ps)) refl
