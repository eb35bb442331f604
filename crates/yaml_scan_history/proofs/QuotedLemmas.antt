-- Quoted scalars, a step at a time.
use Rattle.std.proofs.Common.{◌≡◌, ◌≢◌, ℕ, zero, suc, ◌+◌, ◌-◌, ◌<◌, ◌≤◌, true, false, List, [], ◌∷◌, ◌++◌, length, Result, refl, ap, ◌==◌, ◌&&◌, arith, rules}
use Rattle.yaml_scan_history.proofs.ScalarWords.{cond_both, eqb-false, ltb-true, ne_eqb, byte, break_width, is_blank, is_document_indicator, Wrong, within, Piece, Kept, Blank, value, QuotedSpot, Closing, Pieces, Bad, with_front, followed, pieces, valued, quoted_at, quote_at, standing_at, escape_at, eq-eqb}

-- ---- what goes on moves

abbrev pub Moved : List ℕ → ℕ → QuotedSpot → Type 0
Moved text p Closing = Unit {0}
Moved text p (Pieces ps q) = (p < q) × (p < length text)
Moved text p (Bad w) = Unit {0}

escape_moves : (text : List ℕ) (p : ℕ) → p < length text → Moved text p (escape_at text p)
unfolding escape_at
escape_moves text p g = search (rules, cond_both)

pub standing_moves : (quote : ℕ) (text : List ℕ) (p : ℕ) → Moved text p (standing_at quote text p)
unfolding standing_at quote_at
standing_moves quote text p = search (rules, cond_both, eqb-false, escape_moves, ltb-true, within)

-- ---- as many steps as reach the end

followed_same : (f g : ℕ → Result (List Piece × ℕ) Wrong) (p : ℕ) (s : QuotedSpot)
    → ((ps : List Piece) (q : ℕ) → s ≡ Pieces ps q → f q ≡ g q) → followed f p s ≡ followed g p s
followed_same f g p s h = grind arith

pieces_more : (n quote : ℕ) (text : List ℕ) (p : ℕ) → length text ≤ p + n
    → pieces (suc n) quote text p ≡ pieces (suc (suc n)) quote text p
unfolding pieces
pieces_more zero quote text p room = search (rules, followed_same, standing_moves)
pieces_more (suc n) quote text p room =
    followed_same (pieces (suc n) quote text) (pieces (suc (suc n)) quote text) p (standing_at quote text p)
    (λ ps q e. let (far, inside) = rw e at (standing_moves quote text p) in pieces_more n quote text q (omega arith))

-- the pieces up to the closing quote
abbrev pub pieces_on : ℕ → List ℕ → ℕ → Result (List Piece × ℕ) Wrong
pieces_on quote text p = pieces (suc (length text)) quote text p

-- The pieces from a place on are what is there, and those after it.
pub pieces_here : (quote : ℕ) (text : List ℕ) (p : ℕ)
    → pieces_on quote text p ≡ followed (pieces_on quote text) p (standing_at quote text p)
unfolding pieces
pieces_here quote text p = pieces_more (length text) quote text p (omega arith)

-- A quoted scalar is the value of the pieces after its first quote.
pub quoted_whole : (quote : ℕ) (text : List ℕ) (p : ℕ) → p < length text
    → quoted_at quote text p ≡ valued value (pieces_on quote text (p + 1))
quoted_whole quote text p h =
    let n : suc (length text - 1) ≡ length text = omega arith in
    ap (λ r. valued value r) (rw n at (pieces_more (length text - 1) quote text (p + 1) (omega arith)))

-- ---- turns

-- Pieces before a reading change its value as they change every value.
pub front : (old new : List Piece → List ℕ) (qs : List Piece) (r : Result (List Piece × ℕ) Wrong)
    → ((ps : List Piece) → new ps ≡ old (qs ++ ps)) → valued old (with_front qs r) ≡ valued new r
front old new qs r h = grind arith

-- ---- quotes are no breaks

-- ---- what is inside the quotes

pub standing_quote : (quote : ℕ) (text : List ℕ) (p : ℕ) → is_document_indicator text p ≡ false
    → byte text p ≢ 0 → byte text p ≡ quote → standing_at quote text p ≡ quote_at quote text p
unfolding standing_at
standing_quote quote text p h z e = rw (h, ne_eqb (byte text p) 0 z, eq-eqb (byte text p) quote e) refl

pub standing_blank : (quote : ℕ) (text : List ℕ) (p : ℕ) → is_document_indicator text p ≡ false
    → byte text p ≢ 0 → byte text p ≢ quote → break_width text p ≡ 0 → is_blank (byte text p) ≡ true
    → standing_at quote text p ≡ Pieces (Blank (byte text p) ∷ []) (p + 1)
unfolding standing_at
standing_blank quote text p h z e w k = rw (h, ne_eqb (byte text p) 0 z, ne_eqb (byte text p) quote e, w, k) refl

pub standing_kept : (quote : ℕ) (text : List ℕ) (p : ℕ) → is_document_indicator text p ≡ false
    → byte text p ≢ 0 → byte text p ≢ quote → break_width text p ≡ 0
    → is_blank (byte text p) ≡ false
    → (quote == 34 && byte text p == 92) ≡ false
    → standing_at quote text p ≡ Pieces (Kept (byte text p ∷ []) ∷ []) (p + 1)
unfolding standing_at
standing_kept quote text p h z e w k x = rw (h, ne_eqb (byte text p) 0 z, ne_eqb (byte text p) quote e, w, k, x) refl
