-- The bound on steps is never met.
use Rattle.std.proofs.Common.{◌≡◌, ℕ, zero, suc, ◌+◌, ◌≤◌, Bool, List, length, Result, refl, ap, ◌∙◌, arith}
use Rattle.yaml_scan_history.proofs.ScalarWords.{Wrong, Piece, value, QuotedSpot, Closing, Pieces, Bad, standing_at, with_front, followed, valued, PlainSpot, Ends, Takes, Faulty, spot_at, Words, words_from, follows, plain_with, plain_text, IsQuotedFrom, closes, goes_on, is_bad, QuotedIs, QuotedIsOne, IsPlainFrom, ends, takes, is_faulty, plain_behind, PlainIs, PlainIsOne}
use Rattle.yaml_scan_history.proofs.QuotedLemmas.{standing_moves, pieces_on, pieces_here, quoted_whole}
use Rattle.yaml_scan_history.proofs.PlainLemmas.{spot_moves, words_on, words_here, plain_whole}

-- ---- quotes

quoted_by : (d : ℕ) (quote : ℕ) (text : List ℕ) (p : ℕ) (s : QuotedSpot)
    → standing_at quote text p ≡ s → length text ≤ p + d
    → IsQuotedFrom quote text p (followed (pieces_on quote text) p s)
quoted_by d quote text p Closing e room = closes p e
quoted_by d quote text p (Bad w) e room = is_bad p w e
quoted_by zero quote text p (Pieces ps q) e room = let (far, inside) = rw e at (standing_moves quote text p) in absurd (omega arith)
quoted_by (suc d) quote text p (Pieces ps q) e room =
    let (far, inside) = rw e at (standing_moves quote text p) in
    goes_on p q ps (pieces_on quote text q) e (rw (pieces_here quote text q) (quoted_by d quote text q (standing_at quote text q) refl (omega arith)))

one_quoted : (quote : ℕ) (text : List ℕ) (p : ℕ) (r : Result (List Piece × ℕ) Wrong)
    → IsQuotedFrom quote text p r → pieces_on quote text p ≡ r
one_quoted quote text p r (closes x e) = rw e at (pieces_here quote text x)
one_quoted quote text p r (is_bad x w e) = rw e at (pieces_here quote text x)
one_quoted quote text p r (goes_on x q ps rest e h) = rw e at (pieces_here quote text x) ∙ ap (λ (z : Result (List Piece × ℕ) Wrong). with_front ps z) (one_quoted quote text q rest h)

pub quoted_is : QuotedIs
quoted_is quote text p h =
    let is : IsQuotedFrom quote text (p + 1) (pieces_on quote text (p + 1)) = rw (pieces_here quote text (p + 1)) (quoted_by (length text) quote text (p + 1) (standing_at quote text (p + 1)) refl (omega arith)) in
    (pieces_on quote text (p + 1), is, quoted_whole quote text p h)

pub quoted_is_one : QuotedIsOne
quoted_is_one quote text p h r is = quoted_whole quote text p h ∙ ap (λ (z : Result (List Piece × ℕ) Wrong). valued value z) (one_quoted quote text (p + 1) r is)

-- ---- plain scalars

plain_by : (d : ℕ) (flow : Bool) (level : ℕ) (text : List ℕ) (p : ℕ) (s : PlainSpot)
    → spot_at flow level text p ≡ s → length text ≤ p + d
    → IsPlainFrom flow level text p (follows (words_on flow level text) p s)
plain_by d flow level text p Ends e room = ends p e
plain_by d flow level text p (Faulty w) e room = is_faulty p w e
plain_by zero flow level text p (Takes x q) e room = let (far, inside) = rw e at (spot_moves flow level text p) in absurd (omega arith)
plain_by (suc d) flow level text p (Takes x q) e room =
    let (far, inside) = rw e at (spot_moves flow level text p) in
    takes p q x (words_on flow level text q) e (rw (words_here flow level text q) (plain_by d flow level text q (spot_at flow level text q) refl (omega arith)))

one_plain : (flow : Bool) (level : ℕ) (text : List ℕ) (p : ℕ) (r : Result Words Wrong)
    → IsPlainFrom flow level text p r → words_on flow level text p ≡ r
one_plain flow level text p r (ends x e) = rw e at (words_here flow level text x)
one_plain flow level text p r (is_faulty x w e) = rw e at (words_here flow level text x)
one_plain flow level text p r (takes x q y rest e h) = rw e at (words_here flow level text x) ∙ ap (λ (z : Result Words Wrong). words_from y q z) (one_plain flow level text q rest h)

pub plain_is : PlainIs
plain_is flow level text p h =
    let is : IsPlainFrom flow level text (p + 1) (words_on flow level text (p + 1)) = rw (words_here flow level text (p + 1)) (plain_by (length text) flow level text (p + 1) (spot_at flow level text (p + 1)) refl (omega arith)) in
    (words_on flow level text (p + 1), is, plain_whole flow level text p h)

pub plain_is_one : PlainIsOne
plain_is_one flow level text p h r is = plain_whole flow level text p h ∙ ap (λ (z : Result Words Wrong). plain_with plain_text (plain_behind text p z)) (one_plain flow level text (p + 1) r is)
