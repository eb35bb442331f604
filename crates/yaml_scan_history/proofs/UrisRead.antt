-- URIs that are written.
use Rattle.std.proofs.Common.{◌≡◌, ℕ, suc, ◌+◌, ◌/◌, ◌%◌, ◌<◌, ◌==◌, ◌||◌, Bool, false, List, [], ◌∷◌, length, Some, Ok, refl, ap, ◌∙◌, arith, rules}
use Rattle.yaml_scan_history.proofs.Words.{or_parts, nat_tests, Context, byte, is_uri, hex_digit, octet_at, Spells, Ends, spot_at, with_bytes, uri_at, UriPiece, raw, escape, capital, uri_text, uri_bytes, IsUri, due_behind}
use Rattle.yaml_scan_history.proofs.UrisLemmas.{spot_kept, spot_ends, uri_due, uri_here}
use Rattle.yaml_scan_history.proofs.HasLemmas.{Has}

capital_digit : (d : ℕ) → d < 16 → hex_digit (capital d) ≡ Some d
unfolding hex_digit capital
capital_digit d h = grind (arith, nat_tests)

octet_read : (text : List ℕ) (p b : ℕ) → byte text (p + 1) ≡ capital (b / 16)
    → byte text (p + 2) ≡ capital (b % 16) → b < 256 → octet_at text p ≡ Some b
unfolding octet_at
octet_read text p b e f h = search (rules, capital_digit)

escape_read : (wide : Bool) (due next : ℕ) (text : List ℕ) (p b : ℕ) → byte text p ≡ 37
    → octet_at text p ≡ Some b → due_behind b due ≡ Ok next
    → spot_at wide due text p ≡ Spells b next (p + 3)
unfolding spot_at
escape_read wide due next text p b e o d = rw (e, o, d) refl

pieces_read : (pieces : List UriPiece) (context : Context) (wide : Bool) (due : ℕ) (text : List ℕ)
    (p : ℕ) → Has text p (uri_text pieces) → IsUri wide due pieces
    → spot_at wide 0 text (p + length (uri_text pieces)) ≡ Ends (p + length (uri_text pieces))
    → uri_due context wide due text p ≡ Ok (uri_bytes pieces, p + length (uri_text pieces))
pieces_read [] context wide due text p h is stop =
    let z : p + 0 ≡ p = omega arith in
    let here : spot_at wide 0 text p ≡ Ends p = rw z at stop in
    rw (is, z) (rw here at (uri_here context wide 0 text p))
pieces_read (raw b ∷ pieces) context wide due text p (e, h) (none, kept, is) stop =
    let end : p + suc (length (uri_text pieces)) ≡ p + 1 + length (uri_text pieces) = omega arith in
    let spot : spot_at wide 0 text p ≡ Spells b 0 (p + 1) = rw e at (spot_kept wide text p (rw e kept)) in
    rw (none, end) (rw spot at (uri_here context wide 0 text p) ∙ ap (with_bytes (b ∷ [])) (pieces_read pieces context wide 0 text (p + 1) h is (rw end at stop)))
pieces_read (escape b ∷ pieces) context wide due text p (e, (f, (g, h))) (small, (next, due_is, is)) stop =
    let two : p + 1 + 1 ≡ p + 2 = omega arith in
    let three : p + 1 + 1 + 1 ≡ p + 3 = omega arith in
    let end : p + suc (suc (suc (length (uri_text pieces)))) ≡ p + 3 + length (uri_text pieces) = omega arith in
    let spot = escape_read wide due next text p b e (octet_read text p b f (rw two at g) small) due_is in
    rw end (rw spot at (uri_here context wide due text p) ∙ ap (with_bytes (b ∷ [])) (pieces_read pieces context wide next text (p + 3) (rw three at h) is (rw end at stop)))

-- A URI reads back as what its pieces spell.
pub uri_is_read : (context : Context) (wide : Bool) (text : List ℕ) (p : ℕ) (pieces : List UriPiece)
    → Has text p (uri_text pieces) → IsUri wide 0 pieces
    → (byte text (p + length (uri_text pieces)) == 37
    || is_uri wide text (p + length (uri_text pieces))) ≡ false
    → uri_at context wide text p ≡ Ok (uri_bytes pieces, p + length (uri_text pieces))
uri_is_read context wide text p pieces h is stop = search (rules, or_parts, pieces_read, spot_ends)
