-- Plain scalars, and the white after them, end after their start, inside the text.
use Rattle.std.proofs.Common.{ℕ, zero, suc, ◌+◌, ◌<◌, ◌≤◌, ◌==◌, ◌&&◌, ◌||◌, nat_lt, Bool, List, [], ◌∷◌, length, Result, Ok, Err, inl, inr, arith}
use Rattle.yaml_scan_laws.proofs.Words.{nat_tests, cases_Bool, ltb-true, byte, break_width, column_at, is_blank, Wrong, within, past_break, Piece, Kept, is_bracket, leads, PlainSpot, Takes, Faulty, ends_at, spot_at, Words, with_piece, words_from, follows, words, PlainText, plain_with, plain_text, plain_at}
use Rattle.yaml_scan_history.specs.Plain.{Ends}
use Rattle.yaml_scan_history.proofs.PlainLemmas.{not_ended, blank_inside}

abbrev Fits : List ℕ → ℕ → PlainSpot → Type 0
Fits text p Ends = Unit {0}
Fits text p (Takes x q) = (p < q) × (q ≤ length text)
Fits text p (Faulty w) = Unit {0}

spot_fits : (flow : Bool) (level : ℕ) (text : List ℕ) (p : ℕ)
    → Fits text p (spot_at flow level text p)
unfolding spot_at
spot_fits flow level text p =
    elim (cases_Bool (nat_lt 0 (break_width text p))) [
      | inl h ↦
          let some = ltb-true _ _ h in
          rw h (omega (arith, some), (past_break text p some).inside)
      | inr h ↦ elim (cases_Bool (is_blank (byte text p))) [
        | inl i ↦
            elim (cases_Bool (byte text p == 9 && (leads text p && nat_lt (column_at text p) level))) [
              | inl j ↦ rw (h, i, j) tt
              | inr j ↦ rw (h, i, j) (omega arith, omega (arith, blank_inside text p i))
            ]
        | inr i ↦ elim (cases_Bool (ends_at flow level text p)) [
          | inl j ↦ rw (h, i, j) tt
          | inr j ↦
              let here = within text p (not_ended flow level text p j) in
              elim (cases_Bool (flow && (byte text p == 58 && (is_bracket (byte text (p + 1)) || byte text (p + 1) == 63)))) [
                | inl k ↦ rw (h, i, j, k) tt
                | inr k ↦ rw (h, i, j, k) (omega arith, omega (arith, here))
              ]
        ]
      ]
    ]

-- words end at a place or after it, and stop there or after, inside the text
record AreWords (text : List ℕ) (p : ℕ) (w : Words) : Type 0 where
  pub end : p ≤ w.end
  pub place : w.end ≤ w.place
  pub inside : w.place ≤ length text

piece_words : (text : List ℕ) (q : ℕ) (x : Piece) (w : Words) → AreWords text q w
    → AreWords text q (with_piece x q w)
piece_words text q x w h = grind arith

abbrev Land : List ℕ → ℕ → Result Words Wrong → Type 0
Land text p (Ok w) = AreWords text p w
Land text p (Err e) = Unit {0}

from_lands : (text : List ℕ) (p : ℕ) (x : Piece) (q : ℕ) (r : Result Words Wrong) → p ≤ q
    → Land text q r → Land text p (words_from x q r)
from_lands text p x q r l h = grind (arith, nat_tests, piece_words)

follows_lands : (more : ℕ → Result Words Wrong) (text : List ℕ) (p : ℕ) (s : PlainSpot)
    → p ≤ length text → ((q : ℕ) → q ≤ length text → Land text q (more q)) → Fits text p s
    → Land text p (follows more p s)
follows_lands more text p s l rest f = grind (arith, nat_tests, from_lands)

words_land : (n : ℕ) (flow : Bool) (level : ℕ) (text : List ℕ) (p : ℕ) → p ≤ length text
    → Land text p (words n flow level text p)
unfolding words
words_land zero flow level text p l = tt
words_land (suc n) flow level text p l = follows_lands (words n flow level text) text p (spot_at flow level text p) l (words_land n flow level text) (spot_fits flow level text p)

-- a plain scalar that ends there or after, inside the text
pub record IsPlainFrom (text : List ℕ) (p : ℕ) (x : PlainText) : Type 0 where
  pub end : p ≤ x.end
  pub place : x.end ≤ x.place
  pub inside : x.place ≤ length text

abbrev pub LandsPlain : List ℕ → ℕ → Result PlainText Wrong → Type 0
LandsPlain text p (Ok x) = IsPlainFrom text p x
LandsPlain text p (Err w) = Unit {0}

with_lands : (text : List ℕ) (p : ℕ) (r : Result Words Wrong) → Land text p r
    → LandsPlain text p (plain_with plain_text r)
with_lands text p r h = grind (arith, nat_tests)

-- a plain scalar ends after its first byte
pub plain_place : (flow : Bool) (level : ℕ) (text : List ℕ) (p : ℕ) → p < length text
    → LandsPlain text (p + 1) (plain_at flow level text p)
plain_place flow level text p l =
    let rest = words (length text) flow level text (p + 1) in
    with_lands text (p + 1) (words_from (Kept (byte text p ∷ [])) (p + 1) rest)
    (from_lands text (p + 1) (Kept (byte text p ∷ [])) (p + 1) rest (omega arith) (words_land (length text) flow level text (p + 1) (omega arith)))
