-- The value of a plain scalar is UTF-8, and the text may be cut after it.
use Rattle.std.proofs.Common.{◌≡◌, ℕ, zero, suc, ◌+◌, ◌<◌, ◌==◌, ◌&&◌, ◌||◌, nat_lt, if◌then◌else◌, Bool, true, false, List, [], ◌∷◌, ◌++◌, length, drop, Result, Ok, Err, true≢false, inl, inr, arith, IsUtf8}
use Rattle.yaml_scan_laws.proofs.TextWords.{cases_Bool, ltb-true, and_parts, or_cases, nat_tests, byte, break_width, column_at, is_blank, is_blank_or_end, is_document_indicator, Wrong, within, Piece, Kept, Blank, Break, is_bracket, after_white, leads, PlainSpot, Takes, Faulty, ends_at, spot_at, Words, is_nothing, with_piece, words_from, follows, words, PlainText, plain_with, plain_text, plain_at}
use Rattle.yaml_scan_history.specs.Plain.{Ends}
use Rattle.yaml_scan_history.proofs.PlainLemmas.{not_ended}
use Rattle.yaml_scan_laws.proofs.Whole.{IsWhole, whole_ascii, whole_after, whole_before, whole_behind, leads_whole, blank_small, cut, break_utf8, indicator_small, Goes, value_utf8}
use Rattle.yaml_scan_laws.proofs.Quoted.{Waits, kept_waits}

last_whole : (flow : Bool) (level : ℕ) (text : List ℕ) (p : ℕ) → IsUtf8 text
    → (if flow then is_bracket (byte text p) else leads text p && nat_lt (column_at text p) level)
    ≡ true → IsWhole text p
last_whole true level text p t h = whole_ascii text p t (unfold is_bracket in grind (arith, nat_tests))
last_whole false level text p t h = leads_whole text p t (and_parts (leads text p) (nat_lt (column_at text p) level) h).0

-- where a plain scalar ends
ends_whole : (flow : Bool) (level : ℕ) (text : List ℕ) (p : ℕ) → IsUtf8 text
    → ends_at flow level text p ≡ true → IsWhole text p
unfolding ends_at
ends_whole flow level text p t h =
    elim (or_cases (byte text p == 0 || is_document_indicator text p) _ h) [
      | inl a ↦ elim (or_cases (byte text p == 0) (is_document_indicator text p) a) [
        | inl z ↦ whole_ascii text p t (grind (arith, nat_tests))
        | inr i ↦ whole_ascii text p t (indicator_small text p i)
      ]
      | inr a ↦ elim (or_cases (byte text p == 35 && after_white text p) _ a) [
        | inl b ↦ whole_ascii text p t (grind (arith, nat_tests))
        | inr b ↦ elim (or_cases (byte text p == 58 && is_blank_or_end text (p + 1)) _ b) [
          | inl c ↦ whole_ascii text p t (grind (arith, nat_tests))
          | inr c ↦ last_whole flow level text p t c
        ]
      ]
    ]

-- a piece goes with what waits, whatever follows it
abbrev GoesBefore : List ℕ → Piece → List ℕ → ℕ → Type 0
GoesBefore u (Kept bytes) text q = Waits (u ++ bytes) text q
GoesBefore u (Blank b) text q = IsUtf8 u × (b < 128) × IsWhole text q
GoesBefore u (Break bytes) text q = IsUtf8 u × IsUtf8 bytes × IsWhole text q

abbrev Fits : List ℕ → List ℕ → ℕ → PlainSpot → Type 0
Fits u text p Ends = IsUtf8 u × IsWhole text p
Fits u text p (Takes x q) = GoesBefore u x text q
Fits u text p (Faulty w) = Unit {0}

spot_fits : (u text : List ℕ) (flow : Bool) (level p : ℕ) → IsUtf8 text → Waits u text p
    → Fits u text p (spot_at flow level text p)
unfolding spot_at
spot_fits u text flow level p t w =
    elim (cases_Bool (nat_lt 0 (break_width text p))) [
      | inl h ↦
          let some = ltb-true _ _ h in
          rw h (cut u (drop p text) w (whole_before text p t some), break_utf8 text p t, whole_behind text p t some)
      | inr h ↦ elim (cases_Bool (is_blank (byte text p))) [
        | inl i ↦
            let s = blank_small (byte text p) i in
            elim (cases_Bool (byte text p == 9 && (leads text p && nat_lt (column_at text p) level))) [
              | inl j ↦ rw (h, i, j) tt
              | inr j ↦ rw (h, i, j) (cut u (drop p text) w (whole_ascii text p t s), s, whole_after text p t s)
            ]
        | inr i ↦ elim (cases_Bool (ends_at flow level text p)) [
          | inl j ↦ let there = ends_whole flow level text p t j in rw (h, i, j) (cut u (drop p text) w there, there)
          | inr j ↦
              let here = within text p (not_ended flow level text p j) in
              elim (cases_Bool (flow && (byte text p == 58 && (is_bracket (byte text (p + 1)) || byte text (p + 1) == 63)))) [
                | inl k ↦ rw (h, i, j, k) tt
                | inr k ↦ rw (h, i, j, k) (kept_waits u text p here w)
              ]
        ]
      ]
    ]

-- words go with what waits, and stop where the text may be cut
record AreWords (u text : List ℕ) (w : Words) : Type 0 where
  pub goes : Goes u w.pieces
  pub place : IsWhole text w.place

nothing_is : (ps : List Piece) → is_nothing ps ≡ true → ps ≡ []
nothing_is ps h = grind (arith, nat_tests, true≢false)

piece_goes : (u text : List ℕ) (q : ℕ) (x : Piece) (w : Words) → GoesBefore u x text q
    → ((v : List ℕ) → Waits v text q → AreWords v text w) → AreWords u text (with_piece x q w)
piece_goes u text q (Kept bytes) w f rest =
    let more = rest (u ++ bytes) f in
    record { goes = more.goes; place = more.place }
piece_goes u text q (Blank b) w (a, s, f) rest =
    let more = rest [] f in
    elim (cases_Bool (is_nothing w.pieces)) [
      | inl e ↦ rw e record { goes = rw (nothing_is w.pieces e) a; place = more.place }
      | inr e ↦ rw e record { goes = (a, s, more.goes); place = more.place }
    ]
piece_goes u text q (Break b) w (a, s, f) rest =
    let more = rest [] f in
    elim (cases_Bool (is_nothing w.pieces)) [
      | inl e ↦ rw e record { goes = a; place = more.place }
      | inr e ↦ rw e record { goes = (a, s, more.goes); place = more.place }
    ]

abbrev Good : List ℕ → List ℕ → Result Words Wrong → Type 0
Good u text (Ok w) = AreWords u text w
Good u text (Err e) = Unit {0}

from_good : (u text : List ℕ) (x : Piece) (q : ℕ) (r : Result Words Wrong) → GoesBefore u x text q
    → ((v : List ℕ) → Waits v text q → Good v text r) → Good u text (words_from x q r)
from_good u text x q (Ok w) f rest = piece_goes u text q x w f rest
from_good u text x q (Err e) f rest = tt

follows_good : (more : ℕ → Result Words Wrong) (u text : List ℕ) (p : ℕ) (s : PlainSpot)
    → ((q : ℕ) (v : List ℕ) → Waits v text q → Good v text (more q)) → Fits u text p s
    → Good u text (follows more p s)
follows_good more u text p Ends rest (a, b) = record { goes = a; place = b }
follows_good more u text p (Takes x q) rest f = from_good u text x q (more q) f (rest q)
follows_good more u text p (Faulty w) rest f = tt

words_good : (n : ℕ) (flow : Bool) (level : ℕ) (text : List ℕ) → IsUtf8 text → (p : ℕ) (u : List ℕ)
    → Waits u text p → Good u text (words n flow level text p)
unfolding words
words_good zero flow level text t p u w = tt
words_good (suc n) flow level text t p u w =
    follows_good (words n flow level text) u text p (spot_at flow level text p) (words_good n flow level text t) (spot_fits u text flow level p t w)

pub record IsPlain (text : List ℕ) (x : PlainText) : Type 0 where
  pub value : IsUtf8 x.value
  pub place : IsWhole text x.place

abbrev pub HasPlain : List ℕ → Result PlainText Wrong → Type 0
HasPlain text (Ok x) = IsPlain text x
HasPlain text (Err w) = Unit {0}

with_good : (text : List ℕ) (r : Result Words Wrong) → Good [] text r
    → HasPlain text (plain_with plain_text r)
with_good text r h = grind (arith, nat_tests, value_utf8)

-- a plain scalar that starts inside the text, where it may be cut
pub plain_utf8 : (flow : Bool) (level : ℕ) (text : List ℕ) (p : ℕ) → IsUtf8 text → IsWhole text p
    → p < length text → HasPlain text (plain_at flow level text p)
plain_utf8 flow level text p t w l =
    let rest = words (length text) flow level text (p + 1) in
    with_good text (words_from (Kept (byte text p ∷ [])) (p + 1) rest)
    (from_good [] text (Kept (byte text p ∷ [])) (p + 1) rest (kept_waits [] text p l w) (words_good (length text) flow level text t (p + 1)))
