-- The parts of what an emitter writes between double quotes, as a reader's parts.
use Rattle.std.proofs.Common.{◌≡◌, ◌≢◌, ℕ, zero, suc, ◌+◌, ◌*◌, ◌/◌, ◌%◌, ◌<◌, Bool, true, not, ◌&&◌, ◌||◌, List, [], ◌∷◌, ◌++◌, length, replicate, Some, refl, sym, ap, subst, ◌∙◌, inl, inr, arith, append-nil, encode_utf8, encode_utf8_all}
use Rattle.yaml_emit_laws.proofs.Shared.{cases_lt, cases_eq, ne_eqb, nat_tests, encode_ascii, encodes-append, hex_digit, hex_len, simple_escape, LineBreak, Lf, Cr, CrLf, escape_letter, escape_text, hex_4, hex_8, hex_2, digit_of, LineEnd, feed, return, return_feed, turn_bytes, turn_means, may_turn, QuotedPart, raw, named, numbered, meant, spelling, meaning, number_behind, may_be_raw, MayStand, is_raw_blank, is_fold, is_turn, may_be_next, IsSpelling}
use lib.Utf8.{scalar, encode}
use Rattle.yaml_emit_layout.specs.Spelling as emitted
use Rattle.yaml_emit_laws.specs.Spelling.{fold, spelled}
use Rattle.yaml_emit_laws.proofs.Bytes.{AreCalm, calm_from, digit_calm, named_is}
use Rattle.yaml_emit_laws.proofs.Pieces.{top_of}
pub use Rattle.yaml_emit_layout.proofs.Escapes.{escape_by_letter, escape_by_2, escape_by_4, escape_by_8}

-- ---- digits

digit_back : (d : ℕ) → d < 16 → hex_digit (digit_of d) ≡ Some d
unfolding hex_digit digit_of
digit_back d h = grind (arith, nat_tests)

high_digit : (n : ℕ) → n < 256 → n / 16 < 16
high_digit n h = omega arith

low_digit : (n : ℕ) → n % 16 < 16
low_digit n = omega arith

-- a digit more of a number
pub number_more : (v d n : ℕ) (rest : List ℕ) → hex_digit d ≡ Some n
    → number_behind v (d ∷ rest) ≡ number_behind (v * 16 + n) rest
unfolding number_behind
number_more v d n rest h = rw h refl

-- a number without further digits
pub number_end : (v : ℕ) → number_behind v [] ≡ Some v
unfolding number_behind
number_end v = refl

number_2 : (v n : ℕ) (rest : List ℕ) → n < 256
    → number_behind v (hex_2 n ++ rest) ≡ number_behind (v * 256 + n) rest
number_2 v n rest h =
    number_more v (digit_of (n / 16)) (n / 16) (digit_of (n % 16) ∷ rest) (digit_back (n / 16) (high_digit n h))
    ∙ number_more (v * 16 + n / 16) (digit_of (n % 16)) (n % 16) rest (digit_back (n % 16) (low_digit n))
    ∙ ap (λ k. number_behind k rest) (omega arith)

two_is : (c : ℕ) → c < 256 → number_behind 0 (hex_2 c) ≡ Some c
two_is c h = grind (arith, nat_tests, number_2, number_end)

four_is : (c : ℕ) → c < 65536 → number_behind 0 (hex_4 c) ≡ Some c
four_is c h = grind (arith, nat_tests, number_2, number_end)

eight_is : (c : ℕ) → c < 1114112 → number_behind 0 (hex_8 c) ≡ Some c
eight_is c h = grind (arith, nat_tests, number_2, number_end)

two_calm : (n : ℕ) (xs : List ℕ) → n < 256 → AreCalm xs → AreCalm (hex_2 n ++ xs)
two_calm n xs h a =
    (digit_calm (digit_of (n / 16)) (n / 16) (digit_back (n / 16) (high_digit n h)), (digit_calm (digit_of (n % 16)) (n % 16) (digit_back (n % 16) (low_digit n)), a))

-- ---- letters

no_letter : (c : ℕ) → c ≢ 0 → c ≢ 7 → c ≢ 8 → c ≢ 9 → c ≢ 10 → c ≢ 11 → c ≢ 12 → c ≢ 13 → c ≢ 27
    → c ≢ 34 → c ≢ 92 → c ≢ 0x85 → c ≢ 0xA0 → c ≢ 0x2028 → c ≢ 0x2029
    → escape_letter c ≡ 0
unfolding escape_letter
no_letter c a b d e f g h i j k l m n o p = grind (arith, nat_tests, ne_eqb)

abbrev Names : ℕ → Type 0
Names c = simple_escape (escape_letter c) ≡ Some (encode_utf8 c)

names_at : (c k : ℕ) → Names k → c ≡ k → Names c
names_at c k h e = subst (λ (x : ℕ). Names x) (sym e) h

letter_names : (c : ℕ) → escape_letter c ≢ 0 → Names c
unfolding escape_letter simple_escape encode
letter_names c n = grind (arith, nat_tests, names_at, no_letter)

-- ---- ASCII

abbrev pub AreLow : List ℕ → Type 0
AreLow [] = Unit {0}
AreLow (b ∷ bs) = (b < 128) × AreLow bs

-- Low bytes are their own encoding.
pub low_encodes : (xs : List ℕ) → AreLow xs → encode_utf8_all xs ≡ xs
low_encodes [] h = refl
low_encodes (x ∷ xs) (a, b) = rw (encode_ascii x a, low_encodes xs b) refl

calm_low : (xs : List ℕ) → AreCalm xs → AreLow xs
calm_low [] h = tt
calm_low (x ∷ xs) (a, b) = (a.low, calm_low xs b)

slashed : (b : ℕ) (xs : List ℕ) → b < 128 → AreCalm xs → encode_utf8_all (92 ∷ b ∷ xs) ≡ 92 ∷ b ∷ xs
slashed b xs h a = low_encodes (92 ∷ b ∷ xs) (omega arith, (h, calm_low xs a))

-- Spaces are low bytes.
pub spaces_low : (n : ℕ) → AreLow (replicate n 32)
spaces_low zero = tt
spaces_low (suc n) = (omega arith, spaces_low n)

-- ---- parts

-- a reader's part for one that is written
record PartOf (x : emitted.SpelledPart) : Type 0 where
  part : QuotedPart
  stand : MayStand 34 part
  bytes : encode_utf8_all (emitted.spelled x) ≡ spelled part
  means : meant part ≡ encode_utf8 (emitted.meant x)
  folds : is_fold part ≡ emitted.is_fold x
  turns : is_turn part ≡ emitted.is_fold x
  blank : is_raw_blank part ≡ emitted.is_raw_blank x

raw_may : (c : ℕ) → emitted.may_stand (emitted.raw c) ≡ true → may_be_raw 34 c ≡ true
raw_may c h = grind (arith, nat_tests)

escape_named : (c : ℕ) → escape_letter c ≢ 0 → PartOf (emitted.escape c)
escape_named c n =
    let s = letter_names c n in
    let l = (named_is (escape_letter c) (encode_utf8 c) s).calm.low in
    record {
      part = named (escape_letter c) (encode_utf8 c);
      stand = (refl, s);
      bytes = ap (λ (t : List ℕ). encode_utf8_all t) (escape_by_letter c n) ∙ slashed (escape_letter c) [] l tt;
      means = refl;
      folds = refl;
      turns = refl;
      blank = refl;
    }

escape_numbered : (b c : ℕ) (ds : List ℕ) → scalar c ≡ true → escape_text c ≡ 92 ∷ b ∷ ds → b < 128
    → AreCalm ds → 0 < length ds → hex_len b ≡ length ds → number_behind 0 ds ≡ Some c
    → PartOf (emitted.escape c)
escape_numbered b c ds s e l a some h n = record {
  part = numbered b ds c;
  stand = (refl, some, h, n, s);
  bytes = ap (λ (t : List ℕ). encode_utf8_all t) e ∙ slashed b ds l a;
  means = refl;
  folds = refl;
  turns = refl;
  blank = refl;
}

len_2 : hex_len 120 ≡ 2
unfolding hex_len
len_2 = refl

len_4 : hex_len 117 ≡ 4
unfolding hex_len
len_4 = refl

len_8 : hex_len 85 ≡ 8
unfolding hex_len
len_8 = refl

escape_part : (c : ℕ) → scalar c ≡ true → PartOf (emitted.escape c)
escape_part c s =
    elim (cases_eq (escape_letter c) 0) [
      | inr n ↦ escape_named c n
      | inl n ↦ elim (cases_lt c 256) [
        | inl a ↦ escape_numbered 120 c (hex_2 c) s (escape_by_2 c n a) (omega arith) (two_calm c [] a tt) (omega arith) len_2 (two_is c a)
        | inr a ↦ elim (cases_lt c 65536) [
          | inl b ↦ escape_numbered 117 c (hex_4 c) s (escape_by_4 c n a b) (omega arith) (two_calm (c / 256) (hex_2 (c % 256)) (omega arith) (two_calm (c % 256) [] (omega arith) tt)) (omega arith) len_4 (four_is c b)
          | inr b ↦
              let top = top_of c s in
              escape_numbered 85 c (hex_8 c) s (escape_by_8 c n a b) (omega arith)
              (two_calm (c / 65536 / 256) (hex_2 (c / 65536 % 256) ++ hex_4 (c % 65536)) (omega arith)
              (two_calm (c / 65536 % 256) (hex_4 (c % 65536)) (omega arith)
              (two_calm (c % 65536 / 256) (hex_2 (c % 65536 % 256)) (omega arith) (two_calm (c % 65536 % 256) [] (omega arith) tt)))) (omega arith) len_8 (eight_is c top)
        ]
      ]
    ]

-- An escape of any character is calm bytes.
pub escape_calm : (c : ℕ) → scalar c ≡ true → AreCalm (escape_text c)
escape_calm c s =
    let P : List ℕ → Type 0 = λ bs. AreCalm bs in
    let slash = calm_from 92 (omega arith) (omega arith) in
    elim (cases_eq (escape_letter c) 0) [
      | inr n ↦ subst P (sym (escape_by_letter c n)) (slash, ((named_is (escape_letter c) (encode_utf8 c) (letter_names c n)).calm, tt))
      | inl n ↦ elim (cases_lt c 256) [
        | inl a ↦ subst P (sym (escape_by_2 c n a)) (slash, (calm_from 120 (omega arith) (omega arith), two_calm c [] a tt))
        | inr a ↦ elim (cases_lt c 65536) [
          | inl b ↦ subst P (sym (escape_by_4 c n a b)) (slash, (calm_from 117 (omega arith) (omega arith), two_calm (c / 256) (hex_2 (c % 256)) (omega arith) (two_calm (c % 256) [] (omega arith) tt)))
          | inr b ↦
              let top = top_of c s in
              subst P (sym (escape_by_8 c n a b)) (
                slash,
                (
                  calm_from 85 (omega arith) (omega arith),
                  two_calm (c / 65536 / 256) (hex_2 (c / 65536 % 256) ++ hex_4 (c % 65536)) (omega arith)
                      (two_calm (c / 65536 % 256) (hex_4 (c % 65536)) (omega arith)
                      (two_calm (c % 65536 / 256) (hex_2 (c % 65536 % 256)) (omega arith) (two_calm (c % 65536 % 256) [] (omega arith) tt))),
                ),
              )
        ]
      ]
    ]

abbrev pub end_of : LineBreak → LineEnd
end_of Lf = feed
end_of Cr = return
end_of CrLf = return_feed

-- The bytes of a fold: a break and spaces.
pub fold_bytes : (b : LineBreak) (n : ℕ)
    → encode_utf8_all (emitted.break_text b ++ replicate n 32)
    ≡ turn_bytes (record { end = end_of b; spaces = n } ∷ [])
unfolding turn_bytes
fold_bytes b n = grind (arith, nat_tests, low_encodes, spaces_low, append-nil)

-- A space is its own encoding.
pub space_encodes : encode_utf8 32 ≡ 32 ∷ []
space_encodes = encode_ascii 32 (omega arith)

-- A fold means one space.
pub fold_means : (b : LineBreak) (n : ℕ)
    → meant (fold (record { end = end_of b; spaces = n }) []) ≡ 32 ∷ []
unfolding turn_means
fold_means b n = grind (arith, nat_tests)

part_of : (x : emitted.SpelledPart) → emitted.may_stand x ≡ true → PartOf x
unfolding simple_escape may_turn
part_of (emitted.raw c) s = record { part = raw c; stand = raw_may c s; bytes = append-nil (encode_utf8 c); means = refl; folds = refl; turns = refl; blank = refl }
part_of (emitted.escape c) s = escape_part c s
part_of emitted.escaped_space s = record {
  part = named 32 (32 ∷ []);
  stand = (refl, refl);
  bytes = low_encodes (92 ∷ 32 ∷ []) (omega arith, (omega arith, tt));
  means = sym space_encodes;
  folds = refl;
  turns = refl;
  blank = refl;
}
part_of (emitted.fold b n) s = record {
  part = fold (record { end = end_of b; spaces = n }) [];
  stand = s;
  bytes = fold_bytes b n;
  means = fold_means b n ∙ sym space_encodes;
  folds = refl;
  turns = refl;
  blank = refl;
}

-- all of them, after one
pub record PartsOf (before : emitted.SpelledPart) (xs : List emitted.SpelledPart) : Type 0 where
  pub parts : List QuotedPart
  pub right : IsSpelling 34 parts
  pub bytes : encode_utf8_all (emitted.spelling xs) ≡ spelling parts
  pub means : meaning parts ≡ encode_utf8_all (emitted.meaning xs)
  pub next : (p : QuotedPart) → is_turn p ≡ emitted.is_fold before
      → is_raw_blank p ≡ emitted.is_raw_blank before → may_be_next p parts ≡ true

follow_test : (fq bp fp bq : Bool) → (not (fq && (bp || fp)) && not (fp && bq)) ≡ true
    → (not (fq && (bp || fp)) && not (bq && fp)) ≡ true
follow_test fq bp fp bq h = grind (arith, nat_tests)

pub parts_of : (before : emitted.SpelledPart) (xs : List emitted.SpelledPart)
    → emitted.IsSpelling before xs → PartsOf before xs
unfolding emitted.IsSpelling emitted.spelling emitted.meaning IsSpelling spelling meaning
parts_of before [] h = record { parts = []; right = tt; bytes = refl; means = refl; next = λ p a b. refl }
parts_of before (x ∷ xs) (follow, stand, more) =
    let one = part_of x stand in
    let rest = parts_of x xs more in
    record {
      parts = one.part ∷ rest.parts;
      right = (one.stand, rest.next one.part one.turns one.blank, rest.right);
      bytes = encodes-append (emitted.spelled x) (emitted.spelling xs) ∙ ap (λ t. t ++ encode_utf8_all (emitted.spelling xs)) one.bytes ∙ ap (λ t. spelled one.part ++ t) rest.bytes;
      means = ap (λ t. t ++ meaning rest.parts) one.means ∙ ap (λ t. encode_utf8 (emitted.meant x) ++ t) rest.means;
      next = λ p a b. (rw (a, b, one.folds, one.blank) (follow_test (emitted.is_fold x) (emitted.is_raw_blank before) (emitted.is_fold before) (emitted.is_raw_blank x) follow));
    }
