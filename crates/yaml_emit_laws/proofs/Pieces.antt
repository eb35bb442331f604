-- The URIs that an emitter writes, as pieces.
use Rattle.std.proofs.Common.{◌≡◌, inl, inr, ℕ, suc, ◌+◌, ◌-◌, ◌/◌, ◌%◌, ◌<◌, ◌≤◌, Bool, true, false, ◌&&◌, ◌||◌, ◌==◌, nat_le, if◌then◌else◌, List, [], ◌∷◌, ◌++◌, length, Ok, refl, sym, ap, subst, ◌∙◌, arith, encode_utf8, encode_utf8_all, IsUtf8}
use Rattle.yaml_emit_laws.proofs.Shared.{cases_lt, and_parts, nat_tests, scalar_cases, is_alpha_byte, is_digit_byte, is_punctuation, is_wide_punctuation, due_behind, UriPiece, escape, capital, piece_text, piece_byte, uri_bytes, is_kept, IsUri, has_no_mark, hex_2, suffix_keeps, keeps_byte, uri_byte, uri_text}
use lib.Utf8.{scalar, scalars}
use Rattle.yaml_scan_history.specs.Written as written
use Rattle.yaml_scan_history.specs.Written.{raw}
use Rattle.yaml_emit_layout.specs.Hex.{hex_digit}
use Rattle.yaml_emit_laws.proofs.Chars.{encode_4, encode_3, encode_1, encode_2}

-- a byte as an emitter writes it
abbrev pub piece_by : Bool → ℕ → UriPiece
piece_by kept b = if kept then raw b else escape b

abbrev pub pieces_of : Bool → List ℕ → List UriPiece
pieces_of wide [] = []
pieces_of wide (b ∷ bs) = piece_by (keeps_byte wide b) b ∷ pieces_of wide bs

-- Texts and bytes.

digit_same : (d : ℕ) → capital d ≡ hex_digit d
unfolding capital hex_digit
digit_same d = grind (arith, nat_tests)

text_by : (kept : Bool) (b : ℕ)
    → piece_text (piece_by kept b) ≡ (if kept then b ∷ [] else 37 ∷ hex_2 b)
text_by true b = refl
text_by false b =
    ap (λ (x : ℕ). 37 ∷ x ∷ capital (b % 16) ∷ []) (digit_same (b / 16)) ∙ ap (λ (x : ℕ). 37 ∷ hex_digit (b / 16) ∷ x ∷ []) (digit_same (b % 16))

pub text_is : (wide : Bool) (bs : List ℕ) → written.uri_text (pieces_of wide bs) ≡ uri_text wide bs
unfolding uri_text
text_is wide [] = refl
text_is wide (b ∷ bs) =
    ap (λ (x : List ℕ). x ++ written.uri_text (pieces_of wide bs)) (text_by (keeps_byte wide b) b) ∙ ap (λ (x : List ℕ). uri_byte wide b ++ x) (text_is wide bs)

byte_by : (kept : Bool) (b : ℕ) → piece_byte (piece_by kept b) ≡ b
byte_by true b = refl
byte_by false b = refl

pub bytes_are : (wide : Bool) (bs : List ℕ) → uri_bytes (pieces_of wide bs) ≡ bs
bytes_are wide [] = refl
bytes_are wide (b ∷ bs) = ap (λ (x : ℕ). x ∷ uri_bytes (pieces_of wide bs)) (byte_by (keeps_byte wide b) b) ∙ ap (λ (x : List ℕ). b ∷ x) (bytes_are wide bs)

pub many_are : (wide : Bool) (bs : List ℕ) → length (pieces_of wide bs) ≡ length bs
many_are wide [] = refl
many_are wide (b ∷ bs) = ap suc (many_are wide bs)

-- No raw `!`.

mark_unkept : suffix_keeps 33 ≡ true → ⊥
unfolding suffix_keeps
mark_unkept e = cc

mark_not : (b : ℕ) → suffix_keeps b ≡ true → (b == 33) ≡ false
mark_not b e = grind (arith, nat_tests, mark_unkept)

unmarked_by : (kept : Bool) (b : ℕ) (pieces : List UriPiece) → (kept ≡ true → (b == 33) ≡ false)
    → has_no_mark pieces ≡ true → has_no_mark (piece_by kept b ∷ pieces) ≡ true
unmarked_by true b pieces f g = let e = f refl in rw e g
unmarked_by false b pieces f g = g

pub unmarked : (bs : List ℕ) → has_no_mark (pieces_of false bs) ≡ true
unmarked [] = refl
unmarked (b ∷ bs) = unmarked_by (suffix_keeps b) b (pieces_of false bs) (mark_not b) (unmarked bs)

-- What is raw is kept, and escapes spell whole characters.

with_false : (a s w : Bool) → (a || s) ≡ true → (a || (s || (false && w))) ≡ true
with_false true s w e = refl
with_false false true w e = refl
with_false false false w e = absurd (cc)

kept_is : (wide : Bool) (b : ℕ) → keeps_byte wide b ≡ true → is_kept wide b ≡ true
unfolding suffix_keeps is_alpha_byte is_digit_byte is_punctuation is_wide_punctuation
kept_is true b e = grind (arith, nat_tests)
kept_is false b e = with_false (is_alpha_byte b) (is_punctuation b) (is_wide_punctuation b) (grind (arith, nat_tests))

high_escaped : (wide : Bool) (b : ℕ) → 128 ≤ b → keeps_byte wide b ≡ false
unfolding suffix_keeps
high_escaped true b h = grind (arith, nat_tests)
high_escaped false b h = grind (arith, nat_tests)

due_low : (b : ℕ) → b < 128 → due_behind b 0 ≡ Ok 0
unfolding due_behind
due_low b h = let t : nat_le b 0x7F ≡ true = grind (arith, nat_tests) in rw t refl

due_two : (b : ℕ) → 192 ≤ b → b ≤ 223 → due_behind b 0 ≡ Ok 1
unfolding due_behind
due_two b h g = grind (arith, nat_tests)

due_three : (b : ℕ) → 224 ≤ b → b ≤ 239 → due_behind b 0 ≡ Ok 2
unfolding due_behind
due_three b h g = grind (arith, nat_tests)

due_four : (b : ℕ) → 240 ≤ b → b ≤ 247 → due_behind b 0 ≡ Ok 3
unfolding due_behind
due_four b h g = grind (arith, nat_tests)

due_trail : (b due : ℕ) → 128 ≤ b → b ≤ 191 → 0 < due → due_behind b due ≡ Ok (due - 1)
unfolding due_behind
due_trail b due h g some = grind (arith, nat_tests)

low_by : (wide kept : Bool) (b : ℕ) (pieces : List UriPiece) → b < 128
    → (kept ≡ true → is_kept wide b ≡ true) → IsUri wide 0 pieces
    → IsUri wide 0 (piece_by kept b ∷ pieces)
low_by wide true b pieces low f is = (refl, f refl, is)
low_by wide false b pieces low f is = (omega (arith, low), (0, due_low b low, is))

high_by : (wide kept : Bool) (due next b : ℕ) (pieces : List UriPiece) → kept ≡ false → b < 256
    → due_behind b due ≡ Ok next → IsUri wide next pieces
    → IsUri wide due (piece_by kept b ∷ pieces)
high_by wide true due next b pieces e small d is = absurd (cc)
high_by wide false due next b pieces e small d is = (small, (next, d, is))

high : (wide : Bool) (due next b : ℕ) (pieces : List UriPiece) → 128 ≤ b → b < 256
    → due_behind b due ≡ Ok next → IsUri wide next pieces
    → IsUri wide due (piece_by (keeps_byte wide b) b ∷ pieces)
high wide due next b pieces h small d is = high_by wide (keeps_byte wide b) due next b pieces (high_escaped wide b h) small d is

trail : (wide : Bool) (due next b : ℕ) (pieces : List UriPiece) → 128 ≤ b → b ≤ 191 → due ≡ suc next
    → IsUri wide next pieces → IsUri wide due (piece_by (keeps_byte wide b) b ∷ pieces)
trail wide due next b pieces h g e is =
    let d : due_behind b due ≡ Ok next = due_trail b due h g (omega (arith, e)) ∙ ap (λ (n : ℕ). Ok n) (omega (arith, e)) in
    high wide due next b pieces h (omega (arith, g)) d is

-- Each scalar value is at most U+10FFFF.
pub top_of : (c : ℕ) → scalar c ≡ true → c < 1114112
top_of c e = elim (scalar_cases c e) [ inl low ↦ omega (arith, low) | inr (from, to) ↦ to ]

char_uri : (wide : Bool) (c : ℕ) (bs : List ℕ) → c < 1114112 → IsUri wide 0 (pieces_of wide bs)
    → IsUri wide 0 (pieces_of wide (encode_utf8 c ++ bs))
char_uri wide c bs top is =
    let P : List ℕ → Type 0 = λ xs. IsUri wide 0 (pieces_of wide (xs ++ bs)) in
    elim (cases_lt c 128) [
      | inl u ↦ subst P (sym (encode_1 c u)) (low_by wide (keeps_byte wide c) c (pieces_of wide bs) u (kept_is wide c) is)
      | inr u ↦ elim (cases_lt c 2048) [
        | inl v ↦ subst P (sym (encode_2 c u v))
            (high wide 0 1 (192 + c / 64) _ (omega arith) (omega (arith, v)) (due_two (192 + c / 64) (omega arith) (omega (arith, v)))
            (trail wide 1 0 (128 + c % 64) (pieces_of wide bs) (omega arith) (omega arith) refl is))
        | inr v ↦ elim (cases_lt c 65536) [
          | inl w ↦ subst P (sym (encode_3 c v w))
              (high wide 0 2 (224 + c / 4096) _ (omega arith) (omega (arith, w)) (due_three (224 + c / 4096) (omega arith) (omega (arith, w)))
              (trail wide 2 1 (128 + c / 64 % 64) _ (omega arith) (omega arith) refl
              (trail wide 1 0 (128 + c % 64) (pieces_of wide bs) (omega arith) (omega arith) refl is)))
          | inr w ↦ subst P (sym (encode_4 c w))
              (high wide 0 3 (240 + c / 262144) _ (omega arith) (omega (arith, top)) (due_four (240 + c / 262144) (omega arith) (omega (arith, top)))
              (trail wide 3 2 (128 + c / 4096 % 64) _ (omega arith) (omega arith) refl
              (trail wide 2 1 (128 + c / 64 % 64) _ (omega arith) (omega arith) refl
              (trail wide 1 0 (128 + c % 64) (pieces_of wide bs) (omega arith) (omega arith) refl is))))
        ]
      ]
    ]

chars_uri : (wide : Bool) (cs : List ℕ) → scalars cs ≡ true
    → IsUri wide 0 (pieces_of wide (encode_utf8_all cs))
chars_uri wide [] e = refl
chars_uri wide (c ∷ cs) e =
    char_uri wide c (encode_utf8_all cs) (top_of c (and_parts (scalar c) (scalars cs) e).0) (chars_uri wide cs (and_parts (scalar c) (scalars cs) e).1)

-- UTF-8 is written as a URI
pub text_uri : (wide : Bool) (bs : List ℕ) → IsUtf8 bs → IsUri wide 0 (pieces_of wide bs)
text_uri wide bs (cs, (e, f)) = subst (λ (xs : List ℕ). IsUri wide 0 (pieces_of wide xs)) f (chars_uri wide cs e)
