-- The text that an input spells is UTF-8, and as long as the input at most, or twice as long where that is UTF-16.
use Rattle.std.proofs.Common.{not, ◌≡◌, ℕ, zero, suc, ◌+◌, ◌-◌, ◌*◌, ◌<◌, ◌≤◌, true, nat_lt, List, length, drop, Result, Ok, Err, refl, ap, ◌∙◌, arith, inl, inr, length-append, IsUtf8, mul-le-mul_left, sub-le}
use Rattle.yaml_round_laws.proofs.SizesWords.{is_high_surrogate, is_low_surrogate, is_allowed, cases_Bool, ltb-true, ltb-false, length-encode, len_utf8_bounds, encode_utf8, encode_utf8_all, IsScalar, all_scalars, yaml_encoding_t, YAML_UTF16LE_ENCODING, YAML_UTF16BE_ENCODING, Offence, Character, allowed_at, utf8_at, unit_at, utf16_of, character_at, before, led_by, characters, decoded_characters, encoding_of, mark_length, text_times}
use Rattle.std.proofs.lemmas.List.{length-drop}
use Rattle.yaml_scan_decode.specs.declared.utf16.ByteOrder.TheVariants.{LowFirst, HighFirst}
use Rattle.yaml_scan_decode.proofs.DecodeLemmas.{utf8_stands}
use Rattle.yaml_scan_history.proofs.SpellingLemmas.{allowed_scalar}

-- a character that is there: one of Unicode, and so long at most
record Spelt (n k p : ℕ) (c : Character) : Type 0 where
  scalar : IsScalar c.code
  inside : p + c.width ≤ n
  short : length (encode_utf8 c.code) ≤ k * c.width

abbrev SpeltAny : ℕ → ℕ → ℕ → Result Character Offence → Type 0
SpeltAny n k p (Ok c) = Spelt n k p c
SpeltAny n k p (Err o) = Unit {0}

pub char_size : (c : ℕ) → length (encode_utf8 c) ≤ 4
char_size c = let b = (len_utf8_bounds c).1 in omega (arith, length-encode c, b)

utf8_spelt : (bytes : List ℕ) (p : ℕ) (r : Result Character Offence) → p < length bytes
    → utf8_at bytes p ≡ r → SpeltAny (length bytes) 1 p r
utf8_spelt bytes p (Err o) l e = tt
utf8_spelt bytes p (Ok c) l e =
    let s = utf8_stands bytes p c l e in
    let own = encode_utf8 c.code in
    let rest = drop (p + c.width) bytes in
    let a : length (drop p bytes) ≡ length own + length rest = ap length s.spelled ∙ length-append own rest in
    let inside = s.inside in
    record { scalar = allowed_scalar c.code s.allowed; inside = inside; short = omega (arith, a, inside, length-drop p bytes, length-drop (p + c.width) bytes) }

allowed_spelt : (n p width code : ℕ) → p + width ≤ n → 2 ≤ width
    → SpeltAny n 2 p (allowed_at p width code)
unfolding allowed_at
allowed_spelt n p width code w two =
    elim (cases_Bool (is_allowed code)) [
      | inl e ↦ rw e record { scalar = allowed_scalar code e; inside = w; short = omega (arith, two, char_size code) }
      | inr e ↦ rw e tt
    ]

utf16_spelt : (n p u v : ℕ) → p < n → SpeltAny n 2 p (utf16_of (n - p) p u v)
unfolding utf16_of
utf16_spelt n p u v l =
    elim (cases_Bool (nat_lt (n - p) 2)) [
      | inl e ↦ rw e tt
      | inr e ↦ elim (cases_Bool (is_low_surrogate u)) [
        | inl f ↦ rw (e, f) tt
        | inr f ↦ elim (cases_Bool (not (is_high_surrogate u))) [
          | inl g ↦ rw (e, f, g) (allowed_spelt n p 2 u (let a = ltb-false (n - p) 2 e in omega (arith, a, l)) (omega arith))
          | inr g ↦ elim (cases_Bool (nat_lt (n - p) 4)) [
            | inl h ↦ rw (e, f, g, h) tt
            | inr h ↦ elim (cases_Bool (not (is_low_surrogate v))) [
              | inl i ↦ rw (e, f, g, h, i) tt
              | inr i ↦ rw (e, f, g, h, i) (allowed_spelt n p 4 _ (let a = ltb-false (n - p) 4 h in omega (arith, a, l)) (omega arith))
            ]
          ]
        ]
      ]
    ]

spelt_at : (x : yaml_encoding_t) (bytes : List ℕ) (p : ℕ) → p < length bytes
    → SpeltAny (length bytes) (text_times x) p (character_at x bytes p)
spelt_at YAML_UTF16LE_ENCODING bytes p l = utf16_spelt (length bytes) p (unit_at LowFirst bytes p) (unit_at LowFirst bytes (p + 2)) l
spelt_at YAML_UTF16BE_ENCODING bytes p l = utf16_spelt (length bytes) p (unit_at HighFirst bytes p) (unit_at HighFirst bytes (p + 2)) l
spelt_at _ bytes p l = utf8_spelt bytes p (utf8_at bytes p) l refl

-- ---- texts

-- from a place on
abbrev Text : ℕ → ℕ → ℕ → Result (List ℕ) Offence → Type 0
Text n k p (Ok cs) = (all_scalars cs ≡ true) × (length (encode_utf8_all cs) ≤ k * (n - p))
Text n k p (Err o) = Unit {0}

before_text : (n k p : ℕ) (c : Character) (r : Result (List ℕ) Offence) → Spelt n k p c
    → Text n k (p + c.width) r → Text n k p (before c.code r)
before_text n k p c (Err o) s t = tt
before_text n k p c (Ok cs) s t =
    let own = s.scalar in
    let short = s.short in
    let inside = s.inside in
    let a : n - p ≡ c.width + (n - (p + c.width)) = omega (arith, inside) in
    let b : k * (n - p) ≡ k * c.width + k * (n - (p + c.width)) = rw a (omega arith) in
    (rw own (rw t.0 refl), omega (arith, b, short, t.1, length-append (encode_utf8 c.code) (encode_utf8_all cs)))

led_text : (n k p : ℕ) (rest : ℕ → Result (List ℕ) Offence) (r : Result Character Offence)
    → SpeltAny n k p r → ((q : ℕ) → Text n k q (rest q)) → Text n k p (led_by rest p r)
led_text n k p rest (Ok c) s f = before_text n k p c (rest (p + c.width)) s (f (p + c.width))
led_text n k p rest (Err o) s f = tt

characters_text : (m : ℕ) (x : yaml_encoding_t) (bytes : List ℕ) (p : ℕ)
    → Text (length bytes) (text_times x) p (characters m x bytes p)
unfolding characters
characters_text zero x bytes p = (refl, omega arith)
characters_text (suc m) x bytes p =
    elim (cases_Bool (nat_lt p (length bytes))) [
      | inl w ↦ rw w (led_text (length bytes) (text_times x) p (characters m x bytes) (character_at x bytes p) (spelt_at x bytes p (ltb-true p (length bytes) w)) (characters_text m x bytes))
      | inr w ↦ rw w (refl, omega arith)
    ]

pub record IsText (k n : ℕ) (text : List ℕ) : Type 0 where
  pub utf8 : IsUtf8 text
  pub short : length text ≤ k * n

abbrev pub IsTextAny : ℕ → ℕ → Result (List ℕ) Offence → Type 0
IsTextAny k n (Ok cs) = IsText k n (encode_utf8_all cs)
IsTextAny k n (Err o) = Unit {0}

shorter : (k n p m : ℕ) → m ≤ k * (n - p) → m ≤ k * n
shorter k n p m w = let a : k * (n - p) ≤ k * n = mul-le-mul_left k (sub-le n p) in omega (arith, w, a)

whole_text : (n k p : ℕ) (r : Result (List ℕ) Offence) → Text n k p r → IsTextAny k n r
whole_text n k p (Ok cs) t = record { utf8 = (cs, (t.0, refl)); short = shorter k n p (length (encode_utf8_all cs)) t.1 }
whole_text n k p (Err o) t = tt

pub input_text : (from : yaml_encoding_t) (input : List ℕ)
    → IsTextAny (text_times (encoding_of from input)) (length input) (decoded_characters from input)
input_text from input =
    whole_text (length input) (text_times (encoding_of from input)) (mark_length from input) (decoded_characters from input)
    (characters_text (length input) (encoding_of from input) input (mark_length from input))
