-- How many characters begin before a place: at most as many as an input has bytes.
use Rattle.std.proofs.Common.{◌≡◌, ℕ, zero, suc, ◌+◌, ◌/◌, ◌%◌, ◌-◌, ◌<◌, ◌≤◌, Bool, true, false, nat_lt, nat_le, List, [], ◌∷◌, ◌++◌, length, Result, Ok, Err, refl, subst, arith, inl, inr, le_refl}
use Rattle.yaml_round_laws.proofs.SizesWords.{cases_Bool, ltb-true, leb-true, encode_utf8, encode_utf8_all, yaml_encoding_t, encoding_of, mark_length, Offence, Character, character_at, before, led_by, characters, decoded_characters, byte, starts}
use lib.Utf8.{encode as encode_char}

abbrev pub one_if : Bool → ℕ
one_if true = 1
one_if false = 0

pub one_most : (b : Bool) → one_if b ≤ 1
one_most true = le_refl _
one_most false = omega arith

abbrev pub leads : List ℕ → ℕ → ℕ
leads text zero = 0
leads text (suc p) = leads text p + one_if (starts (byte text p))

leads_by : (text : List ℕ) (p k : ℕ) → leads text p ≤ leads text (k + p)
leads_by text p zero = let z : 0 + p ≡ p = omega arith in rw z (le_refl _)
leads_by text p (suc k) =
    let z : suc k + p ≡ suc (k + p) = omega arith in
    let i : leads text p ≤ leads text (k + p) = leads_by text p k in
    rw z (omega arith)

pub leads_grow : (text : List ℕ) (p q : ℕ) → p ≤ q → leads text p ≤ leads text q
leads_grow text p q w =
    let z : (q - p) + p ≡ q = omega arith in
    subst (λ k. leads text p ≤ leads text k) z (leads_by text p (q - p))

-- ---- of a whole text

abbrev lead_count : List ℕ → ℕ
lead_count [] = 0
lead_count (b ∷ bs) = one_if (starts b) + lead_count bs

shifted : (b : ℕ) (bs : List ℕ) (p : ℕ) → leads (b ∷ bs) (suc p) ≡ one_if (starts b) + leads bs p
shifted b bs zero = omega arith
shifted b bs (suc p) = omega (arith, shifted b bs p)

whole : (bs : List ℕ) → leads bs (length bs) ≡ lead_count bs
whole [] = refl
whole (b ∷ bs) = omega (arith, shifted b bs (length bs), whole bs)

count_append : (xs ys : List ℕ) → lead_count (xs ++ ys) ≡ lead_count xs + lead_count ys
count_append [] ys = omega arith
count_append (x ∷ xs) ys = omega (arith, count_append xs ys)

starts_none : (x : ℕ) → one_if (starts (128 + x % 64)) ≡ 0
starts_none x =
    let k : x % 64 < 64 = omega arith in
    elim (cases_Bool (nat_lt (128 + x % 64) 128)) [
      | inl e ↦ let bad : 128 + x % 64 < 128 = ltb-true (128 + x % 64) 128 e in absurd (omega arith)
      | inr e ↦ rw e (elim (cases_Bool (nat_le 192 (128 + x % 64))) [
        | inl f ↦ let bad : 192 ≤ 128 + x % 64 = leb-true 192 (128 + x % 64) f in absurd (omega arith)
        | inr f ↦ rw f refl
      ])
    ]

char_leads : (c : ℕ) → lead_count (encode_utf8 c) ≤ 1
unfolding encode_char
char_leads c =
    elim (cases_Bool (nat_lt c 128)) [
      | inl e ↦ rw e (omega (arith, one_most (starts c)))
      | inr e ↦ rw e (elim (cases_Bool (nat_lt c 2048)) [
        | inl f ↦ rw f (omega (arith, one_most (starts (192 + c / 64)), starts_none c))
        | inr f ↦ rw f (elim (cases_Bool (nat_lt c 65536)) [
          | inl g ↦ rw g (omega (arith, one_most (starts (224 + c / 4096)), starts_none (c / 64), starts_none c))
          | inr g ↦ rw g (omega (arith, one_most (starts (240 + c / 262144)), starts_none (c / 4096), starts_none (c / 64), starts_none c))
        ])
      ])
    ]

text_leads : (cs : List ℕ) → lead_count (encode_utf8_all cs) ≤ length cs
text_leads [] = le_refl _
text_leads (c ∷ cs) = omega (arith, char_leads c, text_leads cs, count_append (encode_utf8 c) (encode_utf8_all cs))

-- ---- and of what bytes spell

abbrev pub Few : ℕ → Result (List ℕ) Offence → Type 0
Few n (Ok cs) = length cs ≤ n
Few n (Err o) = Unit {0}

before_few : (n c : ℕ) (r : Result (List ℕ) Offence) → Few n r → Few (suc n) (before c r)
before_few n c (Ok cs) f = omega arith
before_few n c (Err o) f = tt

led_few : (n p : ℕ) (rest : ℕ → Result (List ℕ) Offence) (r : Result Character Offence)
    → ((q : ℕ) → Few n (rest q)) → Few (suc n) (led_by rest p r)
led_few n p rest (Ok c) f = before_few n c.code (rest (p + c.width)) (f (p + c.width))
led_few n p rest (Err o) f = tt

few_characters : (n : ℕ) (e : yaml_encoding_t) (bytes : List ℕ) (p : ℕ)
    → Few n (characters n e bytes p)
unfolding characters
few_characters zero e bytes p = le_refl _
few_characters (suc n) e bytes p =
    elim (cases_Bool (nat_lt p (length bytes))) [
      | inl w ↦ rw w (led_few n p (characters n e bytes) (character_at e bytes p) (few_characters n e bytes))
      | inr w ↦ rw w (omega arith)
    ]

-- an input has no more characters than bytes
pub few_decoded : (from : yaml_encoding_t) (input : List ℕ)
    → Few (length input) (decoded_characters from input)
few_decoded from input = few_characters (length input) (encoding_of from input) input (mark_length from input)

pub leads_few : (cs : List ℕ) → leads (encode_utf8_all cs) (length (encode_utf8_all cs)) ≤ length cs
leads_few cs = omega (arith, whole (encode_utf8_all cs), text_leads cs)
