-- What tokens cost is bounded by the lengths of what they carry, where that is UTF-8, and by how
-- many tags there are.
use Rattle.std.proofs.Common.{◌≡◌, ℕ, ◌+◌, ◌*◌, ◌<◌, ◌≤◌, true, false, ◌==◌, nat_lt, nat_le, List, [], ◌∷◌, ◌++◌, length, Option, refl, subst, arith, inl, inr, IsUtf8, All, le_refl, mul-le-mul_left}
use Rattle.yaml_round_laws.proofs.SizesWords.{cases_Bool, ltb-true, lt-ltb, and_parts, encodes-chars, scalars-chars, length-le-encodes, IsUtf8-from_is_utf8, IsScalar, chars, Fault, Token, TokenBody, Encoding, Utf8, Settings, char_bytes, hex_2, suffix_keeps, uri_byte, uri_text, unit, larger, text_bytes, most_of_quoted, most_of_char, most_of_escape, most_of_value, spells_text, cut, ascii_grows}
use Rattle.std.proofs.lemmas.List.Elements.{All-head, All-tail}
use Rattle.std.proofs.Math.Utf8.{scalar_cases}
use lib.Utf8.{scalar, scalars, encode, encodes}
use Rattle.yaml_scan_history.specs.scan_types.Tokens as token
use Rattle.yaml_emit_laws.proofs.SizesCounting.{ascii_bytes}
use Rattle.yaml_emit_laws.proofs.SizesEscapes.{raw_most, two_small, short}
use Rattle.yaml_scan_laws.specs.Utf8Texts.{HasTexts}
use Rattle.yaml_round_laws.proofs.Weights.{Weight, weigh}
use Rattle.yaml_round_laws.proofs.Spellings.{uri_bytes, text_append}
use Rattle.yaml_round_laws.proofs.Costs.{broad, cost, lends}
use Rattle.yaml_round_laws.proofs.Prices.{by_length, marks}

-- ---- texts

name_most : (x : Encoding) (name : List ℕ) → text_bytes x name ≤ 4 * unit x * length name
unfolding text_bytes
name_most x [] = omega arith
name_most x (c ∷ cs) = omega (arith, raw_most x c, name_most x cs)

-- bytes of UTF-8
abbrev AreSmall : List ℕ → Type 0
AreSmall [] = Unit {0}
AreSmall (b ∷ bs) = (b < 256) × AreSmall bs

small_append : (xs ys : List ℕ) → AreSmall xs → AreSmall ys → AreSmall (xs ++ ys)
small_append [] ys f g = g
small_append (x ∷ xs) ys f g = (f.0, small_append xs ys f.1 g)

scalar_bound : (c : ℕ) → IsScalar c → c < 1114112
scalar_bound c h = elim (scalar_cases c h) [ inl low ↦ omega (arith, low) | inr (from, to) ↦ to ]

encode_small : (c : ℕ) → c < 1114112 → AreSmall (encode c)
unfolding encode
encode_small c w =
    elim (cases_Bool (nat_lt c 128)) [
      | inl e ↦ rw e (omega (arith, ltb-true c 128 e), tt)
      | inr e ↦ rw e (elim (cases_Bool (nat_lt c 2048)) [
        | inl f ↦ let b = ltb-true c 2048 f in rw f (omega (arith, b), (omega arith, tt))
        | inr f ↦ rw f (elim (cases_Bool (nat_lt c 65536)) [
          | inl g ↦ let b = ltb-true c 65536 g in rw g (omega (arith, b), (omega arith, (omega arith, tt)))
          | inr g ↦ rw g (omega (arith, w), (omega arith, (omega arith, (omega arith, tt))))
        ])
      ])
    ]

encodes_small : (cs : List ℕ) → scalars cs ≡ true → AreSmall (encodes cs)
encodes_small [] h = tt
encodes_small (c ∷ cs) h =
    let (own, rest) = and_parts (scalar c) (scalars cs) h in
    small_append (encode c) (encodes cs) (encode_small c (scalar_bound c own)) (encodes_small cs rest)

kept_most : (x : Encoding) (b : ℕ) → b < 256 → length (char_bytes x b) ≤ 2 * unit x
unfolding char_bytes
kept_most Utf8 b w =
    elim (cases_Bool (nat_lt b 0x80)) [
      | inl e ↦ rw e (omega arith)
      | inr e ↦ let f : nat_lt b 0x800 ≡ true = lt-ltb b 0x800 (omega (arith, w)) in rw e (rw f (omega arith))
    ]
kept_most _ b w = let f : nat_lt b 0x1_0000 ≡ true = lt-ltb b 0x1_0000 (omega (arith, w)) in rw f (omega arith)

byte_most : (x : Encoding) (b : ℕ) → b < 256 → text_bytes x (uri_byte false b) ≤ 3 * unit x
unfolding text_bytes
byte_most x b w =
    elim (cases_Bool (suffix_keeps b)) [
      | inl e ↦ rw e (omega (arith, kept_most x b w))
      | inr e ↦ rw e (let a = ascii_bytes x (37 ∷ hex_2 b) (two_small b w) in omega (arith, a))
    ]

uri_most : (x : Encoding) (bs : List ℕ) → AreSmall bs → uri_bytes x bs ≤ 3 * unit x * length bs
unfolding uri_text text_bytes
uri_most x [] f = omega arith
uri_most x (b ∷ bs) f = omega (arith, text_append x (uri_byte false b) (uri_text false bs), byte_most x b f.0, uri_most x bs f.1)

pub utf8_most : (x : Encoding) (bs : List ℕ) → IsUtf8 bs → uri_bytes x bs ≤ 3 * unit x * length bs
utf8_most x bs u = uri_most x bs (subst AreSmall (encodes-chars bs u) (encodes_small (chars bs) (scalars-chars bs u)))

-- ---- values

escape_ten : (c : ℕ) → most_of_escape c ≤ 10
escape_ten c =
    elim (cases_Bool (nat_lt c 0x100)) [
      | inl e ↦ rw e (omega arith)
      | inr e ↦ rw e (elim (cases_Bool (nat_lt c 0x1_0000)) [
        | inl f ↦ rw f (omega arith)
        | inr f ↦ rw f (omega arith)
      ])
    ]

quoted_most : (s : Settings) (i c : ℕ) → c < 1114112 → most_of_quoted s i c ≤ broad s i
quoted_most s i c w =
    elim (cases_Bool (c == 32)) [
      | inl e ↦ rw e (ascii_grows s (i + 3) (i + 10) (omega arith))
      | inr e ↦
          let a = short s i c (omega (arith, w)) e in
          let b = ascii_grows s (most_of_escape c) (i + 10) (omega (arith, escape_ten c)) in
          omega (arith, a, b)
    ]

larger_most : (a b n : ℕ) → a ≤ n → b ≤ n → larger a b ≤ n
larger_most a b n w v = elim (cases_Bool (nat_le a b)) [ inl e ↦ rw e v | inr e ↦ rw e w ]

char_most : (s : Settings) (i c : ℕ) → c < 1114112 → most_of_char s i c ≤ broad s i
char_most s i c w =
    elim (cases_Bool s.canonical) [
      | inl e ↦ rw e (quoted_most s i c w)
      | inr e ↦ rw e (larger_most (most_of_quoted s i c) (broad s i) (broad s i) (quoted_most s i c w) (le_refl _))
    ]

value_most : (s : Settings) (i : ℕ) (cs : List ℕ) → scalars cs ≡ true
    → most_of_value s i cs ≤ broad s i * length cs
unfolding most_of_value
value_most s i [] h = omega arith
value_most s i (c ∷ cs) h =
    let (own, rest) = and_parts (scalar c) (scalars cs) h in
    omega (arith, char_most s i c (scalar_bound c own), value_most s i cs rest)

scalar_most : (s : Settings) (i : ℕ) (v : List ℕ) → IsUtf8 v
    → most_of_value s i (chars v) ≤ broad s i * length v
scalar_most s i v u =
    let a = value_most s i (chars v) (scalars-chars v u) in
    let b : broad s i * length (chars v) ≤ broad s i * length v = mul-le-mul_left (broad s i) (subst (λ z. length (chars v) ≤ length z) (encodes-chars v u) (length-le-encodes (chars v))) in
    omega (arith, a, b)

-- ---- tokens

abbrev pub tags : Weight
tags (token.tag handle suffix) = 1
tags _ = 0

abbrev pub lengths : Weight
lengths (token.tag_directive handle prefix) = length handle + length prefix
lengths _ = 0

body_costs : (s : Settings) (i t : ℕ) (body : TokenBody) → HasTexts body → spells_text body ≡ true
    → cost s i t body ≤ by_length (unit s.encoding) (broad s i) body + t * tags body
body_costs s i t (token.tag_directive handle prefix) u e =
    omega (arith, name_most s.encoding handle, utf8_most s.encoding prefix (IsUtf8-from_is_utf8 prefix e))
body_costs s i t (token.alias name) u e = omega (arith, name_most s.encoding name)
body_costs s i t (token.anchor name) u e = omega (arith, name_most s.encoding name)
body_costs s i t (token.tag handle suffix) u e =
    omega (arith, utf8_most s.encoding handle u, utf8_most s.encoding suffix (IsUtf8-from_is_utf8 suffix e))
body_costs s i t (token.scalar v style) u e = omega (arith, scalar_most s i v u)
body_costs s i t _ u e = omega arith

body_lends : (x : Encoding) (body : TokenBody) → HasTexts body → spells_text body ≡ true
    → lends x body ≤ 4 * unit x * lengths body
body_lends x (token.tag_directive handle prefix) u e =
    omega (arith, name_most x handle, utf8_most x prefix (IsUtf8-from_is_utf8 prefix e))
body_lends x _ u e = omega arith

pub cut_costs : (s : Settings) (i t : ℕ) (f : Option Fault) (ts : List Token)
    → All (λ k. HasTexts k.body) ts
    → weigh (cost s i t) (cut f ts).tokens ≤ weigh (by_length (unit s.encoding) (broad s i)) ts + t
    * weigh tags ts
cut_costs s i t f [] u = omega arith
cut_costs s i t f (k ∷ ts) u =
    let own = All-head (λ (z : Token). HasTexts z.body) k ts u in
    let rest = cut_costs s i t f ts (All-tail (λ (z : Token). HasTexts z.body) k ts u) in
    elim (cases_Bool (spells_text k.body)) [
      | inl e ↦ rw e (omega (arith, rest, body_costs s i t k.body own e))
      | inr e ↦ rw e (omega arith)
    ]

pub cut_lends : (x : Encoding) (f : Option Fault) (ts : List Token) → All (λ k. HasTexts k.body) ts
    → weigh (lends x) (cut f ts).tokens ≤ 4 * unit x * weigh lengths ts
cut_lends x f [] u = omega arith
cut_lends x f (k ∷ ts) u =
    let own = All-head (λ (z : Token). HasTexts z.body) k ts u in
    let rest = cut_lends x f ts (All-tail (λ (z : Token). HasTexts z.body) k ts u) in
    elim (cases_Bool (spells_text k.body)) [
      | inl e ↦ rw e (omega (arith, rest, body_lends x k.body own e))
      | inr e ↦ rw e (omega arith)
    ]

body_marked : (body : TokenBody) → marks body ≡ tags body + lengths body
body_marked (token.tag handle suffix) = refl
body_marked (token.tag_directive handle prefix) = omega arith
body_marked _ = refl

pub all_marked : (ts : List Token) → weigh marks ts ≡ weigh tags ts + weigh lengths ts
all_marked [] = refl
all_marked (k ∷ ts) = omega (arith, body_marked k.body, all_marked ts)
