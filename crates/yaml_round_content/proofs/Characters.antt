-- Which characters canonical text is made of: each is one that a stream may hold.
use Rattle.std.proofs.Common.{◌≡◌, ◌⊎◌, inl, inr, ℕ, zero, suc, ◌+◌, ◌/◌, ◌%◌, ◌<◌, ◌≤◌, Bool, true, false, not, ◌&&◌, ◌||◌, ◌==◌, nat_lt, nat_le, List, [], ◌∷◌, ◌++◌, drop, refl, sym, subst, arith, encode_utf8, encode_utf8_all, if◌then◌else◌, IsUtf8}
use Rattle.yaml_round_content.proofs.ReadBackWords.{AllPass, list_all, All-nil, All-cons, cases_Bool, cases_lt, and_parts, or_parts, not-false, eqb-true, ltb-true, nat_tests, is_alpha_byte, is_digit_byte, is_break, is_printable, needs_escape, escape_letter, escape_text, hex_4, hex_8, suffix_keeps, prefix_keeps, keeps_byte, uri_byte, uri_text}
use lib.Utf8.{scalar, scalars, encode}
use Rattle.yaml_emit_laws.specs.scan_decode.Characters.{is_allowed}
use Rattle.yaml_emit_laws.specs.emit_layout.Hex.{hex_digit, hex_2}
use Rattle.yaml_emit_laws.proofs.Pieces.{top_of}

abbrev pub Fits : ℕ → Type 0
Fits c = is_allowed c ≡ true

abbrev pub AllFit : List ℕ → Type 0
AllFit [] = Unit {0}
AllFit (c ∷ cs) = Fits c × AllFit cs

-- Characters that fit pass the reader.
pub all_pass : (cs : List ℕ) → AllFit cs → AllPass is_allowed cs
all_pass [] h = All-nil (λ x. is_allowed x ≡ true)
all_pass (c ∷ cs) (h, hs) = All-cons (λ x. is_allowed x ≡ true) c cs h (all_pass cs hs)

pub all_append : (xs ys : List ℕ) → AllFit xs → AllFit ys → AllFit (xs ++ ys)
all_append [] ys h k = k
all_append (x ∷ xs) ys (h, hs) k = (h, all_append xs ys hs k)

-- ASCII that is printed
pub graphic : (c : ℕ) → 32 ≤ c → c ≤ 126 → Fits c
unfolding is_allowed
graphic c low high = grind (arith, nat_tests)

-- A space fits.
pub is_32 : Fits 32
is_32 = graphic 32 (omega arith) (omega arith)

pub feed_fits : Fits 10
unfolding is_allowed
feed_fits = refl

pub return_fits : Fits 13
unfolding is_allowed
return_fits = refl

-- ---- tests

either : (P : Type 0) (a b : Bool) → (a ≡ true → P) → (b ≡ true → P) → (a || b) ≡ true → P
either P true b f g e = f refl
either P false b f g e = g e

within : (lo hi b : ℕ) → 32 ≤ lo → hi ≤ 126 → (nat_le lo b && nat_le b hi) ≡ true → Fits b
within lo hi b low high e =
    let from : nat_le lo b ≡ true = (and_parts (nat_le lo b) (nat_le b hi) e).0 in
    let to : nat_le b hi ≡ true = (and_parts (nat_le lo b) (nat_le b hi) e).1 in
    let f : lo ≤ b = grind (arith, nat_tests) in
    let t : b ≤ hi = grind (arith, nat_tests) in
    graphic b (omega (arith, f, low)) (omega (arith, t, high))

sign : (k b : ℕ) → 32 ≤ k → k ≤ 126 → (b == k) ≡ true → Fits b
sign k b low high e = subst (λ (x : ℕ). Fits x) (sym (eqb-true b k e)) (graphic k low high)

-- ---- names

pub name_fits : (b : ℕ) → is_alpha_byte b ≡ true → Fits b
unfolding is_alpha_byte is_digit_byte
name_fits b =
    either (Fits b) (nat_le 48 b && nat_le b 57) _ (within 48 57 b (omega arith) (omega arith))
    (either (Fits b) (nat_le 65 b && nat_le b 90) _ (within 65 90 b (omega arith) (omega arith))
    (either (Fits b) (nat_le 97 b && nat_le b 122) _ (within 97 122 b (omega arith) (omega arith))
    (either (Fits b) (b == 95) (b == 45) (sign 95 b (omega arith) (omega arith)) (sign 45 b (omega arith) (omega arith)))))

list_one : (b : ℕ) (bs : List ℕ) → list_all is_alpha_byte (b ∷ bs) ≡ true
    → (is_alpha_byte b ≡ true) × (list_all is_alpha_byte bs ≡ true)
list_one b bs e =
    elim (cases_Bool (is_alpha_byte b)) [
      | inl t ↦ let more : list_all is_alpha_byte bs ≡ true = rw t at e in (t, more)
      | inr t ↦ let bad = rw t at e in absurd (cc)
    ]

-- Letters and digits of a name fit.
pub names_fit : (name : List ℕ) → list_all is_alpha_byte name ≡ true → AllFit name
names_fit [] e = tt
names_fit (b ∷ bs) e = let (h, hs) = list_one b bs e in (name_fits b h, names_fit bs hs)

-- ---- hexadecimal digits

hex_fits : (d : ℕ) → d < 16 → Fits (hex_digit d)
unfolding hex_digit
hex_fits d h =
    elim (cases_lt d 10) [
      | inl l ↦ let e : nat_lt d 10 ≡ true = grind (arith, nat_tests) in rw e (graphic (48 + d) (omega arith) (omega arith))
      | inr l ↦ let e : nat_lt d 10 ≡ false = grind (arith, nat_tests) in rw e (graphic (55 + d) (omega arith) (omega arith))
    ]

two_fit : (n : ℕ) → n < 256 → AllFit (hex_2 n)
two_fit n h = (hex_fits (n / 16) (omega arith), (hex_fits (n % 16) (omega arith), tt))

four_fit : (n : ℕ) → n < 65536 → AllFit (hex_4 n)
four_fit n h = all_append (hex_2 (n / 0x100)) (hex_2 (n % 0x100)) (two_fit (n / 0x100) (omega arith)) (two_fit (n % 0x100) (omega arith))

-- ---- escapes

abbrev FitsIf : ℕ → Type 0
FitsIf n = (n == 0) ≡ false → Fits n

choice : (b : Bool) (x y : ℕ) → FitsIf x → FitsIf y → FitsIf (if b then x else y)
choice true x y f g = f
choice false x y f g = g

plain_letter : (n : ℕ) → 32 ≤ n → n ≤ 126 → FitsIf n
plain_letter n low high e = graphic n low high

letter_fits : (c : ℕ) → FitsIf (escape_letter c)
unfolding escape_letter
letter_fits c =
    choice (c == 0x00) 48 _ (plain_letter 48 (omega arith) (omega arith))
    (choice (c == 0x07) 97 _ (plain_letter 97 (omega arith) (omega arith))
    (choice (c == 0x08) 98 _ (plain_letter 98 (omega arith) (omega arith))
    (choice (c == 0x09) 116 _ (plain_letter 116 (omega arith) (omega arith))
    (choice (c == 0x0A) 110 _ (plain_letter 110 (omega arith) (omega arith))
    (choice (c == 0x0B) 118 _ (plain_letter 118 (omega arith) (omega arith))
    (choice (c == 0x0C) 102 _ (plain_letter 102 (omega arith) (omega arith))
    (choice (c == 0x0D) 114 _ (plain_letter 114 (omega arith) (omega arith))
    (choice (c == 0x1B) 101 _ (plain_letter 101 (omega arith) (omega arith))
    (choice (c == 34) 34 _ (plain_letter 34 (omega arith) (omega arith))
    (choice (c == 92) 92 _ (plain_letter 92 (omega arith) (omega arith))
    (choice (c == 0x85) 78 _ (plain_letter 78 (omega arith) (omega arith))
    (choice (c == 0xA0) 95 _ (plain_letter 95 (omega arith) (omega arith))
    (choice (c == 0x2028) 76 _ (plain_letter 76 (omega arith) (omega arith))
    (choice (c == 0x2029) 80 0 (plain_letter 80 (omega arith) (omega arith)) (λ e. absurd cc)))))))))))))))

-- by what is known where a test holds, and where it doesn't
pub fit_by : (b : Bool) (x y : List ℕ) → (b ≡ true → AllFit x) → (b ≡ false → AllFit y)
    → AllFit (if b then x else y)
fit_by true x y f g = f refl
fit_by false x y f g = g refl

pub escape_fits : (c : ℕ) → c < 1114112 → AllFit (escape_text c)
unfolding escape_text
escape_fits c h =
    let slash : Fits 92 = graphic 92 (omega arith) (omega arith) in
    fit_by (not (escape_letter c == 0)) (92 ∷ escape_letter c ∷ []) _ (λ e. (slash, (letter_fits c (off_of (escape_letter c == 0) e), tt)))
    (λ _. fit_by (nat_lt c 0x100) (92 ∷ 120 ∷ hex_2 c) _ (λ e. (slash, (graphic 120 (omega arith) (omega arith), two_fit c (ltb-true c 0x100 e))))
    (λ _. fit_by (nat_lt c 0x1_0000) (92 ∷ 117 ∷ hex_4 c) (92 ∷ 85 ∷ hex_8 c) (λ e. (slash, (graphic 117 (omega arith) (omega arith), four_fit c (ltb-true c 0x1_0000 e))))
    (λ _. (slash, (graphic 85 (omega arith) (omega arith), (all_append (hex_4 (c / 0x1_0000)) (hex_4 (c % 0x1_0000)) (four_fit (c / 0x1_0000) (omega arith)) (four_fit (c % 0x1_0000) (omega arith))))))))
  where
    off_of : (b : Bool) → not b ≡ true → b ≡ false
    off_of true e = absurd (cc)
    off_of false e = refl

-- what is printed may be there
pub printed : (c : ℕ) → is_printable c ≡ true → Fits c
unfolding is_allowed
printed c e = grind (arith, nat_tests)

pub raw_fits : (unicode : Bool) (c : ℕ) → needs_escape unicode c ≡ false → Fits c
unfolding needs_escape
raw_fits unicode c e = printed c (not-false (is_printable c) (or_parts _ (not unicode && nat_le 0x80 c) (or_parts _ (is_break c) (or_parts _ (c == 34) (or_parts _ (c == 92) e).0).0).0).0)

-- ---- URIs

kept_fits : (b : ℕ) → suffix_keeps b ≡ true → Fits b
unfolding suffix_keeps
kept_fits b =
    either (Fits b) _ (b == 41)
    (either (Fits b) _ (b == 40)
    (either (Fits b) _ (b == 39)
    (either (Fits b) _ (b == 42)
    (either (Fits b) _ (b == 126)
    (either (Fits b) _ (b == 46)
    (either (Fits b) _ (b == 36)
    (either (Fits b) _ (b == 43)
    (either (Fits b) _ (b == 61)
    (either (Fits b) _ (b == 38)
    (either (Fits b) _ (b == 64)
    (either (Fits b) _ (b == 58)
    (either (Fits b) _ (b == 63)
    (either (Fits b) _ (b == 47)
    (either (Fits b) _ (b == 59)
    (either (Fits b) _ (b == 45)
    (either (Fits b) _ (b == 95)
    (either (Fits b) _ (nat_le 97 b && nat_le b 122)
    (either (Fits b) (nat_le 48 b && nat_le b 57) (nat_le 65 b && nat_le b 90) (within 48 57 b (omega arith) (omega arith)) (within 65 90 b (omega arith) (omega arith)))
    (within 97 122 b (omega arith) (omega arith)))
    (sign 95 b (omega arith) (omega arith)))
    (sign 45 b (omega arith) (omega arith)))
    (sign 59 b (omega arith) (omega arith)))
    (sign 47 b (omega arith) (omega arith)))
    (sign 63 b (omega arith) (omega arith)))
    (sign 58 b (omega arith) (omega arith)))
    (sign 64 b (omega arith) (omega arith)))
    (sign 38 b (omega arith) (omega arith)))
    (sign 61 b (omega arith) (omega arith)))
    (sign 43 b (omega arith) (omega arith)))
    (sign 36 b (omega arith) (omega arith)))
    (sign 46 b (omega arith) (omega arith)))
    (sign 126 b (omega arith) (omega arith)))
    (sign 42 b (omega arith) (omega arith)))
    (sign 39 b (omega arith) (omega arith)))
    (sign 40 b (omega arith) (omega arith)))
    (sign 41 b (omega arith) (omega arith))

wide_fits : (b : ℕ) → prefix_keeps b ≡ true → Fits b
wide_fits b =
    either (Fits b) _ (b == 93)
    (either (Fits b) _ (b == 91) (either (Fits b) (suffix_keeps b) (b == 44) (kept_fits b) (sign 44 b (omega arith) (omega arith))) (sign 91 b (omega arith) (omega arith)))
    (sign 93 b (omega arith) (omega arith))

keeps_fits : (wide : Bool) (b : ℕ) → keeps_byte wide b ≡ true → Fits b
keeps_fits true b e = wide_fits b e
keeps_fits false b e = kept_fits b e

abbrev pub AreBytes : List ℕ → Type 0
AreBytes [] = Unit {0}
AreBytes (b ∷ bs) = (b < 256) × AreBytes bs

pub uri_fits : (wide : Bool) (bs : List ℕ) → AreBytes bs → AllFit (uri_text wide bs)
unfolding uri_text
uri_fits wide [] h = tt
uri_fits wide (b ∷ bs) (h, hs) =
    all_append (uri_byte wide b) (uri_text wide bs)
    (fit_by (keeps_byte wide b) (b ∷ []) (37 ∷ hex_2 b) (λ e. (keeps_fits wide b e, tt)) (λ _. (graphic 37 (omega arith) (omega arith), two_fit b h)))
    (uri_fits wide bs hs)

pub bytes_append : (xs ys : List ℕ) → AreBytes xs → AreBytes ys → AreBytes (xs ++ ys)
bytes_append [] ys h k = k
bytes_append (x ∷ xs) ys (h, hs) k = (h, bytes_append xs ys hs k)

pub bytes_drop : (n : ℕ) (xs : List ℕ) → AreBytes xs → AreBytes (drop n xs)
bytes_drop zero xs h = h
bytes_drop (suc n) [] h = tt
bytes_drop (suc n) (x ∷ xs) (h, hs) = bytes_drop n xs hs

-- ---- UTF-8

char_bytes : (c : ℕ) → c < 1114112 → AreBytes (encode_utf8 c)
unfolding encode
char_bytes c h = by (cases_lt c 128) (cases_lt c 2048) (cases_lt c 65536)
  where
    by : (c < 128) ⊎ (128 ≤ c) → (c < 2048) ⊎ (2048 ≤ c) → (c < 65536) ⊎ (65536 ≤ c)
        → AreBytes (encode_utf8 c)
    by (inl low) _ _ =
        let e : encode_utf8 c ≡ c ∷ [] = grind (arith, nat_tests) in
        subst AreBytes (sym e) (omega arith, tt)
    by (inr from) (inl low) _ =
        let e : encode_utf8 c ≡ (192 + c / 64) ∷ (128 + c % 64) ∷ [] = grind (arith, nat_tests) in
        subst AreBytes (sym e) (omega arith, (omega arith, tt))
    by (inr _) (inr from) (inl low) =
        let e : encode_utf8 c ≡ (224 + c / 4096) ∷ (128 + c / 64 % 64) ∷ (128 + c % 64) ∷ [] = grind (arith, nat_tests) in
        subst AreBytes (sym e) (omega arith, (omega arith, (omega arith, tt)))
    by (inr _) (inr _) (inr from) =
        let e : encode_utf8 c ≡ (240 + c / 262144) ∷ (128 + c / 4096 % 64) ∷ (128 + c / 64 % 64) ∷ (128 + c % 64) ∷ [] = grind (arith, nat_tests) in
        subst AreBytes (sym e) (omega arith, (omega arith, (omega arith, (omega arith, tt))))

-- each is below 110000
abbrev pub AreChars : List ℕ → Type 0
AreChars [] = Unit {0}
AreChars (c ∷ cs) = (c < 1114112) × AreChars cs

pub scalars_below : (cs : List ℕ) → scalars cs ≡ true → AreChars cs
scalars_below [] e = tt
scalars_below (c ∷ cs) e = (top_of c (and_parts (scalar c) (scalars cs) e).0, scalars_below cs (and_parts (scalar c) (scalars cs) e).1)

chars_bytes : (cs : List ℕ) → AreChars cs → AreBytes (encode_utf8_all cs)
chars_bytes [] h = tt
chars_bytes (c ∷ cs) (h, hs) = bytes_append (encode_utf8 c) (encode_utf8_all cs) (char_bytes c h) (chars_bytes cs hs)

pub utf8_bytes : (t : List ℕ) → IsUtf8 t → AreBytes t
utf8_bytes t (cs, (right, same)) = subst AreBytes same (chars_bytes cs (scalars_below cs right))
