-- Literals and numbers are plain values, and what values begin with.
use Rattle.std.proofs.Common.{◌≡◌, ℕ, ◌==◌, ◌&&◌, ◌||◌, not, nat_lt, Bool, true, false, List, [], ◌∷◌, ◌++◌, Option, None, Some, refl, sym, arith, if◌then◌else◌, ◌+◌, ◌<◌, ◌≤◌, nat_le, ap, subst, inl, inr, append_assoc, encode_utf8, encode_utf8_all, drop, ◌∙◌, append-nil, nat_eq, ◌-◌, ◌*◌, length, Ok}
use Rattle.yaml_round_laws.proofs.JsonWords.{list_all, true≢false, and_parts, cases_Bool, nat_tests, is_letter_or_digit, is_value_byte, begins_value, is_plain_value, Literal, named_false, named_null, named_true, literal_bytes, Sign, no_sign, plus, minus, sign_bytes, Exponent, Number, fraction_bytes, exponent_bytes, number_bytes, is_digit, are_digits, is_whole, IsFraction, IsExponent, IsNumber, Value, literal, number, string, empty_array, array, empty_object, object, Elements, last_element, element, Members, last_member, member, value_bytes, elements_bytes, members_bytes, IsValue, AreElements, is_white, are_white, Short, quote, backslash, slash, backspace, form_feed, line_feed, carriage_return, tab, short_byte, HexDigit, hex_byte, Letter, raw, short, coded, letter_bytes, letters_bytes, string_bytes, IsLetter, AreLetters, AreMembers, Text, IsJsonText, short_means, code, is_refused, ends_line, is_kept, are_kept, IsUsual, AreUsual, MembersAreUsual, IsUsualText, yaml_encoding_t, YAML_ANY_ENCODING, YAML_UTF8_ENCODING, encoding_of, mark_length, begins_low_first, begins_high_first, begins_utf8, Spells, spellings, may_be_utf8, and-false, HasAt, letter_means, letters_mean}
use lib.Utf8.{scalar}
use Rattle.yaml_emit_laws.proofs.Chars.{encode_1}
use Rattle.std.proofs.lemmas.List.Sums.{AllPass-from_list_all}
use Rattle.std.proofs.Math.Utf8.{scalar_cases}
use Rattle.yaml_scan_decode.specs.Characters.{is_allowed}
use Rattle.yaml_round_content.proofs.Encoding.{bytes_utf8}
use Rattle.yaml_scan_history.specs.Quoted.{hex_digit, hex_len, simple_escape, double_quoted_at}
use Rattle.yaml_emit_laws.specs.Spelling.{QuotedPart, spelled, meant, spelling, meaning, number_behind, MayStand, is_raw_blank, is_fold, is_turn, may_be_next, IsSpelling, quoted}
use Rattle.yaml_emit_laws.specs.Spelling as part
use Rattle.yaml_emit_laws.proofs.Parts.{spelling_reads}
use Rattle.yaml_emit_laws.proofs.Escapes.{number_more, number_end}

pub literal_plain : (l : Literal) → is_plain_value (literal_bytes l) ≡ true
unfolding is_plain_value is_letter_or_digit is_value_byte
literal_plain named_false = refl
literal_plain named_null = refl
literal_plain named_true = refl

-- ---- numbers

all_more : (test : ℕ → Bool) (xs ys : List ℕ) → list_all test xs ≡ true → list_all test ys ≡ true
    → list_all test (xs ++ ys) ≡ true
all_more test [] ys h k = k
all_more test (x ∷ xs) ys h k = let (here, rest) = and_parts (test x) (list_all test xs) h in rw here (all_more test xs ys rest k)

digit_letter : (d : ℕ) → is_digit d ≡ true → is_letter_or_digit d ≡ true
unfolding is_letter_or_digit
digit_letter d h = grind (arith, nat_tests)

letter_value : (d : ℕ) → is_letter_or_digit d ≡ true → is_value_byte d ≡ true
unfolding is_value_byte
letter_value d h = rw h refl

sign_value : (b : ℕ) → (b == 43 || (b == 45 || b == 46)) ≡ true → is_value_byte b ≡ true
unfolding is_value_byte
sign_value b h = or_more (is_letter_or_digit b) _ h
  where
    or_more : (x y : Bool) → y ≡ true → (x || y) ≡ true
    or_more true y e = refl
    or_more false y e = e

digits_value : (ds : List ℕ) → list_all is_digit ds ≡ true → list_all is_value_byte ds ≡ true
digits_value [] h = refl
digits_value (d ∷ ds) h = let (here, rest) = and_parts (is_digit d) (list_all is_digit ds) h in rw (letter_value d (digit_letter d here)) (digits_value ds rest)

all_digits : (ds : List ℕ) → are_digits ds ≡ true → list_all is_digit ds ≡ true
all_digits [] h = absurd (true≢false (sym h))
all_digits (d ∷ ds) h = h

whole_first : (d : ℕ) (ds : List ℕ) → is_whole (d ∷ ds) ≡ true
    → (is_digit d ≡ true) × (list_all is_digit ds ≡ true)
whole_first d [] h = (h, refl)
whole_first d (e ∷ ds) h =
    let (front, rest) = and_parts (is_digit d && not (d == 48)) (list_all is_digit (e ∷ ds)) h in
    ((and_parts (is_digit d) (not (d == 48)) front).0, rest)

whole_digits : (ds : List ℕ) → is_whole ds ≡ true → list_all is_digit ds ≡ true
whole_digits [] h = absurd (true≢false (sym h))
whole_digits (d ∷ ds) h = let (here, rest) = whole_first d ds h in rw here rest

fraction_value : (f : Option (List ℕ)) → IsFraction f
    → list_all is_value_byte (fraction_bytes f) ≡ true
fraction_value None h = refl
fraction_value (Some ds) h = rw (sign_value 46 refl) (digits_value ds (all_digits ds h))

signs_value : (s : Sign) → list_all is_value_byte (sign_bytes s) ≡ true
signs_value no_sign = refl
signs_value plus = rw (sign_value 43 refl) refl
signs_value minus = rw (sign_value 45 refl) refl

exponent_letter : (b : Bool) → is_value_byte (if b then 69 else 101) ≡ true
unfolding is_value_byte is_letter_or_digit
exponent_letter true = refl
exponent_letter false = refl

exponent_value : (e : Option Exponent) → IsExponent e
    → list_all is_value_byte (exponent_bytes e) ≡ true
exponent_value None h = refl
exponent_value (Some e) h = rw (exponent_letter e.capital) (all_more is_value_byte (sign_bytes e.sign) e.digits (signs_value e.sign) (digits_value e.digits (all_digits e.digits h)))

begins_number : (negative : Bool) (whole rest : List ℕ) → is_whole whole ≡ true
    → begins_value (sign_bytes (if negative then minus else no_sign) ++ (whole ++ rest)) ≡ true
begins_number negative [] rest h = absurd (true≢false (sym h))
begins_number true (d ∷ ds) rest h = let (here, more) = whole_first d ds h in or_more (is_letter_or_digit 45) _ (digit_letter d here)
  where
    or_more : (x y : Bool) → y ≡ true → (x || y) ≡ true
    or_more true y e = refl
    or_more false y e = e
begins_number false (d ∷ ds) rest h = let (here, more) = whole_first d ds h in rw (digit_letter d here) refl

pub number_plain : (n : Number) → IsNumber n → is_plain_value (number_bytes n) ≡ true
unfolding is_plain_value
number_plain n (hw, hf, he) =
    let rest = fraction_bytes n.fraction ++ exponent_bytes n.exponent in
    let sign = if n.negative then minus else no_sign in
    let all = all_more is_value_byte (sign_bytes sign) (n.whole ++ rest) (signs_value sign) (all_more is_value_byte n.whole rest (digits_value n.whole (whole_digits n.whole hw)) (all_more is_value_byte (fraction_bytes n.fraction) (exponent_bytes n.exponent) (fraction_value n.fraction hf) (exponent_value n.exponent he))) in
    rw (begins_number n.negative n.whole rest hw, all) refl

-- ---- what is first

-- printed ASCII, but `#`
abbrev pub is_solid : ℕ → Bool
is_solid b = nat_lt 32 b && (nat_lt b 127 && not (b == 35))

abbrev pub begins_solid : List ℕ → Bool
begins_solid [] = false
begins_solid (b ∷ bs) = is_solid b

value_solid : (b : ℕ) → is_value_byte b ≡ true → is_solid b ≡ true
unfolding is_value_byte is_letter_or_digit
value_solid b h = grind (arith, nat_tests)

all_solid : (value : List ℕ) → list_all is_value_byte value ≡ true → list_all is_solid value ≡ true
all_solid [] h = refl
all_solid (b ∷ value) h = let (here, rest) = and_parts (is_value_byte b) (list_all is_value_byte value) h in rw (value_solid b here) (all_solid value rest)

pub plain_bytes : (value : List ℕ) → is_plain_value value ≡ true → list_all is_solid value ≡ true
unfolding is_plain_value
plain_bytes value h = all_solid value (and_parts (begins_value value) (list_all is_value_byte value) h).1

plain_solid : (value bs : List ℕ) → is_plain_value value ≡ true → begins_solid (value ++ bs) ≡ true
unfolding is_plain_value
plain_solid [] bs h = absurd (true≢false (sym h))
plain_solid (b ∷ value) bs h =
    let (begins, all) = and_parts (begins_value (b ∷ value)) (list_all is_value_byte (b ∷ value)) h in
    let (here, rest) = and_parts (is_value_byte b) (list_all is_value_byte value) all in
    value_solid b here

pub value_begins : (v : Value) → IsValue v → (bs : List ℕ) → begins_solid (value_bytes v bs) ≡ true
unfolding value_bytes
value_begins (literal l) h bs = plain_solid (literal_bytes l) bs (literal_plain l)
value_begins (number n) h bs = plain_solid (number_bytes n) bs (number_plain n h)
value_begins _ h bs = refl

pub elements_begin : (elements : Elements) → AreElements elements → (bs : List ℕ)
    → begins_solid (elements_bytes elements bs) ≡ true
unfolding elements_bytes
elements_begin (last_element v a) (h, ha) bs = value_begins v h (a ++ bs)
elements_begin (element v a b elements) (h, ha, hb, more) bs = value_begins v h (a ++ 44 ∷ (b ++ elements_bytes elements bs))

pub members_begin : (members : Members) → (bs : List ℕ)
    → begins_solid (members_bytes members bs) ≡ true
unfolding members_bytes
members_begin (last_member k a b v c) bs = refl
members_begin (member k a b v c d members) bs = refl

-- ==== The characters that a text's bytes spell.

-- bytes that spell characters which all pass a test
pub record Spelled (test : ℕ → Bool) (bs : List ℕ) : Type 0 where
  pub characters : List ℕ
  pub is : encode_utf8_all characters ≡ bs
  pub all : list_all test characters ≡ true

pub no_bytes : (test : ℕ → Bool) → Spelled test []
no_bytes test = record { characters = []; is = refl; all = refl }

pub char_before : (test : ℕ → Bool) (c : ℕ) (bs : List ℕ) → test c ≡ true → Spelled test bs
    → Spelled test (encode_utf8 c ++ bs)
char_before test c bs h s = record { characters = c ∷ s.characters; is = ap (λ (ys : List ℕ). encode_utf8 c ++ ys) s.is; all = rw h s.all }

pub byte_before : (test : ℕ → Bool) (b : ℕ) (bs : List ℕ) → b < 128 → test b ≡ true
    → Spelled test bs → Spelled test (b ∷ bs)
byte_before test b bs l h s = subst (λ (ys : List ℕ). Spelled test (ys ++ bs)) (encode_1 b l) (char_before test b bs h s)

-- printed ASCII and letters that are kept pass it
pub record Passes (test : ℕ → Bool) : Type 0 where
  pub printed : (b : ℕ) → 32 ≤ b → b < 127 → test b ≡ true
  pub kept : (c : ℕ) → scalar c ≡ true → (nat_le 32 c && not (c == 34 || c == 92)) ≡ true
      → not (is_refused c || ends_line c) ≡ true → test c ≡ true

printed_before : (test : ℕ → Bool) → Passes test → (b : ℕ) (bs : List ℕ) → (32 ≤ b) × (b < 127)
    → Spelled test bs → Spelled test (b ∷ bs)
printed_before test p b bs (low, high) s = byte_before test b bs (omega (arith, high)) (p.printed b low high) s

hex_by : (v : ℕ) (capital : Bool) → v < 16
    → let b = if nat_lt v 10 then v + 48 else if capital then v + 55 else v + 87 in
    (32 ≤ b) × (b < 127)
hex_by v capital l = elim (cases_Bool (nat_lt v 10)) [ inl e ↦ rw e (omega (arith, l), omega (arith, l)) | inr e ↦ rw e (letter capital) ]
  where
    letter : (c : Bool) → let b = if c then v + 55 else v + 87 in (32 ≤ b) × (b < 127)
    letter true = (omega (arith, l), omega (arith, l))
    letter false = (omega (arith, l), omega (arith, l))

hex_printed : (d : HexDigit) → d.value < 16 → (32 ≤ hex_byte d) × (hex_byte d < 127)
hex_printed d l = hex_by d.value d.capital l

short_printed : (s : Short) → (32 ≤ short_byte s) × (short_byte s < 127)
short_printed quote = (omega arith, omega arith)
short_printed backslash = (omega arith, omega arith)
short_printed slash = (omega arith, omega arith)
short_printed backspace = (omega arith, omega arith)
short_printed form_feed = (omega arith, omega arith)
short_printed line_feed = (omega arith, omega arith)
short_printed carriage_return = (omega arith, omega arith)
short_printed tab = (omega arith, omega arith)

letter_before : (test : ℕ → Bool) → Passes test → (l : Letter) (bs : List ℕ) → IsLetter l
    → is_kept l ≡ true → Spelled test bs → Spelled test (letter_bytes l ++ bs)
letter_before test p (raw c) bs h k s =
    let (char, own) = and_parts (scalar c) (nat_le 32 c && not (c == 34 || c == 92)) h in
    char_before test c bs (p.kept c char own k) s
letter_before test p (short t) bs h k s = printed_before test p 92 (short_byte t ∷ bs) (omega arith, omega arith) (printed_before test p (short_byte t) bs (short_printed t) s)
letter_before test p (coded a b c d) bs (ha, hb, hc, hd) k s =
    printed_before test p 92 (117 ∷ hex_byte a ∷ hex_byte b ∷ hex_byte c ∷ hex_byte d ∷ bs) (omega arith, omega arith)
    (printed_before test p 117 (hex_byte a ∷ hex_byte b ∷ hex_byte c ∷ hex_byte d ∷ bs) (omega arith, omega arith)
    (printed_before test p (hex_byte a) (hex_byte b ∷ hex_byte c ∷ hex_byte d ∷ bs) (hex_printed a ha)
    (printed_before test p (hex_byte b) (hex_byte c ∷ hex_byte d ∷ bs) (hex_printed b hb)
    (printed_before test p (hex_byte c) (hex_byte d ∷ bs) (hex_printed c hc)
    (printed_before test p (hex_byte d) bs (hex_printed d hd) s)))))

letters_before : (test : ℕ → Bool) → Passes test → (ls : List Letter) (bs : List ℕ) → AreLetters ls
    → are_kept ls ≡ true → Spelled test bs → Spelled test (letters_bytes ls ++ bs)
letters_before test p [] bs h k s = s
letters_before test p (l ∷ ls) bs (h, hs) k s =
    let (here, rest) = and_parts (is_kept l) (are_kept ls) k in
    subst (λ (ys : List ℕ). Spelled test ys) (sym (append_assoc (letter_bytes l) (letters_bytes ls) bs)) (letter_before test p l (letters_bytes ls ++ bs) h here (letters_before test p ls bs hs rest s))

pub string_before : (test : ℕ → Bool) → Passes test → (ls : List Letter) (bs : List ℕ)
    → AreLetters ls → are_kept ls ≡ true → Spelled test bs → Spelled test (string_bytes ls ++ bs)
string_before test p ls bs h k s =
    printed_before test p 34 ((letters_bytes ls ++ 34 ∷ []) ++ bs) (omega arith, omega arith)
    (subst (λ (ys : List ℕ). Spelled test ys) (sym (append_assoc (letters_bytes ls) (34 ∷ []) bs)) (letters_before test p ls (34 ∷ bs) h k (printed_before test p 34 bs (omega arith, omega arith) s)))

pub white_before : (test : ℕ → Bool) (ws bs : List ℕ) → are_white ws ≡ true
    → list_all test ws ≡ true → Spelled test bs → Spelled test (ws ++ bs)
white_before test [] bs h k s = s
white_before test (w ∷ ws) bs h k s =
    let (here, rest) = and_parts (is_white w) (are_white ws) h in
    let (own, more) = and_parts (test w) (list_all test ws) k in
    byte_before test w (ws ++ bs) (grind (arith, nat_tests)) own (white_before test ws bs rest more s)

-- ==== The bytes of a JSON text spell it.

-- ---- characters that a stream may hold

printed_allowed : (b : ℕ) → 32 ≤ b → b < 127 → is_allowed b ≡ true
unfolding is_allowed
printed_allowed b l h = grind (arith, nat_tests)

kept_allowed : (c : ℕ) → scalar c ≡ true → (nat_le 32 c && not (c == 34 || c == 92)) ≡ true
    → not (is_refused c || ends_line c) ≡ true → is_allowed c ≡ true
unfolding is_allowed
kept_allowed c s h k = elim (scalar_cases c s) [ inl l ↦ (grind (arith, nat_tests)) | inr (l, m) ↦ (grind (arith, nat_tests)) ]

passes : Passes is_allowed
passes = record { printed = printed_allowed; kept = kept_allowed }

white_allowed : (b : ℕ) → is_white b ≡ true → is_allowed b ≡ true
unfolding is_allowed
white_allowed b h = grind (arith, nat_tests)

whites_allowed : (ws : List ℕ) → are_white ws ≡ true → list_all is_allowed ws ≡ true
whites_allowed [] h = refl
whites_allowed (w ∷ ws) h = let (here, rest) = and_parts (is_white w) (are_white ws) h in rw (white_allowed w here) (whites_allowed ws rest)

abbrev Fine : List ℕ → Type 0
Fine bs = Spelled is_allowed bs

white_on : (ws bs : List ℕ) → are_white ws ≡ true → Fine bs → Fine (ws ++ bs)
white_on ws bs h s = white_before is_allowed ws bs h (whites_allowed ws h) s

sign_on : (b : ℕ) (bs : List ℕ) → is_solid b ≡ true → Fine bs → Fine (b ∷ bs)
sign_on b bs h s = byte_before is_allowed b bs (small b h) (printed_allowed b (low b h) (high b h)) s
  where
    small : (b : ℕ) → is_solid b ≡ true → b < 128
    small b h = grind (arith, nat_tests)

    low : (b : ℕ) → is_solid b ≡ true → 32 ≤ b
    low b h = grind (arith, nat_tests)

    high : (b : ℕ) → is_solid b ≡ true → b < 127
    high b h = grind (arith, nat_tests)

signs_on : (value bs : List ℕ) → list_all is_solid value ≡ true → Fine bs → Fine (value ++ bs)
signs_on [] bs h s = s
signs_on (b ∷ value) bs h s = let (here, rest) = and_parts (is_solid b) (list_all is_solid value) h in sign_on b (value ++ bs) here (signs_on value bs rest s)

mutual
  unfolding value_bytes elements_bytes members_bytes

  value_fine : (v : Value) → IsValue v → IsUsual v → (bs : List ℕ) → Fine bs
      → Fine (value_bytes v bs)
  value_fine (literal l) h u bs s = signs_on (literal_bytes l) bs (plain_bytes (literal_bytes l) (literal_plain l)) s
  value_fine (number n) h u bs s = signs_on (number_bytes n) bs (plain_bytes (number_bytes n) (number_plain n h)) s
  value_fine (string ls) h u bs s = string_before is_allowed passes ls bs h u s
  value_fine (empty_array w) h u bs s = sign_on 91 (w ++ 93 ∷ bs) refl (white_on w (93 ∷ bs) h (sign_on 93 bs refl s))
  value_fine (array w elements) (hw, h) u bs s = sign_on 91 (w ++ elements_bytes elements (93 ∷ bs)) refl (white_on w (elements_bytes elements (93 ∷ bs)) hw (elements_fine elements h u (93 ∷ bs) (sign_on 93 bs refl s)))
  value_fine (empty_object w) h u bs s = sign_on 123 (w ++ 125 ∷ bs) refl (white_on w (125 ∷ bs) h (sign_on 125 bs refl s))
  value_fine (object w members) (hw, h) u bs s = sign_on 123 (w ++ members_bytes members (125 ∷ bs)) refl (white_on w (members_bytes members (125 ∷ bs)) hw (members_fine members h u (125 ∷ bs) (sign_on 125 bs refl s)))

  elements_fine : (elements : Elements) → AreElements elements → AreUsual elements → (bs : List ℕ)
      → Fine bs → Fine (elements_bytes elements bs)
  elements_fine (last_element v a) (h, ha) u bs s = value_fine v h u (a ++ bs) (white_on a bs ha s)
  elements_fine (element v a b elements) (h, ha, hb, hs) (u, us) bs s =
      let rest = elements_bytes elements bs in
      value_fine v h u (a ++ 44 ∷ (b ++ rest)) (white_on a (44 ∷ (b ++ rest)) ha (sign_on 44 (b ++ rest) refl (white_on b rest hb (elements_fine elements hs us bs s))))

  members_fine : (members : Members) → AreMembers members → MembersAreUsual members → (bs : List ℕ)
      → Fine bs → Fine (members_bytes members bs)
  members_fine (last_member k a b v c) (hk, ha, hb, h, hc) (kept, near, u) bs s =
      let value = value_bytes v (c ++ bs) in
      string_before is_allowed passes k (a ++ 58 ∷ (b ++ value)) hk kept (white_on a (58 ∷ (b ++ value)) ha (sign_on 58 (b ++ value) refl (white_on b value hb (value_fine v h u (c ++ bs) (white_on c bs hc s)))))
  members_fine (member k a b v c d members) (hk, ha, hb, h, hc, hd, hs) (kept, near, u, us) bs s =
      let rest = members_bytes members bs in
      let more = c ++ 44 ∷ (d ++ rest) in
      let value = value_bytes v more in
      string_before is_allowed passes k (a ++ 58 ∷ (b ++ value)) hk kept (white_on a (58 ∷ (b ++ value)) ha (sign_on 58 (b ++ value) refl (white_on b value hb (value_fine v h u more (white_on c (44 ∷ (d ++ rest)) hc (sign_on 44 (d ++ rest) refl (white_on d rest hd (members_fine members hs us bs s))))))))

text_fine : (bytes : List ℕ) (t : Text) → IsJsonText bytes t → IsUsualText t → Fine bytes
text_fine bytes t is u =
    let back : Fine t.back = subst Fine (append-nil t.back) (white_on t.back [] is.back (no_bytes is_allowed)) in
    subst Fine (sym is.spelled) (white_on t.front (value_bytes t.value t.back) is.front (value_fine t.value is.value u.value t.back back))

-- ---- no mark is first

abbrev begins_low : List ℕ → Bool
begins_low [] = false
begins_low (b ∷ bs) = nat_lt b 128

low_by : (bs : List ℕ) → begins_solid bs ≡ true → begins_low bs ≡ true
low_by [] h = h
low_by (b ∷ bs) h = grind (arith, nat_tests)

text_low : (front : List ℕ) (v : Value) (back : List ℕ) → are_white front ≡ true → IsValue v
    → begins_low (front ++ value_bytes v back) ≡ true
text_low [] v back h is = low_by (value_bytes v back) (value_begins v is back)
text_low (w ∷ front) v back h is = grind (arith, nat_tests)

no_mark : (bs : List ℕ) → begins_low bs ≡ true
    → (begins_low_first bs ≡ false) × (begins_high_first bs ≡ false) × (begins_utf8 bs ≡ false)
no_mark [] h = absurd (true≢false (sym h))
no_mark (b ∷ bs) h = (rw (apart b 0xFF h (omega arith)) refl, rw (apart b 0xFE h (omega arith)) refl, rw (apart b 0xEF h (omega arith)) refl)
  where
    apart : (b n : ℕ) → nat_lt b 128 ≡ true → 128 ≤ n → nat_eq n b ≡ false
    apart b n h l = grind (arith, nat_tests)

any_told : (bs : List ℕ) → begins_low bs ≡ true
    → (mark_length YAML_ANY_ENCODING bs ≡ 0)
    × (encoding_of YAML_ANY_ENCODING bs ≡ YAML_UTF8_ENCODING)
unfolding mark_length encoding_of
any_told bs h = let (a, b, c) = no_mark bs h in (rw (a, b, c) refl, rw (a, b) refl)

told : (from : yaml_encoding_t) → may_be_utf8 from ≡ true → (bs : List ℕ) → begins_low bs ≡ true
    → (mark_length from bs ≡ 0) × (encoding_of from bs ≡ YAML_UTF8_ENCODING)
unfolding mark_length encoding_of
told YAML_ANY_ENCODING may bs h = any_told bs h
told YAML_UTF8_ENCODING may bs h = (refl, refl)
told _ may bs h = absurd (true≢false (sym may))

-- In UTF-8 the bytes spell themselves.
pub text_spells : (from : yaml_encoding_t) → may_be_utf8 from ≡ true → (bytes : List ℕ) (t : Text)
    → IsJsonText bytes t → IsUsualText t → Spells from bytes bytes
text_spells from may bytes t is u =
    let s = text_fine bytes t is u in
    let low = ap (λ (bs : List ℕ). begins_low bs) is.spelled ∙ text_low t.front t.value t.back is.front is.value in
    let (none, utf8) = told from may bytes low in
    record {
      characters = s.characters;
      allowed = AllPass-from_list_all is_allowed s.characters s.all;
      spelled = ap (λ (n : ℕ). drop n bytes) none ∙ sym s.is ∙ sym (bytes_utf8 s.characters) ∙ ap (λ (e : yaml_encoding_t). spellings e s.characters) (sym utf8);
      is = sym s.is;
    }

-- ==== Strings are spellings between double quotes.

-- ---- digits

low_digit : (b v : ℕ) → b ≡ v + 48 → v < 10 → hex_digit b ≡ Some v
unfolding hex_digit
low_digit b v e l =
    let c : (nat_le 48 b && nat_le b 57) ≡ true = grind (arith, nat_tests) in
    let s : b - 48 ≡ v = omega (arith, e) in
    rw (c, s) refl

capital_digit : (b v : ℕ) → b ≡ v + 55 → 10 ≤ v → v < 16 → hex_digit b ≡ Some v
unfolding hex_digit
capital_digit b v e l m =
    let c : (nat_le 48 b && nat_le b 57) ≡ false = grind (arith, nat_tests) in
    let d : (nat_le 65 b && nat_le b 70) ≡ true = grind (arith, nat_tests) in
    let s : b - 55 ≡ v = omega (arith, e) in
    rw (c, d, s) refl

small_digit : (b v : ℕ) → b ≡ v + 87 → 10 ≤ v → v < 16 → hex_digit b ≡ Some v
unfolding hex_digit
small_digit b v e l m =
    let c : (nat_le 48 b && nat_le b 57) ≡ false = grind (arith, nat_tests) in
    let d : (nat_le 65 b && nat_le b 70) ≡ false = grind (arith, nat_tests) in
    let f : (nat_le 97 b && nat_le b 102) ≡ true = grind (arith, nat_tests) in
    let s : b - 87 ≡ v = omega (arith, e) in
    rw (c, d, f, s) refl

digit_by : (v : ℕ) (capital : Bool) → v < 16
    → hex_digit (if nat_lt v 10 then v + 48 else if capital then v + 55 else v + 87) ≡ Some v
digit_by v capital l =
    elim (cases_Bool (nat_lt v 10)) [
      | inl e ↦ let low : v < 10 = grind (arith, nat_tests) in rw e (low_digit (v + 48) v refl low)
      | inr e ↦ let high : 10 ≤ v = grind (arith, nat_tests) in rw e (letter capital high)
    ]
  where
    letter : (c : Bool) → 10 ≤ v → hex_digit (if c then v + 55 else v + 87) ≡ Some v
    letter true h = capital_digit (v + 55) v refl h l
    letter false h = small_digit (v + 87) v refl h l

digit_reads : (d : HexDigit) → d.value < 16 → hex_digit (hex_byte d) ≡ Some d.value
digit_reads d l = digit_by d.value d.capital l

four_digits : (a b c d : HexDigit) → a.value < 16 → b.value < 16 → c.value < 16 → d.value < 16
    → number_behind 0 (hex_byte a ∷ hex_byte b ∷ hex_byte c ∷ hex_byte d ∷ []) ≡ Some (code a b c d)
four_digits a b c d ha hb hc hd =
    number_more 0 (hex_byte a) a.value (hex_byte b ∷ hex_byte c ∷ hex_byte d ∷ []) (digit_reads a ha)
    ∙ number_more (0 * 16 + a.value) (hex_byte b) b.value (hex_byte c ∷ hex_byte d ∷ []) (digit_reads b hb)
    ∙ number_more ((0 * 16 + a.value) * 16 + b.value) (hex_byte c) c.value (hex_byte d ∷ []) (digit_reads c hc)
    ∙ number_more (((0 * 16 + a.value) * 16 + b.value) * 16 + c.value) (hex_byte d) d.value [] (digit_reads d hd)
    ∙ number_end ((((0 * 16 + a.value) * 16 + b.value) * 16 + c.value) * 16 + d.value)
    ∙ ap (λ (n : ℕ). Some (((n * 16 + b.value) * 16 + c.value) * 16 + d.value)) zero_first
  where
    zero_first : 0 * 16 + a.value ≡ a.value
    zero_first = omega arith

-- ---- parts

part_of : Letter → QuotedPart
part_of (raw c) = part.raw c
part_of (short s) = part.named (short_byte s) (short_means s ∷ [])
part_of (coded a b c d) = part.numbered 117 (hex_byte a ∷ hex_byte b ∷ hex_byte c ∷ hex_byte d ∷ []) (code a b c d)

parts_of : List Letter → List QuotedPart
parts_of [] = []
parts_of (l ∷ ls) = part_of l ∷ parts_of ls

part_spelled : (l : Letter) → spelled (part_of l) ≡ letter_bytes l
unfolding part_of
part_spelled (raw c) = refl
part_spelled _ = refl

part_meant : (l : Letter) → meant (part_of l) ≡ letter_means l
unfolding part_of
part_meant (raw c) = refl
part_meant _ = refl

parts_spelled : (ls : List Letter) → spelling (parts_of ls) ≡ letters_bytes ls
unfolding spelling parts_of
parts_spelled [] = refl
parts_spelled (l ∷ ls) = ap (λ (bs : List ℕ). bs ++ spelling (parts_of ls)) (part_spelled l) ∙ ap (λ (bs : List ℕ). letter_bytes l ++ bs) (parts_spelled ls)

parts_meant : (ls : List Letter) → meaning (parts_of ls) ≡ letters_mean ls
unfolding meaning parts_of
parts_meant [] = refl
parts_meant (l ∷ ls) = ap (λ (bs : List ℕ). bs ++ meaning (parts_of ls)) (part_meant l) ∙ ap (λ (bs : List ℕ). letter_means l ++ bs) (parts_meant ls)

-- ---- they may be there

short_reads : (s : Short) → simple_escape (short_byte s) ≡ Some (short_means s ∷ [])
unfolding simple_escape
short_reads quote = refl
short_reads backslash = refl
short_reads slash = refl
short_reads backspace = refl
short_reads form_feed = refl
short_reads line_feed = refl
short_reads carriage_return = refl
short_reads tab = refl

part_stands : (l : Letter) → IsLetter l → is_kept l ≡ true → MayStand 34 (part_of l)
unfolding part_of hex_len
part_stands (raw c) h k =
    let (char, own) = and_parts (scalar c) (nat_le 32 c && not (c == 34 || c == 92)) h in
    rw char (grind (arith, nat_tests))
part_stands (short s) h k = (refl, short_reads s)
part_stands (coded a b c d) (ha, hb, hc, hd) k =
    (refl, omega arith, refl, four_digits a b c d ha hb hc hd, (grind (arith, nat_tests)))

no_turn : (l : Letter) → is_turn (part_of l) ≡ false
unfolding part_of
no_turn (raw c) = refl
no_turn _ = refl

no_fold : (l : Letter) → is_fold (part_of l) ≡ false
unfolding part_of
no_fold (raw c) = refl
no_fold _ = refl

next_follows : (l : Letter) (ls : List Letter) → may_be_next (part_of l) (parts_of ls) ≡ true
unfolding parts_of
next_follows l [] = refl
next_follows l (m ∷ ls) = rw (no_fold m, no_turn l, and-false (is_raw_blank (part_of m))) refl

parts_stand : (ls : List Letter) → AreLetters ls → are_kept ls ≡ true → IsSpelling 34 (parts_of ls)
unfolding IsSpelling parts_of
parts_stand [] h k = tt
parts_stand (l ∷ ls) (h, hs) k =
    let (here, rest) = and_parts (is_kept l) (are_kept ls) k in
    (part_stands l h here, next_follows l ls, parts_stand ls hs rest)

-- ---- and are read

pub string_reads : (ls : List Letter) (text : List ℕ) (p : ℕ) → AreLetters ls → are_kept ls ≡ true
    → HasAt text p (string_bytes ls)
    → double_quoted_at text p ≡ Ok (letters_mean ls, p + length (string_bytes ls))
string_reads ls text p h k at =
    let same : quoted 34 (parts_of ls) ≡ string_bytes ls = ap (λ (bs : List ℕ). 34 ∷ (bs ++ 34 ∷ [])) (parts_spelled ls) in
    let there : HasAt text p (quoted 34 (parts_of ls)) = subst (λ (bs : List ℕ). HasAt text p bs) (sym same) at in
    let R : List ℕ → List ℕ → Type 0 = λ v bs. double_quoted_at text p ≡ Ok (v, p + length bs) in
    let read : R (meaning (parts_of ls)) (quoted 34 (parts_of ls)) = spelling_reads (parts_of ls) text p (parts_stand ls h k) there in
    subst (λ (v : List ℕ). R v (string_bytes ls)) (parts_meant ls) (subst (λ (bs : List ℕ). R (meaning (parts_of ls)) bs) same read)
