-- What an input decodes to is UTF-8, and so are the texts of the tokens that a parser takes.
use Rattle.std.proofs.Common.{◌≡◌, ℕ, zero, suc, ◌+◌, ◌-◌, ◌*◌, Bool, true, false, not, ◌&&◌, ◌||◌, ◌==◌, nat_lt, if◌then◌else◌, List, length, Result, Ok, Err, refl, IsUtf8, All}
use Rattle.std.specs.Char.{IsScalar}
use Rattle.yaml_round_content.proofs.Words.{all_scalars, All-nil, yaml_encoding_t, YAML_UTF16LE_ENCODING, YAML_UTF16BE_ENCODING, Token, scanned_in, tokens_of, adapted, Offence, encoding_of, mark_length, is_allowed, decoded_text, width_of, between, is_low_surrogate, is_high_surrogate, is_trailing, allowed_at, valued_at, least_code, sequence_of, utf8_code, utf8_of, utf16_of, character_at, led_by, characters, in_utf8, decoded_characters}
use Rattle.yaml_parse_model.specs.Source as source
use Rattle.yaml_round_content.proofs.AdaptedLemmas.{adapted_utf8}
use Rattle.yaml_scan_laws.specs.scan_decode.declared.offence.Character.{Character}
use Rattle.yaml_scan_laws.specs.scan_decode.Decoding.{before}
use Rattle.yaml_scan_laws.proofs.SpellingLemmas.{allowed_scalar}

-- ---- a character

-- one that is read is one that a stream may hold
abbrev MayStand : Result Character Offence → Type 0
MayStand (Ok ch) = is_allowed ch.code ≡ true
MayStand (Err o) = Unit {0}

either : (t : Bool) (x y : Result Character Offence) → MayStand x → MayStand y
    → MayStand (if t then x else y)
either true x y h k = h
either false x y h k = k

chosen : (t : Bool) (ch : Character) (o : Offence) → is_allowed ch.code ≡ t
    → MayStand (if t then Ok ch else Err o)
chosen true ch o e = e
chosen false ch o e = tt

allowed_stands : (p width code : ℕ) → MayStand (allowed_at p width code)
unfolding allowed_at
allowed_stands p width code = chosen (is_allowed code) (record { code = code; width = width }) _ refl

valued_stands : (p width code : ℕ) → MayStand (valued_at p width code)
unfolding valued_at
valued_stands p width code = either (nat_lt code (least_code width)) _ _ tt (either (between 0xD800 0xDFFF code || nat_lt 0x10_FFFF code) _ _ tt (allowed_stands p width code))

sequence_stands : (width p b c d e : ℕ) → MayStand (sequence_of width p b c d e)
unfolding sequence_of
sequence_stands width p b c d e =
    either (nat_lt 1 width && not (is_trailing c)) _ _ tt
    (either (nat_lt 2 width && not (is_trailing d)) _ _ tt (either (nat_lt 3 width && not (is_trailing e)) _ _ tt (valued_stands p width (utf8_code width b c d e))))

utf8_stands : (left p b c d e : ℕ) → MayStand (utf8_of left p b c d e)
unfolding utf8_of
utf8_stands left p b c d e = either (width_of b == 0) _ _ tt (either (nat_lt left (width_of b)) _ _ tt (sequence_stands (width_of b) p b c d e))

utf16_stands : (left p u v : ℕ) → MayStand (utf16_of left p u v)
unfolding utf16_of
utf16_stands left p u v =
    either (nat_lt left 2) _ _ tt
    (either (is_low_surrogate u) _ _ tt
    (either (not (is_high_surrogate u)) _ _ (allowed_stands p 2 u)
    (either (nat_lt left 4) _ _ tt (either (not (is_low_surrogate v)) _ _ tt (allowed_stands p 4 (0x1_0000 + (u - 0xD800) * 0x400 + (v - 0xDC00)))))))

character_stands : (e : yaml_encoding_t) (bytes : List ℕ) (p : ℕ)
    → MayStand (character_at e bytes p)
character_stands YAML_UTF16LE_ENCODING bytes p = utf16_stands _ p _ _
character_stands YAML_UTF16BE_ENCODING bytes p = utf16_stands _ p _ _
character_stands _ bytes p = utf8_stands _ p _ _ _ _

-- ---- a text

abbrev AreScalars : Result (List ℕ) Offence → Type 0
AreScalars (Ok cs) = all_scalars cs ≡ true
AreScalars (Err o) = Unit {0}

one_of : (t : Bool) (x y : Result (List ℕ) Offence) → AreScalars x → AreScalars y
    → AreScalars (if t then x else y)
one_of true x y h k = h
one_of false x y h k = k

one_more : (c : ℕ) (r : Result (List ℕ) Offence) → is_allowed c ≡ true → AreScalars r
    → AreScalars (before c r)
one_more c (Ok cs) h k =
    let own : IsScalar c = allowed_scalar c h in
    let rest : all_scalars cs ≡ true = k in
    rw (own, rest) refl
one_more c (Err o) h k = tt

led_scalars : (rest : ℕ → Result (List ℕ) Offence) (p : ℕ) (r : Result Character Offence)
    → MayStand r → ((q : ℕ) → AreScalars (rest q)) → AreScalars (led_by rest p r)
led_scalars rest p (Ok ch) h more = one_more ch.code (rest (p + ch.width)) h (more (p + ch.width))
led_scalars rest p (Err o) h more = tt

are_scalars : (n : ℕ) (e : yaml_encoding_t) (bytes : List ℕ) (p : ℕ)
    → AreScalars (characters n e bytes p)
unfolding characters
are_scalars zero e bytes p = refl
are_scalars (suc n) e bytes p =
    one_of (nat_lt p (length bytes)) _ _ (led_scalars (characters n e bytes) p (character_at e bytes p) (character_stands e bytes p) (λ q. are_scalars n e bytes q)) refl

abbrev IsText : Result (List ℕ) Offence → Type 0
IsText (Ok text) = IsUtf8 text
IsText (Err o) = Unit {0}

is_text : (r : Result (List ℕ) Offence) → AreScalars r → IsText (in_utf8 r)
is_text (Ok cs) h = (cs, (h, refl))
is_text (Err o) h = tt

-- ---- tokens

utf8_in : (encoding : yaml_encoding_t) (r : Result (List ℕ) Offence) → IsText r
    → All (λ (t : Token). source.HasUtf8 t.body) (adapted (scanned_in encoding r)).tokens
utf8_in encoding (Ok text) h = adapted_utf8 record { encoding = encoding; text = text } h 0 0
utf8_in encoding (Err o) h = All-nil (λ (t : Token). source.HasUtf8 t.body)

pub tokens_utf8 : (from : yaml_encoding_t) (input : List ℕ)
    → All (λ (t : Token). source.HasUtf8 t.body) (tokens_of from input).tokens
tokens_utf8 from input = utf8_in (encoding_of from input) (decoded_text from input) (is_text (decoded_characters from input) (are_scalars (length input) (encoding_of from input) input (mark_length from input)))
