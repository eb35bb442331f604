-- What shows the encoding: canonical text in UTF-8 begins with no mark.
use Rattle.std.proofs.Common.{◌≡◌, ℕ, ◌<◌, true, false, List, [], ◌∷◌, drop, Option, Some, None, refl, arith, nat_eq}
use Rattle.yaml_round_content.proofs.ReadBackWords.{nat_tests, YAML_ANY_ENCODING, YAML_UTF8_ENCODING, YAML_UTF16LE_ENCODING, YAML_UTF16BE_ENCODING, yaml_version_directive_t, encoding_of, mark_length, TagDirective, Utf8, Utf16Le, Utf16Be, Settings, Item, letter, char_bytes, encode, Rest, ◌▹◌, letters, blanks, line, start, written, Document, version_text, directives_text, dashes, start_layout, stop_layout, documents_layout}
use Rattle.yaml_round_content.proofs.Bare.{canonical_settings}

-- the first byte, if there is one, is ASCII
abbrev pub BeginsLow : List ℕ → Type 0
BeginsLow [] = Unit {0}
BeginsLow (b ∷ bs) = b < 128

abbrev pub Told : List ℕ → Type 0
Told bytes = (encoding_of YAML_ANY_ENCODING bytes ≡ YAML_UTF8_ENCODING) × (mark_length YAML_ANY_ENCODING bytes ≡ 0)

pub no_mark : (bytes : List ℕ) → BeginsLow bytes → Told bytes
unfolding encoding_of mark_length
no_mark [] h = (refl, refl)
no_mark (b ∷ bs) h =
    let x : nat_eq 0xFF b ≡ false = grind (arith, nat_tests) in
    let y : nat_eq 0xFE b ≡ false = grind (arith, nat_tests) in
    let z : nat_eq 0xEF b ≡ false = grind (arith, nat_tests) in
    (rw (x, y) refl, rw (x, y, z) refl)

begins : (s : Settings) (v : Option yaml_version_directive_t) (ds : List TagDirective) (rest : Rest)
    → BeginsLow (encode Utf8 ((version_text (canonical_settings s) v ▹
    (directives_text (canonical_settings s) ds ▹ dashes (canonical_settings s))) start rest))
unfolding directives_text line blanks letters encode char_bytes
begins s (Some v) ds rest = omega arith
begins s None (d ∷ ds) rest = omega arith
begins s None [] rest = omega arith

pub text_begins : (s : Settings) (ds : List Document)
    → BeginsLow (encode Utf8 (written (documents_layout (canonical_settings s) true false ds)))
unfolding documents_layout stop_layout start_layout encode
text_begins s [] = tt
text_begins s (d ∷ ds) = begins s d.opening.version d.opening.directives _

-- ---- UTF-16

-- The mark of UTF-16LE is found.
pub low_told : (t : List Item)
    → encoding_of YAML_ANY_ENCODING (encode Utf16Le (letter 0xFEFF ∷ t)) ≡ YAML_UTF16LE_ENCODING
unfolding encoding_of encode char_bytes
low_told t = refl

-- After the mark of UTF-16LE comes the text.
pub low_behind : (t : List Item)
    → drop (mark_length YAML_ANY_ENCODING (encode Utf16Le (letter 0xFEFF ∷ t)))
    (encode Utf16Le (letter 0xFEFF ∷ t)) ≡ encode Utf16Le t
unfolding mark_length encode char_bytes
low_behind t = refl

-- The mark of UTF-16BE is found.
pub high_told : (t : List Item)
    → encoding_of YAML_ANY_ENCODING (encode Utf16Be (letter 0xFEFF ∷ t)) ≡ YAML_UTF16BE_ENCODING
unfolding encoding_of encode char_bytes
high_told t = refl

-- After the mark of UTF-16BE comes the text.
pub high_behind : (t : List Item)
    → drop (mark_length YAML_ANY_ENCODING (encode Utf16Be (letter 0xFEFF ∷ t)))
    (encode Utf16Be (letter 0xFEFF ∷ t)) ≡ encode Utf16Be t
unfolding mark_length encode char_bytes
high_behind t = refl
