-- A layout's bytes spell its characters.
use Rattle.std.proofs.Common.{◌≡◌, ℕ, ◌+◌, ◌-◌, ◌/◌, ◌%◌, Bool, nat_lt, List, [], ◌∷◌, ◌++◌, refl, ap, ◌∙◌, encode_utf8, encode_utf8_all, if◌then◌else◌, arith}
use Rattle.yaml_round_content.proofs.ReadBackWords.{nat_tests, YAML_UTF8_ENCODING, YAML_UTF16LE_ENCODING, YAML_UTF16BE_ENCODING, spelling, spellings, units_bytes, Utf8, Utf16Le, Utf16Be, Item, letter, deep, char_bytes, unit_bytes, encode, shown}
use Rattle.yaml_emit_laws.specs.scan_decode.declared.utf16.ByteOrder.TheVariants.{LowFirst, HighFirst}
use Rattle.yaml_emit_laws.proofs.Back.{char_encodes}

-- In UTF-8 a text is what is shown of it.
pub bytes_8 : (t : List Item) → encode Utf8 t ≡ encode_utf8_all (shown t)
unfolding encode shown
bytes_8 [] = refl
bytes_8 (letter c ∷ t) = ap (λ (b : List ℕ). b ++ encode Utf8 t) (char_encodes c) ∙ ap (λ (b : List ℕ). encode_utf8 c ++ b) (bytes_8 t)
bytes_8 (deep ∷ t) = bytes_8 t

pub low_units : (b : Bool) (c x y : ℕ)
    → (if b then unit_bytes Utf16Le c else unit_bytes Utf16Le x ++ unit_bytes Utf16Le y)
    ≡ units_bytes LowFirst (if b then c ∷ [] else x ∷ y ∷ [])
low_units b c x y = grind (arith, nat_tests)

pub high_units : (b : Bool) (c x y : ℕ)
    → (if b then unit_bytes Utf16Be c else unit_bytes Utf16Be x ++ unit_bytes Utf16Be y)
    ≡ units_bytes HighFirst (if b then c ∷ [] else x ∷ y ∷ [])
high_units b c x y = grind (arith, nat_tests)

-- The same in UTF-16, low byte first.
pub bytes_le : (t : List Item) → encode Utf16Le t ≡ spellings YAML_UTF16LE_ENCODING (shown t)
unfolding encode shown char_bytes
bytes_le [] = refl
bytes_le (letter c ∷ t) = ap (λ (b : List ℕ). b ++ encode Utf16Le t) (low_units (nat_lt c 0x1_0000) c (0xD800 + (c - 0x1_0000) / 0x400) (0xDC00 + (c - 0x1_0000) % 0x400)) ∙ ap (λ (b : List ℕ). spelling YAML_UTF16LE_ENCODING c ++ b) (bytes_le t)
bytes_le (deep ∷ t) = bytes_le t

-- The same in UTF-16, high byte first.
pub bytes_be : (t : List Item) → encode Utf16Be t ≡ spellings YAML_UTF16BE_ENCODING (shown t)
unfolding encode shown char_bytes
bytes_be [] = refl
bytes_be (letter c ∷ t) = ap (λ (b : List ℕ). b ++ encode Utf16Be t) (high_units (nat_lt c 0x1_0000) c (0xD800 + (c - 0x1_0000) / 0x400) (0xDC00 + (c - 0x1_0000) % 0x400)) ∙ ap (λ (b : List ℕ). spelling YAML_UTF16BE_ENCODING c ++ b) (bytes_be t)
bytes_be (deep ∷ t) = bytes_be t

-- UTF-8 spells characters as its bytes.
pub bytes_utf8 : (cs : List ℕ) → spellings YAML_UTF8_ENCODING cs ≡ encode_utf8_all cs
bytes_utf8 [] = refl
bytes_utf8 (c ∷ cs) = ap (λ (b : List ℕ). encode_utf8 c ++ b) (bytes_utf8 cs)
