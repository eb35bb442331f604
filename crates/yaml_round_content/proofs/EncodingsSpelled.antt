-- What characters spell, in an encoding that is named or after its mark.
use Rattle.std.proofs.Common.{◌≡◌, ℕ, ◌||◌, Bool, if◌then◌else◌, List, ◌++◌, encode_utf8_all, arith}
use Rattle.yaml_round_content.proofs.Words.{nat_tests, AllPass, yaml_encoding_t, YAML_ANY_ENCODING, YAML_UTF8_ENCODING, YAML_UTF16LE_ENCODING, YAML_UTF16BE_ENCODING, is_allowed, encoding_of, mark_length, Spells, EncodingsDoNotMatter, begins_low_first, begins_high_first, begins_utf8, spellings, CharactersAreEnough, IsNamed}
use Rattle.yaml_round_content.specs.EncodingsLaws.{mark_of}

named_spells : (cs : List ℕ) → AllPass is_allowed cs → (x : yaml_encoding_t) → IsNamed x
    → Spells x (spellings x cs) (encode_utf8_all cs)
unfolding encoding_of mark_length
named_spells cs h x n = grind (arith, nat_tests)

marked_spells : (cs : List ℕ) → AllPass is_allowed cs → (x : yaml_encoding_t) → IsNamed x
    → Spells YAML_ANY_ENCODING (mark_of x ++ spellings x cs) (encode_utf8_all cs)
unfolding encoding_of mark_length
marked_spells cs h x n = grind (arith, nat_tests)

abbrev length_by : Bool → Bool → Bool → ℕ
length_by low high utf8 = if low || high then 2 else if utf8 then 3 else 0

no_mark_told : (low high utf8 : Bool) → length_by low high utf8 ≡ 0
    → (if low then YAML_UTF16LE_ENCODING else if high then YAML_UTF16BE_ENCODING else
    YAML_UTF8_ENCODING) ≡ YAML_UTF8_ENCODING
no_mark_told low high utf8 e = grind (arith, nat_tests)

unmarked_told : (bytes : List ℕ) → mark_length YAML_ANY_ENCODING bytes ≡ 0
    → encoding_of YAML_ANY_ENCODING bytes ≡ YAML_UTF8_ENCODING
unfolding encoding_of mark_length
unmarked_told bytes e = no_mark_told (begins_low_first bytes) (begins_high_first bytes) (begins_utf8 bytes) e

unmarked_spells : (cs : List ℕ) → AllPass is_allowed cs
    → mark_length YAML_ANY_ENCODING (spellings YAML_UTF8_ENCODING cs) ≡ 0
    → Spells YAML_ANY_ENCODING (spellings YAML_UTF8_ENCODING cs) (encode_utf8_all cs)
unmarked_spells cs h none = grind (arith, nat_tests, unmarked_told)

pub characters_enough : EncodingsDoNotMatter → CharactersAreEnough
characters_enough law = record {
  named = λ cs h x y n m. law x y (spellings x cs) (spellings y cs) (encode_utf8_all cs) (named_spells cs h x n) (named_spells cs h y m);
  marked = λ cs h x n. law YAML_ANY_ENCODING x (mark_of x ++ spellings x cs) (spellings x cs) (encode_utf8_all cs) (marked_spells cs h x n) (named_spells cs h x n);
  unmarked = λ cs h none. law YAML_ANY_ENCODING YAML_UTF8_ENCODING (spellings YAML_UTF8_ENCODING cs) (spellings YAML_UTF8_ENCODING cs) (encode_utf8_all cs) (unmarked_spells cs h none) (named_spells cs h YAML_UTF8_ENCODING tt);
}
