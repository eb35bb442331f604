-- How characters are spelled in bytes, and the text that bytes spell: what decoding turns round.
use Rattle.std.specs.Prelude.{ℕ, ◌/◌, ◌%◌, ◌≡◌, List, [], ◌∷◌, ◌++◌, drop, encode_utf8, encode_utf8_all}
use Rattle.std.specs.List.{AllPass}
use Rattle.std.specs.Char.Escape.{encode_utf16}
use Rattle.yaml_scan_model.specs.declared.name.yaml_encoding_t.{yaml_encoding_t}
use Rattle.yaml_scan_model.specs.declared.name.yaml_encoding_t.TheVariants.{YAML_ANY_ENCODING, YAML_UTF8_ENCODING, YAML_UTF16LE_ENCODING, YAML_UTF16BE_ENCODING}
use Rattle.yaml_scan_decode.specs.declared.utf16.ByteOrder.{ByteOrder}
use Rattle.yaml_scan_decode.specs.declared.utf16.ByteOrder.TheVariants.{LowFirst, HighFirst}
use Rattle.yaml_scan_decode.specs.Encodings.{encoding_of, mark_length}
use Rattle.yaml_scan_decode.specs.Characters.{is_allowed}

-- the two bytes of a 16-bit unit
abbrev pub unit_bytes : ByteOrder → ℕ → List ℕ
unit_bytes LowFirst u = u % 256 ∷ u / 256 ∷ []
unit_bytes HighFirst u = u / 256 ∷ u % 256 ∷ []

abbrev pub units_bytes : ByteOrder → List ℕ → List ℕ
units_bytes order [] = []
units_bytes order (u ∷ us) = unit_bytes order u ++ units_bytes order us

-- the bytes that spell a character
abbrev pub spelling : yaml_encoding_t → ℕ → List ℕ
spelling YAML_ANY_ENCODING c = encode_utf8 c
spelling YAML_UTF8_ENCODING c = encode_utf8 c
spelling YAML_UTF16LE_ENCODING c = units_bytes LowFirst (encode_utf16 c)
spelling YAML_UTF16BE_ENCODING c = units_bytes HighFirst (encode_utf16 c)

-- the bytes that spell the characters, one after the other
abbrev pub spellings : yaml_encoding_t → List ℕ → List ℕ
spellings encoding [] = []
spellings encoding (c ∷ cs) = spelling encoding c ++ spellings encoding cs

-- after a mark that is removed, the bytes spell characters that a stream may hold, and these are the text in UTF-8
pub record Spells (setting : yaml_encoding_t) (bytes text : List ℕ) : Type 0 where
  pub characters : List ℕ
  pub allowed : AllPass is_allowed characters
  pub spelled : drop (mark_length setting bytes) bytes ≡ spellings (encoding_of setting bytes)
      characters
  pub is : text ≡ encode_utf8_all characters

-- the bytes spell no text
abbrev pub SpellsNothing : yaml_encoding_t → List ℕ → Type 0
SpellsNothing setting bytes = (text : List ℕ) → Spells setting bytes text → ⊥
