-- How a text is spelled in bytes is no part of what it says.
use Rattle.std.specs.Prelude.{◌≡◌, ℕ, List, [], ◌++◌}
use Rattle.std.specs.List.{AllPass}
use Rattle.yaml_parse_model.specs.scan_types.Points as points
use Rattle.yaml_parse_model.specs.scan_model.declared.name.yaml_encoding_t.{yaml_encoding_t}
use Rattle.yaml_parse_model.specs.scan_model.declared.name.yaml_encoding_t.TheVariants.{YAML_ANY_ENCODING, YAML_UTF8_ENCODING, YAML_UTF16LE_ENCODING, YAML_UTF16BE_ENCODING}
use Rattle.yaml_scan_laws.specs.scan_decode.Characters.{is_allowed}
use Rattle.yaml_scan_laws.specs.scan_decode.Encodings.{mark_length}
use Rattle.yaml_scan_laws.specs.scan_decode.Spelling.{Spells, spellings}
use Rattle.yaml_round_content.specs.Events.{contents}
use Rattle.yaml_round_content.specs.Input.{events_of, ending_of}

-- Both have the same content, as far as they are read, and both are accepted, or refused by the
-- same fault.
abbrev pub AreReadAlike : yaml_encoding_t → List ℕ → yaml_encoding_t → List ℕ → Type 0
AreReadAlike a_from a b_from b = (contents (events_of a_from a) ≡ contents (events_of b_from b))
    × (ending_of a_from a ≡ ending_of b_from b)

-- Bytes that spell one text are read alike, whatever their encodings and byte order marks.
abbrev pub EncodingsDoNotMatter : Type 0
EncodingsDoNotMatter = (a_from b_from : yaml_encoding_t) (a b text : List ℕ)
    → Spells a_from a text → Spells b_from b text → AreReadAlike a_from a b_from b

-- ---- of characters

abbrev pub IsNamed : yaml_encoding_t → Type 0
IsNamed YAML_ANY_ENCODING = ⊥
IsNamed YAML_UTF8_ENCODING = Unit {0}
IsNamed YAML_UTF16LE_ENCODING = Unit {0}
IsNamed YAML_UTF16BE_ENCODING = Unit {0}

-- the byte order mark of an encoding
abbrev pub mark_of : yaml_encoding_t → List ℕ
mark_of YAML_ANY_ENCODING = []
mark_of YAML_UTF8_ENCODING = points.byte_order_mark_utf8
mark_of YAML_UTF16LE_ENCODING = points.byte_order_mark_low_first
mark_of YAML_UTF16BE_ENCODING = points.byte_order_mark_high_first

-- Characters that a stream may hold, spelled in two encodings. Where none is named, a mark says it,
-- and without a mark it is UTF-8.
pub record CharactersAreEnough : Type 0 where
  pub named : (cs : List ℕ) → AllPass is_allowed cs → (x y : yaml_encoding_t) → IsNamed x
      → IsNamed y → AreReadAlike x (spellings x cs) y (spellings y cs)
  pub marked : (cs : List ℕ) → AllPass is_allowed cs → (x : yaml_encoding_t) → IsNamed x
      → AreReadAlike YAML_ANY_ENCODING (mark_of x ++ spellings x cs) x (spellings x cs)
  pub unmarked : (cs : List ℕ) → AllPass is_allowed cs
      → mark_length YAML_ANY_ENCODING (spellings YAML_UTF8_ENCODING cs) ≡ 0
      → AreReadAlike YAML_ANY_ENCODING (spellings YAML_UTF8_ENCODING cs) YAML_UTF8_ENCODING
      (spellings YAML_UTF8_ENCODING cs)
