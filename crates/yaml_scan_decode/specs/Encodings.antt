-- The encoding of a stream, and the byte order mark that is removed (YAML 1.1, 5.2).
use Rattle.std.specs.Prelude.{ℕ, Bool, ◌||◌, if◌then◌else◌, List, nat_eq}
use Rattle.std.specs.List.{starts_with}
use Rattle.yaml_scan_types.specs.Points as points
use Rattle.yaml_scan_model.specs.declared.name.yaml_encoding_t.{yaml_encoding_t}
use Rattle.yaml_scan_model.specs.declared.name.yaml_encoding_t.TheVariants.{YAML_ANY_ENCODING, YAML_UTF8_ENCODING, YAML_UTF16LE_ENCODING, YAML_UTF16BE_ENCODING}

-- U+FEFF in UTF-16, the low byte first, in UTF-16, the high byte first, and in UTF-8
abbrev pub begins_low_first : List ℕ → Bool
begins_low_first bytes = starts_with nat_eq bytes points.byte_order_mark_low_first

abbrev pub begins_high_first : List ℕ → Bool
begins_high_first bytes = starts_with nat_eq bytes points.byte_order_mark_high_first

abbrev pub begins_utf8 : List ℕ → Bool
begins_utf8 bytes = starts_with nat_eq bytes points.byte_order_mark_utf8

-- the encoding of the bytes: the set one, else the one that a mark shows, else UTF-8
unfoldable pub encoding_of : yaml_encoding_t → List ℕ → yaml_encoding_t
encoding_of YAML_ANY_ENCODING bytes =
    if begins_low_first bytes then YAML_UTF16LE_ENCODING
    else if begins_high_first bytes then YAML_UTF16BE_ENCODING
    else YAML_UTF8_ENCODING
encoding_of YAML_UTF8_ENCODING bytes = YAML_UTF8_ENCODING
encoding_of YAML_UTF16LE_ENCODING bytes = YAML_UTF16LE_ENCODING
encoding_of YAML_UTF16BE_ENCODING bytes = YAML_UTF16BE_ENCODING

-- how many bytes the mark has that is removed; with a set encoding nothing is
unfoldable pub mark_length : yaml_encoding_t → List ℕ → ℕ
mark_length YAML_ANY_ENCODING bytes =
    if begins_low_first bytes || begins_high_first bytes then 2
    else if begins_utf8 bytes then 3
    else 0
mark_length YAML_UTF8_ENCODING bytes = 0
mark_length YAML_UTF16LE_ENCODING bytes = 0
mark_length YAML_UTF16BE_ENCODING bytes = 0
