-- JSON is read as JSON.
use Rattle.std.specs.Prelude.{◌≡◌, ℕ, Bool, true, false, List, [], ◌∷◌, Ok}
use Rattle.yaml_round_content.specs.scan_model.declared.name.yaml_encoding_t.{yaml_encoding_t}
use Rattle.yaml_round_content.specs.scan_model.declared.name.yaml_encoding_t.TheVariants.{YAML_ANY_ENCODING, YAML_UTF8_ENCODING, YAML_UTF16LE_ENCODING, YAML_UTF16BE_ENCODING}
use Rattle.yaml_scan_decode.specs.Spelling.{Spells}
use Rattle.yaml_round_content.specs.Reading.{PlainReading}
use Rattle.yaml_round_content.specs.KeptLaws.{IsJsonInput}
use Rattle.yaml_round_laws.specs.Grammar.{Text, IsJsonText}
use Rattle.yaml_round_laws.specs.Values.{Json, json_value, json_content, json_document}
use Rattle.yaml_round_laws.specs.Exceptions.{IsUsualText}

-- UTF-8 is named, or no encoding
abbrev pub may_be_utf8 : yaml_encoding_t → Bool
may_be_utf8 YAML_ANY_ENCODING = true
may_be_utf8 YAML_UTF8_ENCODING = true
may_be_utf8 YAML_UTF16LE_ENCODING = false
may_be_utf8 YAML_UTF16BE_ENCODING = false

-- The input is accepted, and its content is that value. Its events are shaped as JSON: strings are
-- double quoted, literals and numbers plain, and all else is in brackets.
pub record IsReadAsValue (from : yaml_encoding_t) (input : List ℕ) (v : Json) : Type 0 where
  pub reading : PlainReading from input (Ok (json_content v ∷ []))
  pub shaped : IsJsonInput from input
  pub styled : shaped.document ≡ json_document v

-- Every JSON text without exceptions is read as its value.
pub record JsonIsRead : Type 0 where
  -- bytes in UTF-8
  pub in_utf8 : (from : yaml_encoding_t) → may_be_utf8 from ≡ true → (bytes : List ℕ) (t : Text)
      → IsJsonText bytes t → IsUsualText t → IsReadAsValue from bytes (json_value t.value)
  -- bytes that spell it in whichever encoding, after a byte order mark or without one
  pub spelled : (from : yaml_encoding_t) (input text : List ℕ) (t : Text) → Spells from input text
      → IsJsonText text t → IsUsualText t → IsReadAsValue from input (json_value t.value)
  -- it has one value
  pub one : (text : List ℕ) (t u : Text) → IsJsonText text t → IsUsualText t → IsJsonText text u
      → IsUsualText u → json_value t.value ≡ json_value u.value
