-- What clauses see of a decoded text, and of a refusal.
use Rattle.std.specs.Prelude.{ℕ, Bool, true, false, List, Option, option_map, Result}
use Rattle.std.specs.Result.{result_err}
use Rattle.yaml_scan_model.specs.declared.name.yaml_encoding_t.{yaml_encoding_t}
use Rattle.yaml_scan_model.specs.declared.name.yaml_encoding_t.TheVariants.{YAML_ANY_ENCODING, YAML_UTF8_ENCODING, YAML_UTF16LE_ENCODING, YAML_UTF16BE_ENCODING}
use Rattle.yaml_scan_types.specs.Faults.{Fault}
use Rattle.yaml_scan_decode.specs.declared.offence.Offence.{Offence}
use Rattle.yaml_scan_decode.specs.declared.decode.yaml_text_t.{yaml_text_t}
use Rattle.yaml_scan_decode.specs.declared.decode.yaml_text_t.TheVariants.{Borrowed, Owned}
use Rattle.yaml_scan_decode.specs.Offences.{reader_fault}
use Rattle.yaml_scan_decode.specs.Decoding.{first_offence}

-- the bytes of a decoded text
abbrev pub text_bytes : yaml_text_t → List ℕ
text_bytes (Borrowed bytes) = bytes.now
text_bytes (Owned bytes) = bytes.items

-- the text is a part of the input
abbrev pub is_borrowed : yaml_text_t → Bool
is_borrowed (Borrowed bytes) = true
is_borrowed (Owned bytes) = false

-- the bytes are UTF-8
abbrev pub is_utf8 : yaml_encoding_t → Bool
is_utf8 YAML_ANY_ENCODING = true
is_utf8 YAML_UTF8_ENCODING = true
is_utf8 YAML_UTF16LE_ENCODING = false
is_utf8 YAML_UTF16BE_ENCODING = false

-- the reader fault of the offence, where there is one
abbrev pub fault_in : Result (List ℕ) Offence → Option Fault
fault_in r = option_map reader_fault (result_err r)

-- the reader fault of the first offence, where the bytes spell no text
abbrev pub decoding_fault : yaml_encoding_t → List ℕ → Option Fault
decoding_fault setting bytes = option_map reader_fault (first_offence setting bytes)
