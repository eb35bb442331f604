-- The tokens of an input, and the fault that ends them.
use Rattle.std.specs.Prelude.{ℕ, List, [], Some, Result, Ok, Err}
use Rattle.yaml_scan_model.specs.declared.name.yaml_encoding_t.{yaml_encoding_t}
use Rattle.yaml_scan_decode.specs.declared.offence.Offence.{Offence}
use Rattle.yaml_scan_decode.specs.Encodings.{encoding_of}
use Rattle.yaml_scan_decode.specs.Offences.{reader_fault}
use Rattle.yaml_scan_decode.specs.Decoding.{decoded_text}
use Rattle.yaml_scan_history.specs.Remaining.{Remaining, offline}

-- the tokens of a decoded text, or the fault of its decoding alone
abbrev pub scanned_in : yaml_encoding_t → Result (List ℕ) Offence → Remaining
scanned_in encoding (Ok text) = offline record { encoding = encoding; text = text }
scanned_in encoding (Err o) = record { tokens = []; fault = Some (reader_fault o) }

-- the tokens of bytes in that encoding
abbrev pub scanned : yaml_encoding_t → List ℕ → Remaining
scanned setting bytes = scanned_in (encoding_of setting bytes) (decoded_text setting bytes)
