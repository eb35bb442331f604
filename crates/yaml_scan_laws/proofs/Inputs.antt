-- The tokens of an input are well spelled.
use Rattle.std.proofs.Common.{ℕ, List, Result, arith}
use Rattle.yaml_scan_history.specs.scan_model.declared.name.yaml_encoding_t.{yaml_encoding_t}
use Rattle.yaml_scan_history.specs.scan_decode.Encodings.{encoding_of}
use Rattle.yaml_scan_history.specs.scan_decode.Decoding.{decoded_text}
use Rattle.yaml_scan_history.specs.Scanned.{scanned_in, scanned}
use Rattle.yaml_scan_laws.proofs.TextWords.{nat_tests, AreSpelled}
use Rattle.yaml_scan_laws.proofs.TokensSpelled.{remaining_spelled}

-- of a decoded text, or of none
spelled_in : (encoding : yaml_encoding_t) (r : Result (List ℕ) _)
    → AreSpelled (scanned_in encoding r).tokens
spelled_in encoding r = grind (arith, nat_tests, remaining_spelled)

-- The tokens of a scanned input are spelled.
pub scanned_spelled : (setting : yaml_encoding_t) (bytes : List ℕ)
    → AreSpelled (scanned setting bytes).tokens
scanned_spelled setting bytes = spelled_in (encoding_of setting bytes) (decoded_text setting bytes)
