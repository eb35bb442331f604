-- An input, and its tokens.
use Rattle.std.specs.Prelude.{ℕ, List}
use Rattle.yaml_parse_model.specs.declared.yaml_encoding_t.{yaml_encoding_t}
use Rattle.yaml_scan_laws.specs.scan_history.Remaining.{Remaining}
use Rattle.yaml_scan_laws.specs.scan_history.Scanned.{scanned}

-- bytes, and the encoding that is set for them
pub record Input : Type 0 where
  pub from : yaml_encoding_t
  pub bytes : List ℕ

abbrev pub scanned_of : Input → Remaining
scanned_of i = scanned i.from i.bytes
