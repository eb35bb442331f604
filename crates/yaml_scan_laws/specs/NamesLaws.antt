-- How the tokens of every input are spelled.
use Rattle.std.specs.Prelude.{ℕ, List}
use Rattle.yaml_scan_history.specs.scan_model.declared.name.yaml_encoding_t.{yaml_encoding_t}
use Rattle.yaml_scan_history.specs.Remaining.{SpelledText, remaining}
use Rattle.yaml_scan_history.specs.Scanned.{scanned}
use Rattle.yaml_scan_laws.specs.Spelled.{AreSpelled}

-- Each token that is still to come of a text is well spelled.
abbrev pub TokensAreSpelled : Type 0
TokensAreSpelled = (s : SpelledText) (dropped given : ℕ)
    → AreSpelled (remaining s dropped given).tokens

-- So is each token of an input, also before its fault.
abbrev pub ScannedAreSpelled : Type 0
ScannedAreSpelled = (setting : yaml_encoding_t) (bytes : List ℕ)
    → AreSpelled (scanned setting bytes).tokens
