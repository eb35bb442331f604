-- Whether an input loads.
use Rattle.std.specs.Prelude.{◌≡◌, ℕ, List, Option, Result, Ok, Err}
use Rattle.yaml_parse.specs.declared.yaml_encoding_t.{yaml_encoding_t}
use Rattle.yaml_scan_types.specs.Faults.{Fault}
use Rattle.yaml_parse.specs.Documents.{Document}
use Rattle.yaml_parse.specs.Remaining.{ParserRemaining}
use Rattle.yaml_parse.specs.Loading.{Loading}
use Rattle.yaml_round_content.specs.Loads.{load_all}
use Rattle.yaml_round_content.specs.PlainLoading.{PlainLoading}
use Rattle.yaml_round_engine.specs.declared.known.Known.{Known}
use Rattle.yaml_round_engine.specs.Knowing.{IsKnown}

-- The input loads, or the fault that loading its tokens ends in, the one of the least place.
abbrev pub IsChecked : yaml_encoding_t → List ℕ → Result (Unit {0}) Fault → Type 0
IsChecked from input (Ok done) = (documents : List Document)
    × PlainLoading from input (Ok documents)
IsChecked from input (Err fault) = PlainLoading from input (Err fault)

-- ---- the steps

-- what is to come of a parser's events ends in that fault, as some document in the making of which that is known is loaded on
abbrev pub LoadsOn : Known → ParserRemaining → Option Fault → Type 0
LoadsOn k c fault = (l : Loading) × (IsKnown k l × ((load_all c.events c.ending l).fault ≡ fault))
