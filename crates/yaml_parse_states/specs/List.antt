-- A list of tokens and the fault that ends it.
use Rattle.std.specs.Prelude.{List, Option}
use Rattle.yaml_scan_model.specs.scan_types.Tokens.{Token}
use Rattle.yaml_scan_model.specs.scan_types.Faults.{Fault}

pub record TokenList : Type 0 where
  pub tokens : List Token
  pub fault : Option Fault
