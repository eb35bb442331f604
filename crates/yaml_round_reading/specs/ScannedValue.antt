-- An input's tokens as clauses see them.
use Rattle.std.specs.Prelude.{ℕ, Bool, List, Option}
use Rattle.yaml_scan_laws.specs.scan_history.Remaining.{Remaining}
use Rattle.yaml_scan_model.specs.Texts.{Texts}

-- What is to come, whether a fault was reported as what is next or a token, the texts of the token
-- that was taken last, and the text in which places have their marks.
pub record ScannedValue : Type 0 where
  pub coming : Remaining
  pub told : Option Bool
  pub texts : Texts
  pub text : List ℕ
