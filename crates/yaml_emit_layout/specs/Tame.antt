-- Texts that are written as they are where they fit their line: plain ones, which allow every style, and ones in double quotes.
use Rattle.std.specs.Prelude.{◌≡◌, ℕ, List, true, false}
use Rattle.std.specs.List.{list_all}
use Rattle.yaml_emit_layout.specs.Runs.{is_calm}
use Rattle.yaml_emit_layout.specs.Style.{ends_in_space, starts_badly}

-- each byte is calm, and the text begins well and ends in no space
pub record IsTame (value : List ℕ) : Type 0 where
  pub calm : list_all is_calm value ≡ true
  pub starts : starts_badly value ≡ false
  pub ends : ends_in_space value ≡ false
