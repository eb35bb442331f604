-- Runs of alphas.
use Rattle.std.specs.Prelude.{ℕ, ◌<◌, ◌≤◌, ◌≡◌, true, List, length}
use Rattle.yaml_scan_types.specs.Marks.{byte}
use Rattle.yaml_scan_types.specs.Classes.{is_alpha_byte}
use Rattle.yaml_scan_history.specs.Runs.{run_end}
use Rattle.yaml_scan_history.specs.declared.run.Run.TheVariants as runs

-- a run of alphas, no longer one
pub record AreAlphas (text : List ℕ) (p q : ℕ) : Type 0 where
  pub end : q ≡ run_end runs.Alphas text p
  pub forward : p ≤ q
  pub inside : q ≤ length text
  pub each : (k : ℕ) → p ≤ k → k < q → is_alpha_byte (byte text k) ≡ true
