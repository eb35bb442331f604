-- Runs of bytes that go together.
use Rattle.std.specs.Prelude.{ℕ, zero, suc, ◌+◌, Bool, if◌then◌else◌, List, length}
use Rattle.yaml_scan_history.specs.declared.run.Run.{Run}
use Rattle.yaml_scan_history.specs.declared.run.Run.TheVariants as runs
use Rattle.yaml_scan_model.specs.scan_types.Classes.{is_alpha, is_digit, is_blank}

-- what is there belongs to the run
unfoldable pub belongs : Run → List ℕ → ℕ → Bool
belongs runs.Alphas text p = is_alpha text p
belongs runs.Digits text p = is_digit text p
belongs runs.Blanks text p = is_blank text p

-- the place after the run that is there, of at most n bytes
unfoldable pub run_within : ℕ → Run → List ℕ → ℕ → ℕ
run_within zero run text p = p
run_within (suc n) run text p = if belongs run text p then run_within n run text (p + 1) else p

-- the place after the run that is there
abbrev pub run_end : Run → List ℕ → ℕ → ℕ
run_end run text p = run_within (length text) run text p
