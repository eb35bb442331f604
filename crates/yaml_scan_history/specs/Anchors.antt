-- Anchors and aliases.
use Rattle.std.specs.Prelude.{ℕ, ◌+◌, Bool, not, ◌||◌, ◌==◌, if◌then◌else◌, List, slice_range, Result, Ok, Err}
use Rattle.yaml_scan_model.specs.scan_types.Ascii as ascii
use Rattle.yaml_scan_history.specs.declared.run.Run.TheVariants as runs
use Rattle.yaml_scan_history.specs.Runs.{run_end}
use Rattle.yaml_scan_model.specs.declared.problem.Context.{Context}
use Rattle.yaml_scan_model.specs.declared.problem.Problem.TheVariants as problems
use Rattle.yaml_scan_model.specs.scan_types.Marks.{byte, is_blank_or_end}
use Rattle.yaml_scan_model.specs.Wrong.{Wrong}

-- one of ``? : , ] } % @ ` ``
abbrev pub is_name_end : ℕ → Bool
is_name_end b = b == ascii.question || (b == ascii.colon
    || (b == ascii.comma || (b == ascii.close_bracket
    || (b == ascii.close_brace
    || (b == ascii.percent || (b == ascii.at || b == ascii.grave))))))

-- a blank, a break, the end or one of ``? : , ] } % @ ` `` is there
unfoldable pub may_end_name : List ℕ → ℕ → Bool
may_end_name text p = is_blank_or_end text p || is_name_end (byte text p)

-- the name from one place to another, and the place after it
abbrev pub name_between : Context → List ℕ → ℕ → ℕ → Result (List ℕ × ℕ) Wrong
name_between context text p q =
    if p == q || not (may_end_name text q)
    then Err record { problem = problems.NoAlphanumeric; context = context; place = q }
    else Ok (slice_range text p q, q)

-- the name of the anchor or alias that starts there, and the place after it, or what is wrong
abbrev pub anchor_at : Context → List ℕ → ℕ → Result (List ℕ × ℕ) Wrong
anchor_at context text p = name_between context text (p + 1) (run_end runs.Alphas text (p + 1))
