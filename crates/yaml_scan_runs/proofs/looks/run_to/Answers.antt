use Rattle.std.proofs.Common.{◌+◌, arith, inl, inr}
use Rattle.std.proofs.lemmas.Bool.{cases_lt}
use Rattle.yaml_scan_runs.proofs.Stops.{run_short, run_behind, narrow_look}
use Rattle.yaml_scan_runs.proofs.looks.run_to.Goals as goal

pub returns-then-end-from-clause-run : goal.returns-then-end-from-clause-run
returns-then-end-from-clause-run g c = rw c.min.ensures (run_short c.args.to c.requires.0 c.then-end-from.either c.look-end.ensures)

pub returns-then-end-from-clause-narrow : goal.returns-then-end-from-clause-narrow
returns-then-end-from-clause-narrow g c = λ no k low high.
    narrow_look c.args.text.now c.args.from (c.is_wide-wide.ensures no) k low (omega (arith, high, c.look-end.ensures.within, c.min.ensures))

pub returns-clause-run : goal.returns-clause-run
returns-clause-run g c = run_behind c.look-end.ensures.ordered c.look-end.ensures.passed c.run_on-2.ensures.run

pub returns-clause-narrow : goal.returns-clause-narrow
returns-clause-narrow g c = λ no k low high.
    let (before, behind) = c.run_on-2.ensures.narrow no in
    elim (cases_lt k (c.args.from + 16)) [
      | inl early ↦ narrow_look c.args.text.now c.args.from (c.is_wide-wide.ensures before) k low early
      | inr late ↦ behind k (omega (arith, late, c.look-end.ensures.within)) high
    ]
