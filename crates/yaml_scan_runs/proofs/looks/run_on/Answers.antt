use Rattle.std.proofs.Common.{arith}
use Rattle.std.proofs.lemmas.Bool.{or_parts}
use Rattle.yaml_scan_runs.specs.Runs.{is_stop}
use Rattle.yaml_scan_runs.proofs.Stops.{looked_through, looked_ends, looked_short, narrow_more}
use Rattle.yaml_scan_runs.proofs.looks.run_on.Goals as goal

pub returns-then-found-ne0-clause-run : goal.returns-then-found-ne0-clause-run
returns-then-found-ne0-clause-run g c =
    let kept = c.looks.invariant in
    rw c.min.ensures (looked_ends (is_stop c.args.stops.now) c.args.text.now c.args.from c.looks.at c.among-found.result (omega arith) kept.0 kept.2 c.among-found.ensures (omega arith) c.args.to (omega arith))

pub returns-then-found-ne0-clause-narrow : goal.returns-then-found-ne0-clause-narrow
returns-then-found-ne0-clause-narrow g c = λ no.
    let kept = c.looks.invariant in
    let text = c.args.text.now in
    let (before, seen) = or_parts c.args.before c.is_wide.result no in
    let short = looked_short (is_stop c.args.stops.now) text c.args.from c.looks.at c.among-found.result (omega arith) kept.0 kept.2 c.among-found.ensures (omega arith) in
    let all = narrow_more c.looks.seen text c.args.from c.looks.at c.looks.auto.seen.0 (omega arith) kept.3 (c.is_wide.ensures seen) in
    (before, λ k low high. all k low (omega (arith, high, short, c.min.ensures)))

pub looks-preserved : goal.looks-preserved
looks-preserved g c =
    let kept = c.looks.invariant in (
      omega arith,
      omega arith,
      looked_through (is_stop c.args.stops.now) c.args.text.now c.args.from c.looks.at c.among-found.result (omega arith) kept.0 kept.2 c.among-found.ensures (omega arith),
      narrow_more c.looks.seen c.args.text.now c.args.from c.looks.at c.looks.auto.seen.0 (omega arith) kept.3,
    )
