use Rattle.std.proofs.Common.{arith}
use Rattle.yaml_scan_runs.specs.Runs.{is_unplain}
use Rattle.yaml_scan_runs.proofs.Stops.{looked_through, looked_last}
use Rattle.yaml_scan_runs.proofs.looks.plain_end.Goals as goal

pub returns-then-found-ne0 : goal.returns-then-found-ne0
returns-then-found-ne0 c =
    let kept = c.looks.invariant in
    looked_last is_unplain c.args.text.now c.args.from c.looks.at c.unplain-found.result (omega arith) kept.0 kept.2 c.unplain-found.ensures (omega arith)

pub looks-preserved : goal.looks-preserved
looks-preserved c =
    let kept = c.looks.invariant in (
      omega arith,
      omega arith,
      looked_through is_unplain c.args.text.now c.args.from c.looks.at c.unplain-found.result (omega arith) kept.0 kept.2 c.unplain-found.ensures (omega arith),
    )
