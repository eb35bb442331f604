use Rattle.std.proofs.Common.{◌∙◌, sym, arith}
use Rattle.yaml_scan_text.proofs.Words.{run_start}
use Rattle.yaml_scan_model.specs.Runs.{is_text}
use Rattle.yaml_scan_text.proofs.RunLemmas.{line_done, line_more}
use Rattle.yaml_scan_text.proofs.text.line_end.Goals as goal

pub runs-init : goal.runs-init
runs-init c = record { run = run_start is_text c.args.text.now c.args.from; inside = c.requires }

pub returns-then-not-is_text : goal.returns-then-not-is_text
returns-then-not-is_text c = line_done c.args.text.now c.args.from c.runs.at c.run_end-at.result c.runs.invariant.run c.run_end-at.ensures (sym c.is_text.ensures ∙ c.if-not-is_text.true)

pub runs-preserved : goal.runs-preserved
runs-preserved c =
    let more = line_more c.args.text.now c.args.from c.runs.at c.run_end-at.result c.runs.invariant.run c.run_end-at.ensures (sym c.is_text.ensures ∙ c.if-not-is_text.false) in
    record { run = more.0; inside = omega (arith, more.1) }
