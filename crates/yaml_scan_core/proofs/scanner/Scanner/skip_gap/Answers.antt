use Rattle.yaml_scan_core.proofs.GapsLemmas.{passes_on, stays_on}
use Rattle.yaml_scan_core.proofs.scanner.Scanner.skip_gap.Goals as goal

pub gap-preserved : goal.gap-preserved
gap-preserved c = record {
  same = stays_on c.args.self.now c.gap.self c.pass_white.new.self c.gap.invariant.same c.pass_white.ensures.same;
  passes = passes_on c.args.self.now c.gap.self c.pass_white.new.self c.gap.invariant.same c.gap.invariant.passes c.pass_white.ensures.passes;
}

pub returns-clause-passes : goal.returns-clause-passes
returns-clause-passes c = passes_on c.args.self.now c.gap.self c.pass_white.new.self c.gap.invariant.same c.gap.invariant.passes c.pass_white.ensures.passes
