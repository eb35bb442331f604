use Rattle.yaml_scan_history.proofs.UnboundingBlocks.{lines_are, lines_are_one}
use Rattle.yaml_scan_history.proofs.Indents.{runs_end, run_ends_once, deepest_is, deepest_is_one}
use Rattle.yaml_scan_history.proofs.words_laws.lines_are_unbounded.Goals as goal

pub returns : goal.returns
returns c = record {
  lines = lines_are;
  one = lines_are_one;
  deepest = deepest_is;
  one_deepest = deepest_is_one;
  runs = runs_end;
  one_run = run_ends_once;
}
