use Rattle.yaml_scan_history.proofs.Unbounding.{run_ends, run_end_is_one, gap_leads, gap_is_one, uri_is, uri_is_one}
use Rattle.yaml_scan_history.proofs.words_laws.gaps_and_uris_are_unbounded.Goals as goal

pub returns : goal.returns
returns c = record {
  gap = gap_leads;
  one_gap = gap_is_one;
  uri = uri_is;
  one_uri = uri_is_one;
  run = run_ends;
  one_run = run_end_is_one;
}
