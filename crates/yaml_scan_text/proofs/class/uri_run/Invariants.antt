use Rattle.std.proofs.Common.{◌≡◌, ◌≤◌, ◌<◌, ◌-◌, ℕ, true, length}
use Rattle.yaml_scan_history.specs.Uris.{is_uri}
use Rattle.yaml_scan_text.proofs.class.uri_run.Given as goal

abbrev pub invariant-bytes : goal.invariant-bytes
invariant-bytes l = record {
  forward : l.from ≤ l.at;
  inside : l.at ≤ length l.text;
  kept : (k : ℕ) → l.from ≤ k → k < l.at → is_uri l.wide l.text k ≡ true;
}

abbrev pub decreases-bytes : goal.decreases-bytes
decreases-bytes l = length l.text - l.at
