use Rattle.std.proofs.Common.{◌≡◌, ◌≤◌, ◌<◌, ℕ, true}
use Rattle.yaml_scan_types.specs.Marks.{byte, is_blank}
use Rattle.yaml_scan_text.proofs.text.trim_blanks.Given as goal

abbrev pub invariant-bytes : goal.invariant-bytes
invariant-bytes l = record {
  after : l.least ≤ l.at;
  before : l.at ≤ l.end;
  blanks : (k : ℕ) → l.at ≤ k → k < l.end → is_blank (byte l.text k) ≡ true;
}

abbrev pub decreases-bytes : goal.decreases-bytes
decreases-bytes l = l.at
