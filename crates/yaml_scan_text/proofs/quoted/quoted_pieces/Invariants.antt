use Rattle.std.proofs.Common.{◌≡◌, ◌-◌, false, length}
use Rattle.yaml_scan_text.proofs.Words.{byte}
use Rattle.yaml_scan_text.specs.QuotedRead.{IsRead, closes}
use Rattle.yaml_scan_text.proofs.quoted.quoted_pieces.Given as goal

abbrev pub invariant-pieces : goal.invariant-pieces
invariant-pieces l = record {
  read : IsRead (byte l.text l.start) l.text l.start l.fn.arena.items l.arena.items l.read;
  goes_on : closes (byte l.text l.start) l.text l.read.at ≡ false;
}

abbrev pub decreases-pieces : goal.decreases-pieces
decreases-pieces l = length l.text - l.read.at
