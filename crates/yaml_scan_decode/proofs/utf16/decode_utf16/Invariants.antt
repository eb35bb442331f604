use Rattle.std.proofs.Common.{◌-◌, length}
use Rattle.std.specs.String.{string_bytes}
use Rattle.yaml_scan_decode.specs.Characters.{encoding_by}
use Rattle.yaml_scan_decode.proofs.SpellingLemmas.{Writes}
use Rattle.yaml_scan_decode.proofs.utf16.decode_utf16.Given as goal

abbrev pub invariant-characters : goal.invariant-characters
invariant-characters l = Writes (encoding_by l.order) l.bytes l.start l.at (string_bytes l.text)

abbrev pub decreases-characters : goal.decreases-characters
decreases-characters l = length l.bytes - l.at
