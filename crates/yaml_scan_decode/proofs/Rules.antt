-- What each rule says.
use Rattle.std.proofs.Common.{◌≡◌, ◌<◌, ◌==◌, ℕ, false, arith, rules}
use Rattle.std.proofs.lemmas.Bool.Decides.{nat_tests}
use Rattle.std.proofs.lemmas.Bool.{lt-ltb, le-ltb}
use Rattle.yaml_scan_decode.specs.Offences.{problem_text_of}
use Rattle.yaml_scan_decode.specs.Characters.{allowed_at, valued_at, sequence_of, utf8_of, utf16_of}
use Rattle.yaml_scan_decode.specs.Rules.{OffencesAreTold}

some : (w : ℕ) → 0 < w → (w == 0) ≡ false
some w h = grind (arith, nat_tests)

pub offences_are_told : OffencesAreTold
unfolding utf8_of sequence_of valued_at allowed_at utf16_of problem_text_of
offences_are_told = search (rules, le-ltb, lt-ltb, some)
