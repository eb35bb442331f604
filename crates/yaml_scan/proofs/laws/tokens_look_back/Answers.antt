use Rattle.std.proofs.Common.{ℕ, List, Result, ap, ◌∙◌}
use Rattle.yaml_scan_decode.specs.declared.offence.Offence.{Offence}
use Rattle.yaml_scan_decode.specs.Encodings.{encoding_of}
use Rattle.yaml_scan_decode.proofs.CompleteLemmas.{spells_decoded}
use Rattle.yaml_scan_history.specs.Scanned.{scanned_in}
use Rattle.yaml_scan_laws.proofs.LookingBack.{offline_looks_back}
use Rattle.yaml_scan.proofs.laws.tokens_look_back.Goals as goal

pub returns : goal.returns
returns c = λ setting bytes text h.
    ap (λ (d : Result (List ℕ) Offence). scanned_in (encoding_of setting bytes) d) (spells_decoded setting bytes text h)
    ∙ offline_looks_back (record { encoding = encoding_of setting bytes; text = text })
