use Rattle.std.proofs.Common.{subst}
use Rattle.yaml_scan_history.specs.declared.kind.Kind.TheVariants as reads
use Rattle.yaml_scan_core.specs.Scanning.{StandsAt, history_of}
use Rattle.yaml_scan_core.proofs.KindsLemmas.{stands_at_told}
use Rattle.yaml_scan_core.proofs.scanner.Scanner.lexeme.Goals as goal

pub returns-in-StreamStart : goal.returns-in-StreamStart
returns-in-StreamStart c =
    let s = c.args.self.now in
    absurd (stands_at_told reads.StreamStart s (history_of s) (subst (λ k. StandsAt k s (history_of s)) c.in-StreamStart.is c.requires))
