use Rattle.std.proofs.Common.{arith, rules, ◌<◌, length, sym, subst}
use Rattle.yaml_scan_core.specs.Asked.{ShowsKind}
use Rattle.yaml_scan_core.specs.Handed.{to_come}
use Rattle.yaml_scan_core.specs.Waiting.{TellsNeeded}
use Rattle.yaml_scan_core.proofs.AskedLemmas.{front_read, shows_settled}
use Rattle.yaml_scan_core.proofs.RestsLemmas.{settled_read}
use Rattle.yaml_scan_core.proofs.WaitsLemmas.{tells_front}
use Rattle.yaml_scan_core.proofs.scanner.Scanner.kind.Goals as goal

pub returns-then-self-clause-shows : goal.returns-then-self-clause-shows
returns-then-self-clause-shows c =
    let s = c.args.self.now in
    let low : s.row.next < s.row.settled = search rules in
    let is = front_read s c.index.result.now (omega (arith, low, settled_read s c.requires.rests)) c.index.ensures in
    subst (λ k. ShowsKind k (to_come s) s) (sym is) (shows_settled s c.requires low)

pub returns-then-self-clause-needs : goal.returns-then-self-clause-needs
returns-then-self-clause-needs c = λ one read.
    let s = c.args.self.now in
    let low : s.row.next < s.row.settled = search rules in
    let some : s.row.next < length s.row.lexemes.items = omega (arith, low, settled_read s c.requires.rests) in
    let is = front_read s c.index.result.now some c.index.ensures in
    subst (λ k. TellsNeeded k s s) (sym is) (tells_front s read some)
