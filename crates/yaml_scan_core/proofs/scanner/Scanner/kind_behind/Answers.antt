use Rattle.std.proofs.Common.{arith, sym, subst}
use Rattle.yaml_scan_core.specs.declared.scanner.Scanner.{Scanner}
use Rattle.yaml_scan_core.specs.Asked.{ShowsKind}
use Rattle.yaml_scan_core.specs.Handed.{to_come}
use Rattle.yaml_scan_core.specs.Waiting.{TellsNeeded}
use Rattle.yaml_scan_core.proofs.AskedLemmas.{HasRead, front_read, read_there, shows_nothing, shows_read, some_there}
use Rattle.yaml_scan_core.proofs.WaitsLemmas.{tells_nothing, tells_read}
use Rattle.yaml_scan_core.proofs.scanner.Scanner.kind_behind.Goals as goal

pub returns-then-self-clause-shows : goal.returns-then-self-clause-shows
returns-then-self-clause-shows c = shows_nothing c.args.self.now c.requires.waits c.if-self.true c.requires.none

pub index-requires : goal.index-requires
index-requires c =
    let old = c.args.self.now in
    let new : Scanner = c.read_on.new.self in
    let e = c.read_on.ensures in
    let read : HasRead old new = record { rests = e.rests; hands = e.hands; waits = e.waits; text = e.text } in
    let some = some_there new e.rests (read_there old new c.requires.waits c.if-self.false read) in
    omega (arith, some, new.row.lexemes.ok.0)

pub returns-clause-shows : goal.returns-clause-shows
returns-clause-shows c =
    let old = c.args.self.now in
    let new : Scanner = c.read_on.new.self in
    let e = c.read_on.ensures in
    let read : HasRead old new = record { rests = e.rests; hands = e.hands; waits = e.waits; text = e.text } in
    let some = some_there new e.rests (read_there old new c.requires.waits c.if-self.false read) in
    let is = front_read new c.index.result.now some c.index.ensures in
    subst (λ k. ShowsKind k (to_come old) new) (sym is) (shows_read old new c.requires.waits c.if-self.false read)

pub returns-then-self-clause-needs : goal.returns-then-self-clause-needs
returns-then-self-clause-needs c = λ one read. tells_nothing c.args.self.now read

pub returns-clause-needs : goal.returns-clause-needs
returns-clause-needs c = λ one was.
    let old = c.args.self.now in
    let new : Scanner = c.read_on.new.self in
    let e = c.read_on.ensures in
    let read : HasRead old new = record { rests = e.rests; hands = e.hands; waits = e.waits; text = e.text } in
    let some = some_there new e.rests (read_there old new c.requires.waits c.if-self.false read) in
    let is = front_read new c.index.result.now some c.index.ensures in
    subst (λ k. TellsNeeded k old new) (sym is) (tells_read old new e.hands (e.needs one) some)
