use Rattle.std.proofs.Common.{◌∙◌, ◌-◌, arith}
use Rattle.yaml_scan_core.proofs.Words.{nat_tests}
use Rattle.yaml_scan_core.proofs.DropsLemmas.{drops_front, drops_on}
use Rattle.yaml_scan_core.proofs.row.Row.drop_taken.Goals as goal

pub returns : goal.returns
returns c =
    let old = c.args.self.now in
    let (t, es, h) = c.requires.shows in
    let i = c.moves.invariant in
    let count = c.len.ensures ∙ old.lexemes.ok.0 in
    let front = drops_front old c.moves.self c.truncate.new.self (c.len.result - old.next) c.moves.at h.taken (omega (arith, count, h.taken, h.few)) i.rest i.long i.room i.moved (grind (arith, nat_tests, c.moves-test.false)) c.truncate.ensures.items c.truncate.ensures.capacity in
    drops_on old _ c.drop_notes.new.self front c.drop_notes.ensures
