use Rattle.std.proofs.Common.{rules, ap, length}
use Rattle.std.proofs.lemmas.Str.{IsCharBoundary-from_take}
use Rattle.yaml_emit_output.proofs.Settling.{sheet_passed, sheet_told, sheet_refused, spelled_some, spelled_all}
use Rattle.yaml_emit_output.proofs.output.Output.settle_units.Goals as goal

pub range_from-requires : goal.range_from-requires
range_from-requires c =
    let holds = rw (← c.self.view_is) at c.requires.holds in
    λ _. rw c.text.ensures.text (IsCharBoundary-from_take _ _ (rw c.text.ensures.text at c.text.utf8) holds.inside holds.front)

pub returns-then-self-len-clause-settles : goal.returns-then-self-len-clause-settles
returns-then-self-len-clause-settles c =
    let full = rw (← c.self.view_is) at c.requires.full in
    let encoding = rw (← c.self.view_is) at c.requires.encoding in
    let holds = rw (← c.self.view_is) at c.requires.holds in
    let some = spelled_some _ _ _ (rw (c.range_from.ensures.value, c.text.ensures.text) at c.in-Ok.ensures) in
    rw (← c.self.view_is, c.truncate.ensures.items) (sheet_passed _ _ _ c.put_utf16.new.bytes.items some.0 full encoding c.text.ensures.encoding c.text.ensures.status (rw c.text.ensures.text at c.text.utf8) holds some.1 (search rules) c.stop.ensures.text)

pub returns-else-self-len-clause-settles : goal.returns-else-self-len-clause-settles
returns-else-self-len-clause-settles c =
    let full = rw (← c.self.view_is) at c.requires.full in
    let encoding = rw (← c.self.view_is) at c.requires.encoding in
    let holds = rw (← c.self.view_is) at c.requires.holds in
    let few = c.if-self-len.false in
    let all = spelled_all _ _ _ (rw (c.range_from.ensures.value, c.text.ensures.text) at c.in-Ok.ensures) (search rules) in
    rw (← c.self.view_is) (sheet_told _ _ _ _ full encoding c.text.ensures.encoding c.text.ensures.status (rw c.text.ensures.text at c.text.utf8) holds all (ap length c.text-else-self-len.ensures.text) (search rules))

pub returns-in-Err-clause-settles : goal.returns-in-Err-clause-settles
returns-in-Err-clause-settles c =
    let full = rw (← c.self.view_is) at c.requires.full in
    let encoding = rw (← c.self.view_is) at c.requires.encoding in
    let holds = rw (← c.self.view_is) at c.requires.holds in
    let same = rw c.len-count.ensures at c.truncate-in-Err.ensures.items in
    rw (← c.self.view_is, same, c.self.inside.encoded.ok.0, c.in-Err.ensures) (sheet_refused _ _ _ full encoding c.text.ensures.encoding c.text.ensures.status holds c.stop-in-Err.ensures.text c.stop-in-Err.ensures.stopped)
