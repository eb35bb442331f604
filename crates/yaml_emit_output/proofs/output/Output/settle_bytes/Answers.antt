use Rattle.std.proofs.Common.{arith}
use Rattle.yaml_emit_output.proofs.Settling.{sheet_full, sheet_within}
use Rattle.yaml_emit_output.proofs.output.Output.settle_bytes.Goals as goal

pub returns-then-self-text-clause-settles : goal.returns-then-self-text-clause-settles
returns-then-self-text-clause-settles c =
    let full = rw (← c.self.view_is) at c.requires.full in
    let encoding = rw (← c.self.view_is) at c.requires.encoding in
    rw (← c.self.view_is) (sheet_full _ _ _ full encoding c.text.ensures.encoding c.text.ensures.status (rw c.text.ensures.text at c.if-self-text.true) c.stop.ensures.text)

pub returns-else-self-text-clause-settles : goal.returns-else-self-text-clause-settles
returns-else-self-text-clause-settles c =
    let full = rw (← c.self.view_is) at c.requires.full in
    let encoding = rw (← c.self.view_is) at c.requires.encoding in
    let holds = rw (← c.self.view_is) at c.requires.holds in
    rw (← c.self.view_is) (sheet_within _ _ full encoding c.text.ensures.encoding c.text.ensures.status holds (let few = rw c.text.ensures.text at c.if-self-text.false in omega (arith, few)))
