use Rattle.std.proofs.Common.{◌∙◌, sym, arith}
use Rattle.yaml_scan_model.proofs.MarksLemmas.{past_break}
use Rattle.yaml_scan_core.proofs.GapsLemmas.{one_break, one_break_stop}
use Rattle.yaml_scan_core.proofs.scanner.Scanner.pass_break.Goals as goal

pub returns-then-width-eq0 : goal.returns-then-width-eq0
returns-then-width-eq0 c = one_break_stop c.args.self.now c.requires.place c.requires.byte (sym c.break_width-width.ensures ∙ c.if-width-eq0.true)

pub overflow_add-self : goal.overflow_add-self
overflow_add-self c =
    let s = c.args.self.now in
    let b = past_break s.text.now s.at (omega (arith, c.break_width-width.ensures, c.if-width-eq0.false)) in
    omega (arith, b.inside, c.break_width-width.ensures, c.requires.long)

pub returns : goal.returns
returns c =
    one_break c.args.self.now c.requires.place (omega (arith, c.break_width-width.ensures, c.if-width-eq0.false)) c.break_width-width.result c.break_width-width.ensures c.allows_behind-self.result c.allows_behind-self.ensures
