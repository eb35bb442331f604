use Rattle.std.proofs.Common.{◌∙◌, sym}
use Rattle.yaml_scan_core.proofs.GapsLemmas.{one_mark, one_mark_stop}
use Rattle.yaml_scan_core.proofs.scanner.Scanner.pass_mark.Goals as goal

pub returns-then-not-is_mark_first : goal.returns-then-not-is_mark_first
returns-then-not-is_mark_first c = one_mark_stop c.args.self.now c.requires.place c.requires.byte (sym c.is_mark_first.ensures ∙ c.if-not-is_mark_first.true)

pub returns : goal.returns
returns c = one_mark c.args.self.now c.requires.place (sym c.is_mark_first.ensures ∙ c.if-not-is_mark_first.false)
