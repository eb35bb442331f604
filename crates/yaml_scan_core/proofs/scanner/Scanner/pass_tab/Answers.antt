use Rattle.std.proofs.Common.{◌∙◌, sym}
use Rattle.yaml_scan_core.proofs.GapsLemmas.{one_tab, one_tab_stop}
use Rattle.yaml_scan_core.proofs.scanner.Scanner.pass_tab.Goals as goal

pub returns-then-not-skips_tabs : goal.returns-then-not-skips_tabs
returns-then-not-skips_tabs c = one_tab_stop c.args.self.now c.requires.place c.requires.byte (sym c.skips_tabs.ensures ∙ c.if-not-skips_tabs.true)

pub returns : goal.returns
returns c = one_tab c.args.self.now c.requires.place c.requires.byte (sym c.skips_tabs.ensures ∙ c.if-not-skips_tabs.false)
