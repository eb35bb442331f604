use Rattle.std.proofs.Common.{◌≡◌, ◌∙◌, sym, arith}
use Rattle.yaml_scan_text.proofs.Words.{break_width}
use Rattle.yaml_scan_text.proofs.BlockLemmas.{seen_tab, seen_empty, seen_other, seen_text}
use Rattle.yaml_scan_text.proofs.block.seen_at.Goals as goal

pub returns-then-is_bad_tab : goal.returns-then-is_bad_tab
returns-then-is_bad_tab c = seen_tab c.args.text.now c.args.at c.args.line c.args.column c.wrong_at.result c.requires.column (sym c.is_bad_tab.ensures ∙ c.if-is_bad_tab.true) c.wrong_at.ensures

pub returns-then-break_width-gt0 : goal.returns-then-break_width-gt0
returns-then-break_width-gt0 c = seen_empty c.args.text.now c.args.at c.args.line c.args.column c.requires.column (sym c.is_bad_tab.ensures ∙ c.if-is_bad_tab.false) (omega arith)

pub returns-then-is_other : goal.returns-then-is_other
returns-then-is_other c =
    let none : break_width c.args.text.now c.args.at ≡ 0 = omega arith in
    seen_other c.args.text.now c.args.at c.args.line c.args.column c.requires.column (sym c.is_bad_tab.ensures ∙ c.if-is_bad_tab.false) none (sym c.is_other.ensures ∙ c.if-is_other.true)

pub returns : goal.returns
returns c =
    let none : break_width c.args.text.now c.args.at ≡ 0 = omega arith in
    seen_text c.args.text.now c.args.at c.args.line c.args.column c.requires.column (sym c.is_bad_tab.ensures ∙ c.if-is_bad_tab.false) none (sym c.is_other.ensures ∙ c.if-is_other.false)
