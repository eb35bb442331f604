use Rattle.std.proofs.Common.{◌∙◌, sym}
use Rattle.yaml_scan_text.proofs.HeadLemmas.{indent_done, spaces_indent}
use Rattle.yaml_scan_text.proofs.plain.pass_indent.Goals as goal

pub is_bad_tab-requires : goal.is_bad_tab-requires
is_bad_tab-requires c = (spaces_indent c.args.margin c.args.text.now c.args.line c.skip_spaces-at.result c.skip_spaces-at.ensures).forward

pub returns-then-is_bad_tab : goal.returns-then-is_bad_tab
returns-then-is_bad_tab c =
    (c.skip_spaces-at.result, spaces_indent c.args.margin c.args.text.now c.args.line c.skip_spaces-at.result c.skip_spaces-at.ensures, sym c.is_bad_tab.ensures ∙ c.if-is_bad_tab.true, c.wrong_at.ensures)

pub returns : goal.returns
returns c = indent_done c.args.margin c.args.text.now c.args.line c.skip_spaces-at.result c.skip_blanks.result c.skip_spaces-at.ensures (sym c.is_bad_tab.ensures ∙ c.if-is_bad_tab.false) c.skip_blanks.ensures
