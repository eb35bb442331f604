use Rattle.std.proofs.Common.{◌∙◌, sym}
use Rattle.yaml_scan_text.proofs.NamesLemmas.{name_read, name_refused}
use Rattle.yaml_scan_text.proofs.names.name.Goals as goal

pub returns-then-not-is_name : goal.returns-then-not-is_name
returns-then-not-is_name c = name_refused c.args.context c.args.text.now c.args.start c.alphas-end.result _ c.alphas-end.ensures (sym c.is_name.ensures ∙ c.if-not-is_name.true) c.wrong_at.ensures

pub returns : goal.returns
returns c = name_read c.args.context c.args.text.now c.args.start c.alphas-end.result c.alphas-end.ensures (sym c.is_name.ensures ∙ c.if-not-is_name.false)
