use Rattle.std.proofs.Common.{◌∙◌, sym}
use Rattle.yaml_scan_text.proofs.HeadLemmas.{ends_nothing, ends_mark, ends_other}
use Rattle.yaml_scan_text.proofs.plain.ends_behind.Goals as goal

pub returns-then-begins_nothing : goal.returns-then-begins_nothing
returns-then-begins_nothing c = ends_nothing c.args.flow c.args.margin c.args.text.now c.args.head.line c.args.head.at c.requires (sym c.begins_nothing.ensures ∙ c.if-begins_nothing.true)

pub returns-then-is_marked : goal.returns-then-is_marked
returns-then-is_marked c = ends_mark c.args.flow c.args.margin c.args.text.now c.args.head.at (sym c.is_marked.ensures ∙ c.if-is_marked.true)

pub returns : goal.returns
returns c = ends_other c.args.flow c.args.margin c.args.text.now c.args.head.line c.args.head.at c.is_apart.result c.requires (sym c.begins_nothing.ensures ∙ c.if-begins_nothing.false) (sym c.is_marked.ensures ∙ c.if-is_marked.false) c.is_apart.ensures
