use Rattle.yaml_scan_text.proofs.BlockLemmas.{indent_forward, indent_taken}
use Rattle.yaml_scan_text.proofs.block.past_indent.Goals as goal

pub overflow_sub-end : goal.overflow_sub-end
overflow_sub-end c = indent_forward c.args.text.now c.args.from c.skip_spaces-end.result c.skip_spaces-end.ensures

pub returns-clause-value : goal.returns-clause-value
returns-clause-value c = (indent_taken c.args.text.now c.args.from c.skip_spaces-end.result c.args.most c.min.result c.skip_spaces-end.ensures c.min.ensures).1

pub returns-clause-spaces : goal.returns-clause-spaces
returns-clause-spaces c = (indent_taken c.args.text.now c.args.from c.skip_spaces-end.result c.args.most c.min.result c.skip_spaces-end.ensures c.min.ensures).0
