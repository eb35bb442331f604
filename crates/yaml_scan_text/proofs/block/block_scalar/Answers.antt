use Rattle.std.proofs.Common.{refl}
use Rattle.yaml_scan_text.proofs.StackLemmas.{block_whole, indicator_parts}
use Rattle.yaml_scan_text.proofs.block.block_scalar.Goals as goal

pub read_header-requires-clause-whole : goal.read_header-requires-clause-whole
read_header-requires-clause-whole c = (indicator_parts c.args.text.now c.args.start c.args.line c.requires.indicator c.requires.whole c.requires.line).2

pub read_header-requires-clause-line : goal.read_header-requires-clause-line
read_header-requires-clause-line c = (indicator_parts c.args.text.now c.args.start c.args.line c.requires.indicator c.requires.whole c.requires.line).3

pub block_lines-requires-clause-start : goal.block_lines-requires-clause-start
block_lines-requires-clause-start c = (indicator_parts c.args.text.now c.args.start c.args.line c.requires.indicator c.requires.whole c.requires.line).0

pub returns-clause-value : goal.returns-clause-value
returns-clause-value c =
    rw (← block_whole c.args.margin c.args.text.now c.args.start c.in_ok-column.column c.in_ok-header.header _ refl c.in_ok-header.ensures c.in_ok-column.ensures) c.block_lines.ensures.value
