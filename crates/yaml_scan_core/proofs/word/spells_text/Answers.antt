use Rattle.yaml_scan_core.proofs.WordsLemmas.{ascii_read, readable}
use Rattle.yaml_scan_core.proofs.word.spells_text.Goals as goal

pub returns-then-is_ascii : goal.returns-then-is_ascii
returns-then-is_ascii c = ascii_read c.is_ascii.result c.args.bytes.now c.is_ascii.ensures.cases c.if-is_ascii.true

pub returns-else-is_ascii : goal.returns-else-is_ascii
returns-else-is_ascii c = readable c.is_utf8.result c.args.bytes.now c.is_utf8.ensures
