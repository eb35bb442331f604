use Rattle.yaml_scan_text.proofs.RunLemmas.{blanks_run}
use Rattle.yaml_scan_text.proofs.text.skip_blanks.Goals as goal

pub returns : goal.returns
returns c = blanks_run c.args.text.now c.args.from c.skip_blanks.result c.skip_blanks.ensures
