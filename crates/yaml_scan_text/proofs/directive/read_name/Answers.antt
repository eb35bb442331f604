use Rattle.yaml_scan_text.proofs.DirectiveLemmas.{name_ok}
use Rattle.yaml_scan_text.proofs.directive.read_name.Goals as goal

pub returns-in-Ok : goal.returns-in-Ok
returns-in-Ok c = name_ok c.args.text.now c.args.start c.alphas-end.result c.in-Ok.told c.alphas-end.ensures c.in-Ok.ensures
