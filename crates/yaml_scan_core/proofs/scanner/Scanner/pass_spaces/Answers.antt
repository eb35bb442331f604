use Rattle.yaml_scan_core.proofs.GapsLemmas.{one_spaces}
use Rattle.yaml_scan_core.proofs.scanner.Scanner.pass_spaces.Goals as goal

pub returns : goal.returns
returns c = one_spaces c.args.self.now c.requires.place c.requires.byte c.skip_spaces-self.result c.skip_spaces-self.ensures
