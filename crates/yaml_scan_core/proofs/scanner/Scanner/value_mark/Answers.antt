use Rattle.yaml_scan_core.proofs.StandTaken.{reads_closed}
use Rattle.yaml_scan_core.proofs.scanner.Scanner.value_mark.Goals as goal

pub returns-in-Some : goal.returns-in-Some
returns-in-Some c = reads_closed c.args.self.now c.close_levels-ends.new.self c.value_of.new.self c.value_of.result c.close_levels-ends.ensures.same c.value_of.ensures

pub returns-in-None : goal.returns-in-None
returns-in-None c = reads_closed c.args.self.now c.close_levels-ends.new.self c.value_alone.new.self c.value_alone.result c.close_levels-ends.ensures.same c.value_alone.ensures
