use Rattle.yaml_scan_text.proofs.QuotesRead.{doubled_goes}
use Rattle.yaml_scan_text.proofs.quoted.doubled.Goals as goal

pub returns-clause-value : goal.returns-clause-value
returns-clause-value c = doubled_goes c.args.quote c.args.text.now c.args.arena.now.items c.extend_from_slice.new.self.items c.args.read c.requires.order c.requires.seat c.requires.quote c.requires.first c.requires.goes_on c.in_ok-extend_from_slice.ensures.items
