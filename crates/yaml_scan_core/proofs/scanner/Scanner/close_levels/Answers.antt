use Rattle.std.proofs.Common.{sym, ◌∙◌}
use Rattle.yaml_scan_core.proofs.StandTaken.{closes}
use Rattle.yaml_scan_core.proofs.scanner.Scanner.close_levels.Goals as goal

pub returns-clause-stands : goal.returns-clause-stands
returns-clause-stands c =
    closes c.args.kind c.args.self.now c.close_down_to.new.self c.close_down_to.result c.margin_kept-kept.result c.requires
    (sym c.in_flow.ensures ∙ c.if-in_flow.false) c.margin_kept-kept.ensures c.close_down_to.ensures.left c.close_down_to.ensures.fewer
