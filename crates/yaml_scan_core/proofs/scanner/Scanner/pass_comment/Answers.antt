use Rattle.yaml_scan_core.proofs.GapsLemmas.{comment_forward, comment_inside, one_comment}
use Rattle.yaml_scan_core.proofs.scanner.Scanner.pass_comment.Goals as goal

pub continuing-requires-clause-order : goal.continuing-requires-clause-order
continuing-requires-clause-order c = comment_forward c.args.self.now.text.now c.args.self.now.at c.line_end-end.result c.line_end-end.ensures

pub continuing-requires-clause-inside : goal.continuing-requires-clause-inside
continuing-requires-clause-inside c = comment_inside c.args.self.now.text.now c.args.self.now.at c.line_end-end.result c.line_end-end.ensures c.requires.place.inside

pub returns : goal.returns
returns c = one_comment c.args.self.now c.requires.place c.requires.byte c.line_end-end.result c.continuing.result c.line_end-end.ensures c.continuing.ensures
