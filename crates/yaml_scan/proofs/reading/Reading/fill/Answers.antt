use Rattle.std.proofs.Common.{sym, ◌∙◌}
use Rattle.yaml_scan.proofs.ReadingLemmas.{lends_held, lends_over}
use Rattle.yaml_scan.proofs.reading.Reading.fill.Goals as goal

pub returns-then-is_some-clause-looks : goal.returns-then-is_some-clause-looks
returns-then-is_some-clause-looks c = lends_over c.args.self.now c.requires (sym c.is_some.ensures ∙ c.if-is_some.true)

pub returns-then-not-is_empty-clause-looks : goal.returns-then-not-is_empty-clause-looks
returns-then-not-is_empty-clause-looks c = lends_held c.args.self.now c.requires (sym c.is_some.ensures ∙ c.if-is_some.false) (sym c.is_empty.ensures ∙ c.if-not-is_empty.true)
