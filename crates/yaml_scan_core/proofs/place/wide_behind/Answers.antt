use Rattle.std.proofs.Common.{◌≡◌, ◌∙◌, ◌-◌, false, sym, ap, arith}
use Rattle.yaml_scan_core.proofs.Words.{byte}
use Rattle.yaml_scan_core.specs.Told.{may_split}
use Rattle.yaml_scan_core.proofs.ToldLemmas.{mark_over, mark_small}
use Rattle.yaml_scan_core.proofs.place.wide_behind.Goals as goal

pub overflow_add-result : goal.overflow_add-result
overflow_add-result c =
    let small = mark_small c.args.text.now c.args.mark c.requires.mark in
    omega (arith, small.1, c.requires.order, c.ranges.end.fits)

pub returns-clause-mark : goal.returns-clause-mark
returns-clause-mark c =
    let calm : may_split (byte c.args.text.now (c.args.mark.index - 1)) ≡ false = ap may_split (sym (c.byte.ensures ∙ ap (byte c.args.text.now) c.saturating_sub.ensures)) ∙ (sym c.may_split.ensures ∙ c.if-may_split.false) in
    mark_over c.args.text.now c.args.mark c.args.end c.continuing.result c.requires.mark c.requires.order calm c.requires.run c.continuing.ensures
