use Rattle.std.proofs.Common.{refl, ◌∙◌, sym}
use Rattle.std.proofs.lemmas.Result.{err_from_is_err_and}
use Rattle.yaml_scan_text.proofs.JoinLemmas.{answer_first, answer_tab_first}
use Rattle.yaml_scan_text.proofs.Words.{wrong_of}
use Rattle.yaml_scan_text.specs.declared.refusal.Refusal.TheVariants as refusals
use Rattle.yaml_scan_text.proofs.plain.plain_lines.Goals as goal

pub returns-in_err-head-clause-value : goal.returns-in_err-head-clause-value
returns-in_err-head-clause-value c =
    let p = err_from_is_err_and c.from_residual.result c.from_residual.ensures.1 in
    rw (p.1, p.2) (answer_tab_first c.args.flow c.args.margin c.args.text.now c.args.start c.args.arena.now.items c.args.first (wrong_of c.in_err-head.field-0.0) (refusals.Wrong c.in_err-head.field-0.0) c.requires.start c.requires.first c.requires.broke c.in_err-head.ensures refl)

pub returns-then-ends_behind-clause-value : goal.returns-then-ends_behind-clause-value
returns-then-ends_behind-clause-value c = answer_first c.args.flow c.args.margin c.args.text.now c.args.start c.args.arena.now.items c.args.first c.in_ok-head.head c.requires.start c.requires.first c.requires.broke c.in_ok-head.ensures (sym c.ends_behind.ensures ∙ c.if-ends_behind.true) c.ended.result c.ended.ensures
