use Rattle.std.proofs.Common.{◌<◌, refl, ◌∙◌, sym, arith}
use Rattle.std.proofs.lemmas.Result.{err_from_is_err_and}
use Rattle.yaml_scan_text.proofs.Words.{break_width, wrong_of}
use Rattle.yaml_scan_text.proofs.FoldsLemmas.{keeps_on, keeps_more}
use Rattle.yaml_scan_text.proofs.JoinLemmas.{joins_first, joins_keep, joins_reach, reach_joins, head_word, on_further, answer_colon, answer_ended, answer_last, answer_tab}
use Rattle.yaml_scan_text.specs.declared.refusal.Refusal.TheVariants as refusals
use Rattle.yaml_scan_text.proofs.plain.join_lines.Goals as goal

pub lines-init : goal.lines-init
lines-init c = joins_first c.args.flow c.args.margin c.args.text.now c.args.start c.args.arena.now.items c.args.first c.args.behind c.requires.start c.requires.joins

pub returns-then-is_bad_colon-clause-value : goal.returns-then-is_bad_colon-clause-value
returns-then-is_bad_colon-clause-value c =
    answer_colon c.args.flow c.args.margin c.args.text.now c.args.start c.args.arena.now.items c.lines.arena.items c.lines.from c.lines.part c.lines.head (refusals.Wrong c.wrong_at.result) c.lines.invariant (sym c.is_bad_colon.ensures ∙ c.if-is_bad_colon.true) c.wrong_at.ensures

pub returns-in_err-take_line-clause-kept : goal.returns-in_err-take_line-clause-kept
returns-in_err-take_line-clause-kept c = keeps_on _ _ _ (joins_keep _ _ _ _ _ _ _ _ _ c.lines.invariant) c.in_err-take_line.ensures.kept

pub plain_line-part-requires : goal.plain_line-part-requires
plain_line-part-requires c = head_word c.args.flow c.args.margin c.args.text.now c.lines.part.next c.lines.head c.lines.invariant.on.head c.lines.invariant.on.more

pub returns-then-break_width-eq0-clause-value : goal.returns-then-break_width-eq0-clause-value
returns-then-break_width-eq0-clause-value c =
    let reach = joins_reach c.args.flow c.args.margin c.args.text.now c.args.start c.args.arena.now.items c.lines.arena.items c.take_line.new.arena.items c.lines.from c.lines.part c.plain_line-part.result c.lines.head c.lines.invariant (sym c.is_bad_colon.ensures ∙ c.if-is_bad_colon.false) c.in_ok-take_line.ensures.value c.plain_line-part.ensures.line in
    answer_last c.args.flow c.args.margin c.args.text.now c.args.start c.args.arena.now.items c.take_line.new.arena.items c.last_line.new.arena.items c.lines.head.at c.plain_line-part.result c.lines.head.line reach (sym c.break_width.ensures ∙ c.if-break_width-eq0.true) c.last_line.result c.last_line.ensures.value

pub returns-then-break_width-eq0-clause-kept : goal.returns-then-break_width-eq0-clause-kept
returns-then-break_width-eq0-clause-kept c = keeps_on _ _ _ (keeps_on _ _ _ (joins_keep _ _ _ _ _ _ _ _ _ c.lines.invariant) c.in_ok-take_line.ensures.kept) c.last_line.ensures.kept

pub returns-in_err-next-clause-value : goal.returns-in_err-next-clause-value
returns-in_err-next-clause-value c =
    let reach = joins_reach c.args.flow c.args.margin c.args.text.now c.args.start c.args.arena.now.items c.lines.arena.items c.take_line.new.arena.items c.lines.from c.lines.part c.plain_line-part.result c.lines.head c.lines.invariant (sym c.is_bad_colon.ensures ∙ c.if-is_bad_colon.false) c.in_ok-take_line.ensures.value c.plain_line-part.ensures.line in
    let some : 0 < break_width c.args.text.now c.plain_line-part.result.next = omega arith in
    let p = err_from_is_err_and c.from_residual-in_err-next.result c.from_residual-in_err-next.ensures.1 in
    rw (p.1, p.2) (answer_tab c.args.flow c.args.margin c.args.text.now c.args.start c.args.arena.now.items c.take_line.new.arena.items c.lines.head.at c.plain_line-part.result c.lines.head.line (wrong_of c.in_err-next.field-0.0) (refusals.Wrong c.in_err-next.field-0.0) reach some c.in_err-next.ensures refl)

pub returns-in_err-next-clause-kept : goal.returns-in_err-next-clause-kept
returns-in_err-next-clause-kept c = keeps_on _ _ _ (joins_keep _ _ _ _ _ _ _ _ _ c.lines.invariant) c.in_ok-take_line.ensures.kept

pub returns-in_err-extend_from_slice-clause-kept : goal.returns-in_err-extend_from_slice-clause-kept
returns-in_err-extend_from_slice-clause-kept c =
    rw c.in_err-extend_from_slice.ensures.items (keeps_on _ _ _ (joins_keep _ _ _ _ _ _ _ _ _ c.lines.invariant) c.in_ok-take_line.ensures.kept)

pub returns-then-ends_behind-clause-value : goal.returns-then-ends_behind-clause-value
returns-then-ends_behind-clause-value c =
    let reach = joins_reach c.args.flow c.args.margin c.args.text.now c.args.start c.args.arena.now.items c.lines.arena.items c.take_line.new.arena.items c.lines.from c.lines.part c.plain_line-part.result c.lines.head c.lines.invariant (sym c.is_bad_colon.ensures ∙ c.if-is_bad_colon.false) c.in_ok-take_line.ensures.value c.plain_line-part.ensures.line in
    let some : 0 < break_width c.args.text.now c.plain_line-part.result.next = omega arith in
    answer_ended c.args.flow c.args.margin c.args.text.now c.args.start c.args.arena.now.items c.take_line.new.arena.items c.extend_from_slice.new.self.items c.lines.head.at c.plain_line-part.result c.lines.head.line c.in_ok-next.next reach some c.in_ok-next.ensures (sym c.ends_behind.ensures ∙ c.if-ends_behind.true) c.in_ok-extend_from_slice.ensures.items c.ended.result c.ended.ensures

pub returns-then-ends_behind-clause-kept : goal.returns-then-ends_behind-clause-kept
returns-then-ends_behind-clause-kept c =
    keeps_more _ _ _ _ (keeps_on _ _ _ (joins_keep _ _ _ _ _ _ _ _ _ c.lines.invariant) c.in_ok-take_line.ensures.kept) c.in_ok-extend_from_slice.ensures.items

pub lines-preserved : goal.lines-preserved
lines-preserved c =
    let reach = joins_reach c.args.flow c.args.margin c.args.text.now c.args.start c.args.arena.now.items c.lines.arena.items c.take_line.new.arena.items c.lines.from c.lines.part c.plain_line-part.result c.lines.head c.lines.invariant (sym c.is_bad_colon.ensures ∙ c.if-is_bad_colon.false) c.in_ok-take_line.ensures.value c.plain_line-part.ensures.line in
    let some : 0 < break_width c.args.text.now c.plain_line-part.result.next = omega arith in
    reach_joins c.args.flow c.args.margin c.args.text.now c.args.start c.args.arena.now.items c.take_line.new.arena.items c.lines.head.at c.plain_line-part.result c.lines.head.line c.in_ok-next.next reach some c.in_ok-next.ensures (sym c.ends_behind.ensures ∙ c.if-ends_behind.false)

pub lines-smaller : goal.lines-smaller
lines-smaller c =
    let on = c.lines.invariant.on in
    let word = head_word c.args.flow c.args.margin c.args.text.now c.lines.part.next c.lines.head on.head on.more in
    let inside = word.inside in
    let further = on_further c.args.flow c.args.margin c.args.text.now c.lines.from c.lines.part c.lines.head on in
    omega arith
