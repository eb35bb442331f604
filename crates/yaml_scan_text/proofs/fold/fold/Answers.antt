use Rattle.std.proofs.Common.{◌<◌, ◌∙◌, arith}
use Rattle.yaml_scan_text.proofs.Words.{break_width}
use Rattle.yaml_scan_text.proofs.TextLemmas.{break_inside}
use Rattle.yaml_scan_text.proofs.FoldsLemmas.{IsMarked, marked_three, marked_other, fold_done}
use Rattle.yaml_scan_text.proofs.fold.fold.Goals as goal
use Rattle.yaml_scan_text.proofs.fold.fold.Goals.{then-width-eq3+in_ok-extend_from_slice, else-width-eq3}

pub overflow_add-first : goal.overflow_add-first
overflow_add-first c =
    let some : 0 < break_width c.args.text.now c.skip_blanks-first.result = rw c.skip_blanks-first.ensures c.requires.broke in
    let inside = break_inside c.args.text.now c.skip_blanks-first.result some in
    omega arith

pub returns-in_ok-push-clause-value : goal.returns-in_ok-push-clause-value
returns-in_ok-push-clause-value c =
    let some : 0 < break_width c.args.text.now c.skip_blanks-first.result = rw c.skip_blanks-first.ensures c.requires.broke in
    let mark : IsMarked c.args.out.now.items c.if-width-eq3.out.items c.args.text.now c.skip_blanks-first.result = elim c.if-width-eq3.branch [
      | then-width-eq3+in_ok-extend_from_slice w ↦ marked_three c.args.out.now.items _ c.args.text.now c.skip_blanks-first.result _ c.break_width-width.ensures w.if-width-eq3.true (cc (w.in_ok-extend_from_slice.ensures.items, w.feed.ensures))
      | else-width-eq3 w ↦ marked_other c.args.out.now.items _ c.args.text.now c.skip_blanks-first.result _ c.break_width-width.ensures w.if-width-eq3.false (cc)
    ] in
    let done = fold_done c.args.out.now.items c.if-width-eq3.out.items c.push_breaks.new.out.items c.args.text.now c.args.from c.args.to c.skip_blanks-first.result c.skip_blanks-first.ensures some mark (rw c.break_width-width.ensures at c.in_ok-push_breaks.ensures.value) in
    c.in_ok-push.ensures.items ∙ done.0 (omega (arith, c.if-len-kept.true, c.len.ensures, c.len-kept.ensures, c.push_breaks.new.out.ok.0, c.args.out.now.ok.0))

pub returns-else-len-kept-clause-value : goal.returns-else-len-kept-clause-value
returns-else-len-kept-clause-value c =
    let some : 0 < break_width c.args.text.now c.skip_blanks-first.result = rw c.skip_blanks-first.ensures c.requires.broke in
    let mark : IsMarked c.args.out.now.items c.if-width-eq3.out.items c.args.text.now c.skip_blanks-first.result = elim c.if-width-eq3.branch [
      | then-width-eq3+in_ok-extend_from_slice w ↦ marked_three c.args.out.now.items _ c.args.text.now c.skip_blanks-first.result _ c.break_width-width.ensures w.if-width-eq3.true (cc (w.in_ok-extend_from_slice.ensures.items, w.feed.ensures))
      | else-width-eq3 w ↦ marked_other c.args.out.now.items _ c.args.text.now c.skip_blanks-first.result _ c.break_width-width.ensures w.if-width-eq3.false (cc)
    ] in
    let done = fold_done c.args.out.now.items c.if-width-eq3.out.items c.push_breaks.new.out.items c.args.text.now c.args.from c.args.to c.skip_blanks-first.result c.skip_blanks-first.ensures some mark (rw c.break_width-width.ensures at c.in_ok-push_breaks.ensures.value) in
    done.1 (λ same. c.if-len-kept.false (omega (arith, same, c.len.ensures, c.len-kept.ensures, c.push_breaks.new.out.ok.0, c.args.out.now.ok.0)))
