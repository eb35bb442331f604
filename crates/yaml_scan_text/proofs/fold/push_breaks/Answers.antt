use Rattle.std.proofs.Common.{◌≡◌, ◌++◌, ap, sym, ◌∙◌, arith, append-nil}
use Rattle.yaml_scan_text.proofs.Words.{feed_at}
use Rattle.yaml_scan_text.proofs.FoldsLemmas.{blanks_behind, keeps_more, keeps_same, feeds_behind, feeds_done, feeds_step, step_inside}
use Rattle.yaml_scan_text.proofs.fold.push_breaks.Goals as goal

pub breaks-init : goal.breaks-init
breaks-init c = record {
  value = ap (λ x. c.args.out.now.items ++ x) (feeds_behind c.args.text.now c.args.from c.args.to c.skip_blanks-at.result c.skip_blanks-at.ensures);
  kept = keeps_same c.args.out.now.items;
}

pub overflow_add-at : goal.overflow_add-at
overflow_add-at c =
    let inside = step_inside c.args.text.now c.breaks.at c.args.to c.breaks-test.true c.requires in
    omega arith

pub breaks-smaller : goal.breaks-smaller
breaks-smaller c = omega (arith, blanks_behind c.args.text.now _ c.skip_blanks-at-in-breaks.result c.skip_blanks-at-in-breaks.ensures)

pub breaks-preserved : goal.breaks-preserved
breaks-preserved c =
    let text = c.args.text.now in
    let out : c.extend_from_slice.new.self.items ≡ c.breaks.out.items ++ feed_at text c.breaks.at = cc (c.in_ok-extend_from_slice.ensures.items, c.feed.ensures) in
    record {
      value = ap (λ x. c.extend_from_slice.new.self.items ++ x) (feeds_behind text _ c.args.to c.skip_blanks-at-in-breaks.result c.skip_blanks-at-in-breaks.ensures)
          ∙ feeds_step (c.args.out.now.items ++ _) c.breaks.out.items c.extend_from_slice.new.self.items text c.breaks.at c.args.to _ c.breaks-test.true (omega arith) out c.breaks.invariant.value;
      kept = keeps_more c.args.out.now.items c.breaks.out.items c.extend_from_slice.new.self.items _ c.breaks.invariant.kept out;
    }

pub returns-clause-value : goal.returns-clause-value
returns-clause-value c =
    let none = feeds_done c.args.text.now c.breaks.at c.args.to c.breaks-test.false in
    sym (append-nil c.breaks.out.items) ∙ rw none at c.breaks.invariant.value
