use Rattle.std.proofs.Common.{◌≡◌, ◌∙◌, ◌≤◌, true, arith, ap, inl, inr, length, refl, subst, sym}
use Rattle.yaml_scan_core.specs.Rows.{failed, row_of}
use Rattle.yaml_scan_core.specs.declared.scanner.Scanner.{Scanner}
use Rattle.yaml_scan_core.specs.Scanning.{Fixed, Rests, history_of, read_by}
use Rattle.yaml_scan_core.specs.Waiting.{ReadsOne}
use Rattle.yaml_scan_core.specs.Handed.{HandsOn}
use Rattle.yaml_scan_core.proofs.BatchLemmas.{hands_advances, hands_fails, hands_none, hands_settled, hands_then}
use Rattle.yaml_scan_core.proofs.RestsLemmas.{advances_of, falls_of, few_counted, fits_settled, goes_on, is_over, may_settle, may_settle_fallen, rests_fallen, smaller}
use Rattle.yaml_scan_core.proofs.StepTaken.{counted}
use Rattle.yaml_scan_core.proofs.WaitsLemmas.{fails_one, one_read}
use Rattle.yaml_scan_core.proofs.scanner.Scanner.read_batch.Goals as goal

pub count-start-requires : goal.count-start-requires
count-start-requires c = few_counted c.args.self.now c.requires.shows

pub settle-requires : goal.settle-requires
settle-requires c =
    let i = c.steps.invariant in
    let f = falls_of c.steps.self c.step.new.self c.step.result (sym c.is_err.ensures.value ∙ c.if-is_err.true) c.step.ensures in
    (read_by c.steps.self, may_settle_fallen c.steps.self c.step.new.self i.shows i.more f)

pub fail-requires-clause-settled : goal.fail-requires-clause-settled
fail-requires-clause-settled c =
    let i = c.steps.invariant in
    let mid = c.step.new.self in
    let f = falls_of c.steps.self mid c.step.result (sym c.is_err.ensures.value ∙ c.if-is_err.true) c.step.ensures in
    let m = may_settle_fallen c.steps.self mid i.shows i.more f in
    let s = c.settle.ensures.settled (read_by c.steps.self) m in
    let few = fits_settled c.steps.self mid c.settle.new.self.row.settled f s.first in
    subst (λ (x : Scanner). c.settle.new.self.row.settled ≤ length x.row.lexemes.items) (sym c.settle.ensures.same) few

pub returns-then-is_err-clause-rests : goal.returns-then-is_err-clause-rests
returns-then-is_err-clause-rests c =
    let i = c.steps.invariant in
    let mid = c.step.new.self in
    let there = c.settle.new.self in
    let f = falls_of c.steps.self mid c.step.result (sym c.is_err.ensures.value ∙ c.if-is_err.true) c.step.ensures in
    let m = may_settle_fallen c.steps.self mid i.shows i.more f in
    let s = c.settle.ensures.settled (read_by c.steps.self) m in
    let row = c.fail.ensures.row ∙ ap (λ (x : Scanner). failed (row_of x.row)) c.settle.ensures.same in
    let it = rests_fallen c.steps.self mid there.keys there.row.settled c.fail.new.self.row f s.first row in
    subst (λ (x : Scanner). Rests x) (sym (c.fail.ensures.same ∙ ap (λ (x : Scanner). record x { ended = true; row = c.fail.new.self.row }) c.settle.ensures.same)) it

pub count-requires : goal.count-requires
count-requires c =
    let v = advances_of c.steps.self c.step.new.self c.step.result (sym c.is_err.ensures.value ∙ c.if-is_err.false) c.step.ensures in
    few_counted c.step.new.self v.shows

pub settle-requires-then-self-count : goal.settle-requires-then-self-count
settle-requires-then-self-count c =
    let v = advances_of c.steps.self c.step.new.self c.step.result (sym c.is_err.ensures.value ∙ c.if-is_err.false) c.step.ensures in
    (read_by c.step.new.self, may_settle c.step.new.self v.shows c.if-self.false)

pub returns-then-self-count-clause-rests : goal.returns-then-self-count-clause-rests
returns-then-self-count-clause-rests c =
    let mid = c.step.new.self in
    let there = c.settle-then-self-count.new.self in
    let v = advances_of c.steps.self mid c.step.result (sym c.is_err.ensures.value ∙ c.if-is_err.false) c.step.ensures in
    let s = c.settle-then-self-count.ensures.settled (read_by mid) (may_settle mid v.shows c.if-self.false) in
    let it = goes_on mid there v.shows c.if-self.false (omega (arith, v.one)) c.settle-then-self-count.ensures.keys s in
    subst (λ (x : Scanner). Rests x) (sym c.settle-then-self-count.ensures.same) (inl it)

pub steps-smaller : goal.steps-smaller
steps-smaller c =
    let i = c.steps.invariant in
    let v = advances_of c.steps.self c.step.new.self c.step.result (sym c.is_err.ensures.value ∙ c.if-is_err.false) c.step.ensures in
    smaller c.steps.self c.step.new.self i.shows v

pub steps-preserved : goal.steps-preserved
steps-preserved c =
    let i = c.steps.invariant in
    let v = advances_of c.steps.self c.step.new.self c.step.result (sym c.is_err.ensures.value ∙ c.if-is_err.false) c.step.ensures in
    let hands = hands_then c.args.self.now c.steps.self c.step.new.self i.hands (hands_advances c.steps.self c.step.new.self i.shows v) in
    let batch : c.step.new.self.batch ≡ c.args.self.now.batch = ap (λ (f : Fixed). f.batch) hands.fixed in
    record {
      shows = v.shows;
      some = omega (arith, v.one);
      more = c.if-self.false;
      text = v.text ∙ i.text;
      further = omega (arith, v.one, i.further);
      start = i.start;
      hands = hands;
      first = λ one. absurd (omega (arith, v.one, i.further, i.start, batch, one));
    }

pub steps-init : goal.steps-init
steps-init c = record {
  shows = c.requires.shows;
  some = c.requires.some;
  more = c.requires.more;
  text = refl;
  further = omega arith;
  start = c.count-start.ensures;
  hands = hands_none c.args.self.now;
  first = λ one. refl;
}

pub returns-then-is_err-clause-hands : goal.returns-then-is_err-clause-hands
returns-then-is_err-clause-hands c =
    let i = c.steps.invariant in
    let mid = c.step.new.self in
    let there = c.settle.new.self in
    let f = falls_of c.steps.self mid c.step.result (sym c.is_err.ensures.value ∙ c.if-is_err.true) c.step.ensures in
    let s = c.settle.ensures.settled (read_by c.steps.self) (may_settle_fallen c.steps.self mid i.shows i.more f) in
    let row = c.fail.ensures.row ∙ ap (λ (x : Scanner). failed (row_of x.row)) c.settle.ensures.same in
    let it = hands_fails c.steps.self mid there.keys there.row.settled c.fail.new.self.row i.shows f s.first row in
    hands_then c.args.self.now c.steps.self c.fail.new.self i.hands
    (subst (λ (x : Scanner). HandsOn c.steps.self x) (sym (c.fail.ensures.same ∙ ap (λ (x : Scanner). record x { ended = true; row = c.fail.new.self.row }) c.settle.ensures.same)) it)

pub returns-then-self-clause-rests : goal.returns-then-self-clause-rests
returns-then-self-clause-rests c =
    let mid = c.step.new.self in
    let v = advances_of c.steps.self mid c.step.result (sym c.is_err.ensures.value ∙ c.if-is_err.false) c.step.ensures in
    inr (inl (is_over mid c.len-self.result v.shows c.if-self.true (c.len-self.ensures ∙ mid.row.lexemes.ok.0)))

pub returns-then-self-clause-hands : goal.returns-then-self-clause-hands
returns-then-self-clause-hands c =
    let i = c.steps.invariant in
    let mid = c.step.new.self in
    let v = advances_of c.steps.self mid c.step.result (sym c.is_err.ensures.value ∙ c.if-is_err.false) c.step.ensures in
    hands_settled c.args.self.now mid mid.keys c.len-self.result (hands_then c.args.self.now c.steps.self mid i.hands (hands_advances c.steps.self mid i.shows v))

pub returns-then-self-count-clause-hands : goal.returns-then-self-count-clause-hands
returns-then-self-count-clause-hands c =
    let i = c.steps.invariant in
    let mid = c.step.new.self in
    let there = c.settle-then-self-count.new.self in
    let v = advances_of c.steps.self mid c.step.result (sym c.is_err.ensures.value ∙ c.if-is_err.false) c.step.ensures in
    let on = hands_then c.args.self.now c.steps.self mid i.hands (hands_advances c.steps.self mid i.shows v) in
    subst (λ (x : Scanner). HandsOn c.args.self.now x) (sym c.settle-then-self-count.ensures.same) (hands_settled c.args.self.now mid there.keys there.row.settled on)

pub returns-then-is_err-clause-one : goal.returns-then-is_err-clause-one
returns-then-is_err-clause-one c = λ one.
    let i = c.steps.invariant in
    let old = c.args.self.now in
    let mid = c.step.new.self in
    let there = c.settle.new.self in
    let f = falls_of c.steps.self mid c.step.result (sym c.is_err.ensures.value ∙ c.if-is_err.true) c.step.ensures in
    let s = c.settle.ensures.settled (read_by c.steps.self) (may_settle_fallen c.steps.self mid i.shows i.more f) in
    let row = c.fail.ensures.row ∙ ap (λ (x : Scanner). failed (row_of x.row)) c.settle.ensures.same in
    let it = fails_one c.steps.self mid there.keys there.row.settled c.fail.new.self.row f (sym (counted c.steps.self (history_of c.steps.self) i.shows.holds)) s.first row in
    subst (λ (x : Scanner). ReadsOne x c.fail.new.self) (i.first one)
    (subst (λ (x : Scanner). ReadsOne c.steps.self x) (sym (c.fail.ensures.same ∙ ap (λ (x : Scanner). record x { ended = true; row = c.fail.new.self.row }) c.settle.ensures.same)) it)

pub returns-then-self-clause-one : goal.returns-then-self-clause-one
returns-then-self-clause-one c = λ one.
    let i = c.steps.invariant in
    let mid = c.step.new.self in
    let v = advances_of c.steps.self mid c.step.result (sym c.is_err.ensures.value ∙ c.if-is_err.false) c.step.ensures in
    let over = is_over mid c.len-self.result v.shows c.if-self.true (c.len-self.ensures ∙ mid.row.lexemes.ok.0) in
    inl (inr over, one_read c.args.self.now c.steps.self mid v (i.first one))

pub returns-then-self-count-clause-one : goal.returns-then-self-count-clause-one
returns-then-self-count-clause-one c = λ one.
    let i = c.steps.invariant in
    let old = c.args.self.now in
    let mid = c.step.new.self in
    let there = c.settle-then-self-count.new.self in
    let v = advances_of c.steps.self mid c.step.result (sym c.is_err.ensures.value ∙ c.if-is_err.false) c.step.ensures in
    let s = c.settle-then-self-count.ensures.settled (read_by mid) (may_settle mid v.shows c.if-self.false) in
    let it = goes_on mid there v.shows c.if-self.false (omega (arith, v.one)) c.settle-then-self-count.ensures.keys s in
    subst (λ (x : Scanner). ReadsOne old x) (sym c.settle-then-self-count.ensures.same) (inl (inl it, one_read old c.steps.self mid v (i.first one)))
