use Rattle.std.proofs.Common.{arith, rules, ◌≡◌, ◌∙◌, false, inl, refl}
use Rattle.yaml_scan_core.proofs.Words.{nat_tests}
use Rattle.yaml_scan_core.specs.Rows.{row_of}
use Rattle.yaml_scan_core.proofs.BatchLemmas.{hands_dropped, hands_then}
use Rattle.yaml_scan_core.proofs.RestsLemmas.{few_counted, going_dropped, going_of, one_waits, reads_on, taken_settled}
use Rattle.yaml_scan_core.proofs.AskedLemmas.{batch_same, come_same, stream_same}
use Rattle.yaml_scan_core.proofs.RestsLemmas.{settled_read}
use Rattle.yaml_scan_core.proofs.WaitsLemmas.{needs_dropped, needs_then, waits_not}
use Rattle.yaml_scan_core.proofs.scanner.Scanner.read_on.Goals as goal

pub drop_taken-requires-clause-few : goal.drop_taken-requires-clause-few
drop_taken-requires-clause-few c = few_counted c.args.self.now c.requires.shows

pub batches-init : goal.batches-init
batches-init c = record {
  rests = inl (going_dropped c.args.self.now c.drop_taken.new.self c.requires c.drop_taken.ensures);
  text = refl;
  hands = hands_dropped c.args.self.now c.drop_taken.new.self c.drop_taken.ensures;
  needs = λ one. needs_dropped c.args.self.now c.drop_taken.new.self c.requires c.drop_taken.ensures;
}

pub read_batch-requires-clause-shows : goal.read_batch-requires-clause-shows
read_batch-requires-clause-shows c =
    let e : c.batches.self.ended ≡ false = search rules in
    (going_of c.batches.self c.batches.invariant.rests e).shows

pub batches-smaller : goal.batches-smaller
batches-smaller c =
    let e : c.batches.self.ended ≡ false = search rules in
    reads_on c.batches.self c.read_batch.new.self (going_of c.batches.self c.batches.invariant.rests e) c.read_batch.ensures.rests c.read_batch.ensures.further c.read_batch.ensures.text

pub batches-preserved : goal.batches-preserved
batches-preserved c =
    let i = c.batches.invariant in
    let e : c.batches.self.ended ≡ false = search rules in
    record {
      rests = c.read_batch.ensures.rests;
      text = c.read_batch.ensures.text ∙ i.text;
      hands = hands_then c.args.self.now c.batches.self c.read_batch.new.self i.hands c.read_batch.ensures.hands;
      needs = λ one.
          let s = c.batches.self in
          let g = going_of s i.rests e in
          let hands = i.hands in
          let batch : s.batch ≡ 1 = batch_same c.args.self.now s hands ∙ one in
          let none = waits_not s c.waiting.result (grind (arith, nat_tests, c.if-waiting-self.true, batch)) (settled_read s i.rests) c.waiting.ensures.ends c.waiting.ensures.none in
          let stream = stream_same c.args.self.now s hands i.text in
          needs_then c.args.self.now s c.read_batch.new.self (i.needs one) g none (c.read_batch.ensures.one batch) c.read_batch.ensures.text c.read_batch.ensures.hands.taken stream
          (come_same c.args.self.now s hands i.text);
    }

pub returns-else-waiting-self-clause-hands : goal.returns-else-waiting-self-clause-hands
returns-else-waiting-self-clause-hands c = c.batches.invariant.hands

pub returns-else-waiting-self-clause-needs : goal.returns-else-waiting-self-clause-needs
returns-else-waiting-self-clause-needs c = c.batches.invariant.needs

pub returns-else-waiting-self-clause-waits : goal.returns-else-waiting-self-clause-waits
returns-else-waiting-self-clause-waits c = λ going some.
    let s = c.batches.self in
    one_waits (row_of s.row) s.batch c.waiting.result (taken_settled s c.batches.invariant.rests) some (grind (arith, nat_tests, c.if-waiting-self.false))
    c.waiting.ensures.ends c.waiting.ensures.none
