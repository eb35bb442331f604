use Rattle.std.proofs.Common.{◌∙◌, ap, length, arith}
use Rattle.std.specs.Prelude.{◌+◌, nat_le}
use Rattle.std.proofs.lemmas.Bool.{leb-true}
use Rattle.yaml_emit_scalars.proofs.Words.{run_uncut, run_unspaced, run_fits, word_ended, word_uncut, word_unspaced, word_spaced}
use Rattle.yaml_emit_scalars.proofs.word.is_run.Goals as goal

pub returns-then-not-cuts-clause-run : goal.returns-then-not-cuts-clause-run
returns-then-not-cuts-clause-run c = λ _. run_uncut c.args.body c.args.cuts _ _ c.args.classes _ c.requires (rw c.stops_of.ensures at c.if-classes-stops_of-ne0.false) c.if-not-cuts.true

pub returns-then-classes-eq0-clause-run : goal.returns-then-classes-eq0-clause-run
returns-then-classes-eq0-clause-run c = λ _. run_unspaced c.args.body c.args.cuts _ _ c.args.classes _ c.requires (rw c.stops_of.ensures at c.if-classes-stops_of-ne0.false) c.if-classes-eq0.true

pub returns-clause-run : goal.returns-clause-run
returns-clause-run c = λ h. run_fits c.args.body c.args.cuts _ _ c.args.classes _ c.requires (rw c.stops_of.ensures at c.if-classes-stops_of-ne0.false) (let few = leb-true _ _ h in let left = c.left.ensures in omega (arith, few, left))

pub returns-then-classes-stops_of-ne0-clause-is : goal.returns-then-classes-stops_of-ne0-clause-is
returns-then-classes-stops_of-ne0-clause-is c = word_ended c.args.body c.args.cuts c.args.classes _ _ (rw c.stops_of.ensures at c.if-classes-stops_of-ne0.true)

pub returns-then-not-cuts-clause-is : goal.returns-then-not-cuts-clause-is
returns-then-not-cuts-clause-is c = word_uncut c.args.body c.args.cuts c.args.classes _ _ (rw c.stops_of.ensures at c.if-classes-stops_of-ne0.false) c.if-not-cuts.true

pub returns-then-classes-eq0-clause-is : goal.returns-then-classes-eq0-clause-is
returns-then-classes-eq0-clause-is c = word_unspaced c.args.body c.args.cuts c.args.classes _ _ (rw c.stops_of.ensures at c.if-classes-stops_of-ne0.false) c.if-not-cuts.false c.if-classes-eq0.true

pub returns-clause-is : goal.returns-clause-is
returns-clause-is c = ap (λ z. nat_le (length c.args.text.now + 8) z) c.left.ensures ∙ word_spaced c.args.body c.args.cuts c.args.classes _ _ (rw c.stops_of.ensures at c.if-classes-stops_of-ne0.false) c.if-not-cuts.false c.if-classes-eq0.false
