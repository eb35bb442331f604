-- What is between the two places is counted.
use Rattle.std.proofs.Common.{◌∙◌, ap, arith}
use Rattle.yaml_round_answers.specs.declared.counting.Count.{Count}
use Rattle.yaml_round_answers.proofs.Characters.{off, went_on, went_back}
use Rattle.yaml_round_answers.proofs.counting.Count.go_to.Goals.{then-self-place, else-self-place}
use Rattle.yaml_round_answers.proofs.counting.Count.go_to.Goals as goal

pub overflow_sub-self : goal.overflow_sub-self
overflow_sub-self c = off _ c.args.place c.args.self.now.place _ _ (omega (arith, c.if-self-place.false)) c.requires.within c.requires.counts.is c.characters-else-self-place.ensures

pub returns-clause-counts : goal.returns-clause-counts
returns-clause-counts c = record {
  single = elim c.if-self-place.branch [
    | then-self-place w ↦ rw w.self-is c.requires.counts.single
    | else-self-place w ↦ rw w.self-is c.requires.counts.single
  ];
  within = c.requires.within;
  is = elim c.if-self-place.branch [
    | then-self-place w ↦ ap (λ (x : Count). x.characters) w.self-is ∙ went_on _ c.args.self.now.place c.args.place _ _ w.if-self-place.true c.requires.counts.within c.requires.counts.is w.characters.ensures
    | else-self-place w ↦ ap (λ (x : Count). x.characters) w.self-is ∙ went_back _ c.args.place c.args.self.now.place _ _ (omega (arith, w.if-self-place.false)) c.requires.within c.requires.counts.is w.characters-else-self-place.ensures
  ];
}
