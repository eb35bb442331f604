-- Each byte before the place begins a character.
use Rattle.yaml_round_answers.proofs.Characters.{nearest}
use Rattle.yaml_round_answers.proofs.counting.Count.characters_before.Goals as goal

pub returns-then-self-clause-is : goal.returns-then-self-clause-is
returns-then-self-clause-is c = nearest _ c.args.place _ c.min-place.ensures (c.requires.single c.if-self.true)
