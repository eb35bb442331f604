-- The first ones are counted, and the others are as they were.
use Rattle.std.proofs.Common.{◌≡◌, ◌++◌, map, take, drop}
use Rattle.yaml_round_answers.specs.Characters.{Counts}
use Rattle.yaml_round_answers.specs.TokensCounted.{token_counted}
use Rattle.yaml_round_answers.proofs.token_counted.count_tokens.Given as goal

abbrev pub invariant-loop-i : goal.invariant-loop-i
invariant-loop-i l = record {
  counts : Counts l.text l.count;
  done : l.tokens.items ≡ map (token_counted l.text) (take l.i l.fn.tokens.items) ++ drop l.i l.fn.tokens.items;
}
