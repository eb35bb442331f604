-- One more token is counted.
use Rattle.std.proofs.Common.{◌∙◌, ap, slice_set, arith}
use Rattle.std.proofs.lemmas.List.Edits.{map_over_more}
use Rattle.yaml_round_answers.specs.TokensCounted.{token_counted}
use Rattle.yaml_round_answers.proofs.token_counted.count_tokens.Goals as goal

pub loop-i-preserved : goal.loop-i-preserved
loop-i-preserved c = record {
  counts = c.count_token.ensures.counts;
  done = ap (λ e. slice_set c.loop-i.tokens.items c.loop-i.i e) c.count_token.ensures.is
      ∙ map_over_more (token_counted c.args.text.now) c.args.tokens.now.items c.loop-i.tokens.items c.loop-i.i c.index_mut.result.now
      (omega (arith, c.loop-i-test.true)) c.loop-i.invariant.done c.index_mut.ensures.value;
}
