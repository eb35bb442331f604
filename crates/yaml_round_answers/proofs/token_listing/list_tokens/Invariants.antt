-- The tokens that were taken are listed.
use Rattle.std.proofs.Common.{length}
use Rattle.yaml_round_answers.proofs.TokensAdding.{Listed}
use Rattle.yaml_round_answers.proofs.token_listing.list_tokens.Given as goal

abbrev pub invariant-tokens : goal.invariant-tokens
invariant-tokens l = Listed l.fn.session.remaining l.session.remaining l.listing

abbrev pub decreases-tokens : goal.decreases-tokens
decreases-tokens l = length l.session.remaining.tokens
