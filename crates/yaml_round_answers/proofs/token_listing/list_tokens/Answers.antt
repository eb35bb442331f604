-- One more token is listed.
use Rattle.std.proofs.Common.{rules, refl}
use Rattle.yaml_round_answers.proofs.TokensAdding.{one_listed}
use Rattle.yaml_round_answers.proofs.token_listing.list_tokens.Goals as goal

pub tokens-preserved : goal.tokens-preserved
tokens-preserved c =
    one_listed _ _ _ _ _ _ c.tokens.invariant (search rules) (c.if-not-yaml_parser_has_token.ensures.first refl) c.in-Ok-list_next.ensures
