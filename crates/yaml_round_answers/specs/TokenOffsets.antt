-- Where the fields of a token's record lie.
use Rattle.yaml_round_answers.specs.EventOffsets.{LiesAt}
use Rattle.yaml_round_answers.specs.contracts.token_record.yaml_c_token as token

-- the layout that the header asserts
pub record TokenLies : Type 0 where
  pub kind : LiesAt token.the_type 0 (λ d. d.kind) 0
  pub style : LiesAt token.the_type 1 (λ d. d.style) 4
  pub encoding : LiesAt token.the_type 2 (λ d. d.encoding) 8
  pub major : LiesAt token.the_type 3 (λ d. d.major) 12
  pub minor : LiesAt token.the_type 4 (λ d. d.minor) 16
  pub handle : LiesAt token.the_type 5 (λ d. d.handle) 24
  pub value : LiesAt token.the_type 6 (λ d. d.value) 40
  pub start : LiesAt token.the_type 7 (λ d. d.start) 56
  pub end : LiesAt token.the_type 8 (λ d. d.end) 88
