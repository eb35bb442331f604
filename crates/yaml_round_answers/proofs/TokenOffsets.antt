-- Each field lies where the header says.
use Rattle.std.proofs.Common.{refl}
use Rattle.yaml_round_answers.specs.TokenOffsets.{TokenLies}

pub token_lies : TokenLies
token_lies = record {
  kind = record { is = λ d. refl; begins = refl };
  style = record { is = λ d. refl; begins = refl };
  encoding = record { is = λ d. refl; begins = refl };
  major = record { is = λ d. refl; begins = refl };
  minor = record { is = λ d. refl; begins = refl };
  handle = record { is = λ d. refl; begins = refl };
  value = record { is = λ d. refl; begins = refl };
  start = record { is = λ d. refl; begins = refl };
  end = record { is = λ d. refl; begins = refl };
}
