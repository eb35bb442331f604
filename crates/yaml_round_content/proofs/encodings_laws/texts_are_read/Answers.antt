use Rattle.yaml_round_content.proofs.OfText.{of_text}
use Rattle.yaml_round_content.proofs.EncodingsTexts.{none, reading}
use Rattle.yaml_round_content.proofs.encodings_laws.texts_are_read.Goals as goal

pub returns : goal.returns
returns c = record { tokens = of_text; none = none; reading = reading }
