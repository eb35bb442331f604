use Rattle.yaml_round_content.proofs.AdaptedLemmas.{same_test}
use Rattle.yaml_round_reading.proofs.refusal.is_text.Goals as goal

pub returns : goal.returns
returns c = same_test c.is_utf8.result c.args.bytes.now c.is_utf8.ensures
