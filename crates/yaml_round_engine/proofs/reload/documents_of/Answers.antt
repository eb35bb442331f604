-- The answer is that of the input's reading.
use Rattle.std.proofs.Common.{subst}
use Rattle.yaml_round_content.specs.Input.{ReadsInput}
use Rattle.yaml_round_reading.specs.Input.{Input}
use Rattle.yaml_round_engine.proofs.reload.documents_of.Goals as goal

pub returns : goal.returns
returns c =
    c.documents_from-answer.ensures c.args.from c.args.input.now
    (subst (λ (i : Input). ReadsInput i.from i.bytes c.in_ok-reading.reading.parser) c.read_text-text.ensures c.in_ok-reading.ensures.reads)
