-- The answer is that of the input's text.
use Rattle.std.proofs.Common.{subst}
use Rattle.yaml_scan_model.specs.scan_types.Faults.{Answers}
use Rattle.yaml_round_engine.specs.round_reading.Input.{Input}
use Rattle.yaml_round_engine.specs.Layers.{list_layers}
use Rattle.yaml_round_engine.specs.Answers.{IsListed, bytes_of}
use Rattle.yaml_round.proofs.engine.yaml_events.Goals as goal

pub returns : goal.returns
returns c =
    subst (λ (i : Input). Answers list_layers bytes_of (IsListed i.from i.bytes) c.lines_in-answer.result)
    c.read_text-text.ensures c.lines_in-answer.ensures
