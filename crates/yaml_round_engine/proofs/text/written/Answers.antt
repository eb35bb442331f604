-- The answer is that of the input's reading.
use Rattle.std.proofs.Common.{◌≡◌, [], IfOk, subst}
use Rattle.yaml_scan_types.specs.Faults.{Answers}
use Rattle.yaml_round_content.specs.Input.{events_of}
use Rattle.yaml_round_reading.specs.Input.{Input}
use Rattle.yaml_round_engine.specs.Layers.{reformat_layers}
use Rattle.yaml_round_engine.specs.Answers.{IsWrittenIn, bytes_of}
use Rattle.yaml_round_engine.specs.Writing.{comes_to_nothing}
use Rattle.yaml_round_engine.proofs.text.written.Goals as goal

pub returns-clause-text : goal.returns-clause-text
returns-clause-text c =
    subst (λ (i : Input). Answers reformat_layers bytes_of (IsWrittenIn c.args.form.now i.from c.args.settings.now i.bytes) c.written_from-answer.result)
    c.read_text-text.ensures c.written_from-answer.ensures.text

pub returns-clause-beginning : goal.returns-clause-beginning
returns-clause-beginning c =
    subst (λ (i : Input). IfOk c.written_from-answer.result (λ _. comes_to_nothing c.args.form.now (events_of i.from i.bytes) ≡ comes_to_nothing c.written_from-answer.new.form []))
    c.read_text-text.ensures c.written_from-answer.ensures.beginning
