-- The comparison is of the first input's reading.
use Rattle.std.proofs.Common.{inl, subst}
use Rattle.yaml_round_content.specs.Input.{ReadsInput}
use Rattle.yaml_round_reading.specs.Input.{Input}
use Rattle.yaml_round_engine.proofs.compare.same_inputs.Goals as goal

pub returns-in-Err-clause-same : goal.returns-in-Err-clause-same
returns-in-Err-clause-same c = inl (inl c.in-Err.ensures.memory)

pub returns-in-Ok-clause-same : goal.returns-in-Ok-clause-same
returns-in-Ok-clause-same c =
    c.same_as-answer.ensures.same c.args.a_encoding c.args.a.now
    (subst (λ (i : Input). ReadsInput i.from i.bytes c.in-Ok.first.parser) c.read_text-text.ensures c.in-Ok.ensures.reads)

pub returns-in-Ok-clause-parting : goal.returns-in-Ok-clause-parting
returns-in-Ok-clause-parting c =
    c.same_as-answer.ensures.parting c.args.a_encoding c.args.a.now
    (subst (λ (i : Input). ReadsInput i.from i.bytes c.in-Ok.first.parser) c.read_text-text.ensures c.in-Ok.ensures.reads)
