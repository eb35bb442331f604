use Rattle.yaml_emit_core.proofs.emitter.Core.lay_out.Goals as goal

pub returns-in-Scalar : goal.returns-in-Scalar
returns-in-Scalar c = rw c.in-Scalar.is (c.lay_scalar.ensures c.args.empty)

pub returns-in-SequenceEnd : goal.returns-in-SequenceEnd
returns-in-SequenceEnd c = rw c.in-SequenceEnd.is (c.lay_end.ensures c.args.empty)

pub returns-in-MappingEnd : goal.returns-in-MappingEnd
returns-in-MappingEnd c = rw c.in-MappingEnd.is (c.lay_end-in-MappingEnd.ensures c.args.empty)

pub returns-in-Alias : goal.returns-in-Alias
returns-in-Alias c = rw c.in-Alias.is (c.lay_alias.ensures c.args.empty)

pub returns-in_default : goal.returns-in_default
returns-in_default c = c.lay_outer.ensures c.args.empty
