use Rattle.std.proofs.Common.{true, false, refl}
use Rattle.yaml_emit_core.proofs.Lending.{start_same}
use Rattle.yaml_emit_core.proofs.emitter.Core.lay_opening.Goals as goal

pub returns-in-SequenceStart : goal.returns-in-SequenceStart
returns-in-SequenceStart c = rw c.in-SequenceStart.is (start_same true _ _ _ _ _ _ _ _ _ _ refl refl c.is_flow_sequence.ensures c.lay_start.ensures)

pub returns-in-MappingStart : goal.returns-in-MappingStart
returns-in-MappingStart c = rw c.in-MappingStart.is (start_same false _ _ _ _ _ _ _ _ _ _ refl refl c.is_flow_mapping.ensures c.lay_start-in-MappingStart.ensures)
