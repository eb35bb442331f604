use Rattle.yaml_emit_core.proofs.starts.asks_empty.Goals as goal

pub returns-in-SequenceStart : goal.returns-in-SequenceStart
returns-in-SequenceStart c = rw c.in-SequenceStart.is (rw c.is_flow_sequence.ensures at c.asks_at.ensures)

pub returns-in-MappingStart : goal.returns-in-MappingStart
returns-in-MappingStart c = rw c.in-MappingStart.is (rw c.is_flow_mapping.ensures at c.asks_at-in-MappingStart.ensures)
