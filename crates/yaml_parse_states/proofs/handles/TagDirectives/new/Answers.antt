use Rattle.yaml_parse_states.proofs.HandleTable.{none_told}
use Rattle.yaml_parse_states.proofs.handles.TagDirectives.new.Goals as goal

pub invariant_of-result : goal.invariant_of-result
invariant_of-result c = none_told c.new-2.result.entries c.new.result.items c.new-2.ensures.empty c.new.ensures.items
