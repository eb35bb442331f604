use Rattle.yaml_parse_states.proofs.HandleTable.{none_told}
use Rattle.yaml_parse_states.proofs.handles.TagDirectives.clear.Goals as goal

pub invariant_of-self : goal.invariant_of-self
invariant_of-self c = none_told c.clear-2.new.self.entries c.clear.new.self.items c.clear-2.ensures.empty c.clear.ensures.items
