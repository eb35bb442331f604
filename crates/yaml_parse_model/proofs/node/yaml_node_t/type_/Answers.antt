use Rattle.std.proofs.Common.{refl}
use Rattle.yaml_parse_model.proofs.node.yaml_node_t.type_.Goals as goal

pub returns-in-Mapping : goal.returns-in-Mapping
returns-in-Mapping c = rw c.in-Mapping.is refl
