use Rattle.std.proofs.Common.{refl}
use Rattle.yaml_parse_model.proofs.node.yaml_node_tag_t.as_slice.Goals as goal

pub returns-in-Map : goal.returns-in-Map
returns-in-Map c = rw c.in-Map.is refl
