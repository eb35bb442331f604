use Rattle.std.proofs.Common.{rules}
use Rattle.yaml_parse_model.proofs.document.adding.push_entry.Goals as goal

pub returns : goal.returns
returns g c = search rules
