use Rattle.std.proofs.Common.{w32, rules, refl}
use Rattle.std.proofs.lemmas.Int.{to_z-of_z}
use Rattle.yaml_parse_model.proofs.prefix.yaml_parser_t_prefix.of.Goals as goal

pub returns : goal.returns
returns c = rw (to_z-of_z w32 c.args.fault.now.value (search rules)) refl
