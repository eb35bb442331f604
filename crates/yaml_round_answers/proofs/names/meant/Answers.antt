use Rattle.std.proofs.Common.{◌∙◌}
use Rattle.yaml_parse_loader.proofs.Found as found
use Rattle.yaml_round_answers.proofs.names.meant.Goals as goal

pub returns : goal.returns
returns c = c.copied.ensures ∙ c.get.ensures.value ∙ found.found c.args.name.now c.args.names.now.entries.entries
