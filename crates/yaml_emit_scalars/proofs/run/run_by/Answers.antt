use Rattle.yaml_emit_scalars.proofs.RunLemmas.{first_narrow}
use Rattle.yaml_emit_scalars.proofs.run.run_by.Goals as goal

pub returns-clause-narrow : goal.returns-clause-narrow
returns-clause-narrow c = first_narrow c.args.classes c.args.from c.args.to _ c.args.text.now c.requires.wide c.requires.places.1 c.first_of.ensures
