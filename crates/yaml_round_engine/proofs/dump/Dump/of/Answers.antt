-- What is to come is the document's dump.
use Rattle.std.proofs.Common.{List, map, ap, ◌∙◌}
use Rattle.yaml_emit_graph.specs.emit_layout.Content as emit
use Rattle.yaml_round_engine.specs.Dumps.{said}
use Rattle.yaml_round_engine.proofs.Dumping.{dumped_said}
use Rattle.yaml_round_engine.proofs.dump.Dump.of.Goals as goal

pub returns : goal.returns
returns c = (c.in_ok-events.ensures.0, ap (λ (es : List emit.Event). map said es) c.in_ok-events.ensures.1 ∙ dumped_said c.args.document)
