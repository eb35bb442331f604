use Rattle.std.proofs.Common.{◌∙◌, [], refl, sym}
use Rattle.yaml_emit_graph.specs.Graph.{dumped}
use Rattle.yaml_emit_machine.proofs.Ending.{dumped_out}
use Rattle.yaml_emit_machine.proofs.Dumped.{dumped_some, dumps_whole}
use Rattle.yaml_emit_machine.proofs.emitter.dump.dump_document.Goals as goal

pub returns-then-not-is_right : goal.returns-then-not-is_right
returns-then-not-is_right c = record {
  takes = c.is_right.ensures.stuck c.if-not-is_right.true (dumped c.args.document.now) [];
  memory = λ n. refl;
  keeps = (refl, refl);
}

pub dump_events-requires-clause-some : goal.dump_events-requires-clause-some
dump_events-requires-clause-some c = λ none. dumped_some c.args.document.now (sym c.in-Ok.ensures.1 ∙ none)

pub returns-in-Ok-clause-takes : goal.returns-in-Ok-clause-takes
returns-in-Ok-clause-takes c =
    let begun = c.is_right.ensures.running c.requires in
    let dumps = rw c.in-Ok.ensures.1 at c.dump_events.ensures.dumps in
    dumps_whole _ _ _ begun (dumped_out _ c.args.document.now) dumps c.dump_events.ensures.none

pub returns-in-Err : goal.returns-in-Err
returns-in-Err c = let dumps = c.starve.ensures.dumps _ in record { takes = dumps.takes; memory = dumps.memory; keeps = dumps.keeps }
