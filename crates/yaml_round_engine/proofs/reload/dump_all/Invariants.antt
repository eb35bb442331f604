-- What was given is a front, and the others are left.
use Rattle.std.proofs.Common.{length, map, All}
use Rattle.yaml_emit.specs.Content.{documents_events}
use Rattle.yaml_emit.specs.emit_graph.Graph.{graph_content}
use Rattle.yaml_round_engine.specs.Reload.{HasRoot, FeedsEmitter, IsWithinStream}
use Rattle.yaml_round_engine.proofs.reload.dump_all.Given as goal

abbrev pub invariant-documents : goal.invariant-documents
invariant-documents l = record {
  stands : IsWithinStream l.emitter;
  rooted : All HasRoot l.documents.items;
  feeds : FeedsEmitter l.fn.emitter (documents_events (map graph_content l.fn.documents.items))
      l.emitter (documents_events (map graph_content l.documents.items));
}

abbrev pub decreases-documents : goal.decreases-documents
decreases-documents l = length l.documents.items
