-- The first document is given, and the others are left.
use Rattle.std.proofs.Common.{◌∙◌, map}
use Rattle.yaml_emit.specs.Content.{documents_events}
use Rattle.yaml_emit.specs.emit_graph.Graph.{graph_content}
use Rattle.yaml_round_engine.proofs.Reloading.{first_rooted, others_rooted, feeds_next, feeds_all, none_left, not_none}
use Rattle.yaml_round_engine.proofs.reload.dump_all.Goals as goal

pub documents-preserved : goal.documents-preserved
documents-preserved c =
    let e = c.in-Some.ensures.items in
    let k = c.documents.invariant in
    record {
      stands = record { opened = c.in-Ok.ensures.opened; closed = c.yaml_emitter_dump.ensures.closed (first_rooted _ _ _ e k.rooted) ∙ k.stands.closed };
      rooted = others_rooted _ _ _ e k.rooted;
      feeds = feeds_next _ _ _ _ _ _ _ e k.stands.opened k.rooted c.yaml_emitter_dump.ensures.takes k.feeds;
    }

pub returns-in-None : goal.returns-in-None
returns-in-None c = (feeds_all _ _ _ _ (none_left _ _ c.in-None.ensures.items c.in-None.ensures.rest) c.documents.invariant.feeds, c.documents.invariant.stands)

pub returns-in-Err : goal.returns-in-Err
returns-in-Err c =
    let e = c.in-Some.ensures.items in
    let k = c.documents.invariant in (
      documents_events (map graph_content c.pop_front.new.self.items),
      (feeds_next _ _ _ _ _ _ _ e k.stands.opened k.rooted c.yaml_emitter_dump.ensures.takes k.feeds, not_none _ _ c.in-Err.ensures.answer),
    )
