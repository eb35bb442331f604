use Rattle.yaml_round_engine.proofs.Reloading.{loaded_document, loaded_last, load_refused}
use Rattle.yaml_round_engine.proofs.reload.next_document.Goals as goal

pub returns-in-Err-clause-next : goal.returns-in-Err-clause-next
returns-in-Err-clause-next c = load_refused c.args.reading.now.parser c.load.new.self.parser c.in-Err.fault c.load.ensures.by_content c.in-Err.ensures.refused

pub returns-then-node_count-eq0-clause-next : goal.returns-then-node_count-eq0-clause-next
returns-then-node_count-eq0-clause-next c =
    loaded_last c.args.reading.now.parser c.load.new.self.parser c.in-Ok.document c.node_count.result c.load.ensures.by_content c.in-Ok.ensures.next c.node_count.ensures c.if-node_count-eq0.true

pub returns-else-node_count-eq0-clause-next : goal.returns-else-node_count-eq0-clause-next
returns-else-node_count-eq0-clause-next c =
    loaded_document c.args.reading.now.parser c.load.new.self.parser c.in-Ok.document c.yaml_document_set_end_implicit.new.document c.node_count.result
    c.load.ensures.by_content c.in-Ok.ensures.next c.node_count.ensures c.node_count.type_inv c.if-node_count-eq0.false c.yaml_document_set_end_implicit.ensures
