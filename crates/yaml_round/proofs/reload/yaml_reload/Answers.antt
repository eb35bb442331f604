use Rattle.yaml_round_engine.proofs.Reloading.{reloaded, all_rooted, not_loaded}
use Rattle.yaml_round.proofs.reload.yaml_reload.Goals as goal

pub returns-in-Ok : goal.returns-in-Ok
returns-in-Ok c = reloaded c.args.from c.args.input.now c.args.settings.now c.in-Ok.documents.items c.written_documents-answer.result c.in-Ok.ensures c.written_documents-answer.ensures

pub returns-in-Err : goal.returns-in-Err
returns-in-Err c = not_loaded c.args.from c.args.settings.now c.args.input.now c.in-Err.fault c.in-Err.ensures

pub written_documents-answer-requires : goal.written_documents-answer-requires
written_documents-answer-requires c = all_rooted c.args.from c.args.input.now _ c.in-Ok.ensures
