use Rattle.yaml_round_engine.proofs.Reloading.{dumped_text}
use Rattle.yaml_round_engine.proofs.reload.written_documents.Goals as goal

pub returns : goal.returns
returns c = dumped_text c.args.settings.now c.args.documents.now.items c.in_ok-emitter.emitter c.dump_stream.new.emitter c.finished.result c.in_ok-emitter.ensures.under c.dump_stream.ensures c.finished.ensures
