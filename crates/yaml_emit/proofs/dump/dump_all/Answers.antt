use Rattle.std.proofs.Common.{[]}
use Rattle.yaml_emit_machine.proofs.Taking.{notes_on}
use Rattle.yaml_emit.proofs.dump.dump_all.Goals as goal

pub returns-then-open_if_needed-clause-memory : goal.returns-then-open_if_needed-clause-memory
returns-then-open_if_needed-clause-memory c = notes_on c.args.emitter.now c.open_if_needed.new.emitter c.dump_nodes.new.emitter (c.open_if_needed.ensures.takes []).going c.dump_nodes.ensures.takes.going c.open_if_needed.ensures.memory c.dump_nodes.ensures.memory
