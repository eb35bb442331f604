use Rattle.std.proofs.Common.{◌≡◌, true, false, rules}
use Rattle.yaml_round_answers.proofs.Dumping.{turns_told, memory_told, graph_told, no_graph_told}
use Rattle.yaml_round_answers.proofs.serializing.serialized_by.Goals as goal

pub returns-then-not-is_graph-clause-told : goal.returns-then-not-is_graph-clause-told
returns-then-not-is_graph-clause-told c =
    let no : c.is_graph.result ≡ false = search rules in
    no_graph_told c.args.graph.now _ _ _ c.is_graph.ensures no c.misused.ensures

pub returns-in-Ok-clause-told : goal.returns-in-Ok-clause-told
returns-in-Ok-clause-told c =
    let yes : c.is_graph.result ≡ true = search rules in
    graph_told c.args.graph.now _ _ _ c.is_graph.ensures yes (turns_told c.args.graph.now _ _ _ c.handed_out-turns.ensures c.in-Ok.ensures c.said.ensures)

pub returns-in-Err-clause-told : goal.returns-in-Err-clause-told
returns-in-Err-clause-told c =
    let yes : c.is_graph.result ≡ true = search rules in
    graph_told c.args.graph.now _ _ _ c.is_graph.ensures yes (memory_told c.args.graph.now _ _ _ c.yaml_memory_fault.ensures c.refused.ensures)
