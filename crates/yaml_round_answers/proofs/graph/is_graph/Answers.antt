use Rattle.std.proofs.Common.{rules}
use Rattle.std.proofs.lemmas.Iterator.{YieldsList-from_slice}
use Rattle.std.proofs.lemmas.Iterator.Search.{all_from_yields_List}
use Rattle.yaml_round_answers.specs.Graphs.{is_node}
use Rattle.yaml_round_answers.proofs.graph.is_graph.Goals as goal

pub returns : goal.returns
returns c =
    all_from_yields_List (is_node c.args.graph.now.held.now) _ _ c.all.result c.all.ensures.ran (YieldsList-from_slice c.args.graph.now.nodes.now cc) (λ x b q k. search rules)
