-- What C receives of a dump whose document is given as records.
use Rattle.std.specs.Prelude.{◌≡◌, ◌⊎◌, pos, Bool, true, false, List, [], Option, None, Some}
use Rattle.yaml_parse.specs.declared.yaml_origin_t.TheVariants.{Emitter}
use Rattle.yaml_parse.specs.scan_types.Faults.{memory_fault}
use Rattle.yaml_parse.specs.Documents.{Document}
use Rattle.yaml_round_answers.specs.declared.graph_record.yaml_c_graph.{yaml_c_graph}
use Rattle.yaml_round_answers.specs.declared.graph_record.yaml_c_turn.{yaml_c_turn}
use Rattle.yaml_round_answers.specs.Graphs.{are_nodes, Shows}
use Rattle.yaml_round_answers.specs.Turns.{turns_by, TellsTurns}
use Rattle.yaml_round_answers.specs.declared.answer.yaml_c_answer.{yaml_c_answer}
use Rattle.yaml_round_answers.specs.Told.{TellsText, TellsFault}

abbrev pub graph_if : Bool → yaml_c_graph → Option yaml_c_graph
graph_if true g = Some g
graph_if false g = None

-- the records of nodes, where each means one
abbrev pub graph_meant : yaml_c_graph → Option yaml_c_graph
graph_meant g = graph_if (are_nodes g.held.now g.nodes.now) g

-- the turns are those of the walk over the records, and so those of the dump of each document that they show
pub record AreTurns (g : yaml_c_graph) (given : List yaml_c_turn) : Type 0 where
  pub walk : given ≡ turns_by g
  pub dump : (d : Document) → Shows g d.nodes → TellsTurns d given

-- C receives the turns, or that memory was refused.
abbrev pub Serializes : List yaml_c_turn → yaml_c_graph → yaml_c_answer → Type 0
Serializes given g a = TellsFault (memory_fault Emitter) (pos 0) a
    ⊎ (TellsText [] (pos 0) a × AreTurns g given)
