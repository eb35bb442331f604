-- The documents of events, loaded one after another.
use Rattle.std.specs.Prelude.{List, [], ◌∷◌, Option, Some, None}
use Rattle.yaml_parse_model.specs.scan_types.Faults.{Fault}
use Rattle.yaml_parse_laws_trees.specs.parse_grammar.parse_model.Nodes.{Node}
use Rattle.yaml_parse_laws_trees.specs.parse_grammar.Resolve.{Told}
use Rattle.yaml_parse_model.specs.Documents.{Document}
use Rattle.yaml_parse_loader.specs.Loading.{Loading, LoadStep, goes_on, loaded, refused, nothing_loaded, step}

-- documents in order, and the fault that ends them
pub record Loads : Type 0 where
  pub documents : List Document
  pub fault : Option Fault

abbrev pub no_more : Option Fault → Loads
no_more f = record { documents = []; fault = f }

-- A document before the others. One without a root would end them.
abbrev pub in_front : List Node → Document → Loads → Loads
in_front [] d rest = no_more None
in_front (n ∷ ns) d rest = record {
  documents = d ∷ rest.documents;
  fault = rest.fault;
}

abbrev pub load_on : LoadStep → (Loading → Loads) → Loads
load_on (goes_on l) rest = rest l
load_on (loaded d) rest = in_front d.nodes d (rest nothing_loaded)
load_on (refused f) rest = no_more (Some f)

-- the documents of events with a fault after them, from a document in the making on
unfoldable pub load_all : List Told → Option Fault → Loading → Loads
load_all [] f l = no_more f
load_all (g ∷ gs) f l = load_on (step g.0 l) (load_all gs f)
