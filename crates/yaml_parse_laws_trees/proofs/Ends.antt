-- The fault that loads end in, event by event.
use Rattle.std.proofs.Common.{◌≡◌, List, [], ◌∷◌, Option, Some, None, refl, arith}
use Rattle.yaml_parse_laws_trees.proofs.Words.{Fault, Told, Document, Loading, LoadStep, goes_on, loaded, nothing_loaded, step}
use Rattle.yaml_parse_laws_trees.specs.parse_grammar.parse_model.Nodes.{Node}
use Rattle.yaml_parse_loader.specs.Loading.{refused}
use Rattle.yaml_parse_laws_trees.specs.AllLoads.{Loads, in_front, load_on, load_all}

-- a document without a root ends them
abbrev pub unless_rootless : List Node → Option Fault → Option Fault
unless_rootless [] f = None
unless_rootless (n ∷ ns) f = f

abbrev pub fault_on : LoadStep → (Loading → Option Fault) → Option Fault
fault_on (goes_on l) rest = rest l
fault_on (loaded d) rest = unless_rootless d.nodes (rest nothing_loaded)
fault_on (refused f) rest = Some f

-- of events with a fault after them, from a document in the making on
unfoldable pub fault_of_loads : List Told → Option Fault → Loading → Option Fault
fault_of_loads [] f l = f
fault_of_loads (g ∷ gs) f l = fault_on (step g.0 l) (fault_of_loads gs f)

-- ---- it is the fault after all documents

in_front_alike : (ns : List Node) (d : Document) (rest : Loads) (f : Option Fault) → rest.fault ≡ f
    → (in_front ns d rest).fault ≡ unless_rootless ns f
in_front_alike ns d rest f h = grind arith

on_alike : (c : LoadStep) (p : Loading → Loads) (q : Loading → Option Fault)
    → ((l : Loading) → (p l).fault ≡ q l) → (load_on c p).fault ≡ fault_on c q
on_alike c p q h = grind (arith, in_front_alike)

pub faults_alike : (gs : List Told) (f : Option Fault) (l : Loading)
    → (load_all gs f l).fault ≡ fault_of_loads gs f l
unfolding load_all fault_of_loads
faults_alike [] f l = refl
faults_alike (g ∷ gs) f l = on_alike (step g.0 l) (load_all gs f) (fault_of_loads gs f) (λ m. faults_alike gs f m)
