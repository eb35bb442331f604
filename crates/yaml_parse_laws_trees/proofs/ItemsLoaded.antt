-- What loading the items of a step gives.
use Rattle.std.proofs.Common.{◌≡◌, ℕ, List, [], ◌∷◌, ◌++◌, map, Option, Some, None, refl, arith}
use Rattle.yaml_parse_laws_trees.proofs.Words.{Fault, RawEvent, Given, Directives, Settled, gave, noted, settle, placed, Reading, reading, read_on, Loading, LoadStep, goes_on, loaded, nothing_loaded, step}
use Rattle.yaml_parse_laws_trees.specs.parse_grammar.parse_model.Nodes.{Node}
use Rattle.yaml_parse_laws_trees.specs.parse_grammar.Resolve as resolve
use Rattle.yaml_parse_loader.specs.Loading.{refused}
use Rattle.yaml_parse_laws_trees.proofs.Ends.{unless_rootless, fault_on, fault_of_loads}

-- loads end with that, or they go on
pub data Fared : Type 0 where
  ended : Option Fault → Fared
  onward : Directives → Loading → Fared

abbrev pub unless_empty : List Node → Fared → Fared
unless_empty [] r = ended None
unless_empty (n ∷ ns) r = r

abbrev pub then_fed : LoadStep → (Loading → Fared) → Fared
then_fed (goes_on l) k = k l
then_fed (loaded d) k = unless_empty d.nodes (k nothing_loaded)
then_fed (refused f) k = ended (Some f)

abbrev pub then_load : Settled → RawEvent → Loading → (Directives → Loading → Fared) → Fared
then_load (resolve.refused f) i l k = ended (Some f)
then_load (gave body ds) i l k = then_fed (step (placed body i) l) (k ds)
then_load (noted ds) i l k = k ds l

abbrev pub load_items : List RawEvent → Directives → Loading → Fared
load_items [] ds l = onward ds l
load_items (i ∷ is) ds l = then_load (settle i ds) i l (λ d m. load_items is d m)

abbrev pub fared_fault : Fared → (Directives → Loading → Option Fault) → Option Fault
fared_fault (ended f) k = f
fared_fault (onward ds l) k = k ds l

-- what loads of a reading end in
abbrev pub ends_in : Reading → Loading → Option Fault
ends_in r l = fault_of_loads r.events r.ending l

rootless : (ns : List Node) (f : Option Fault) (r : Fared) (m : Directives → Loading → Option Fault)
    → f ≡ fared_fault r m → unless_rootless ns f ≡ fared_fault (unless_empty ns r) m
rootless ns f r m h = grind arith

one_fed : (c : LoadStep) (k : Loading → Option Fault) (q : Loading → Fared)
    (m : Directives → Loading → Option Fault) → ((l : Loading) → k l ≡ fared_fault (q l) m)
    → fault_on c k ≡ fared_fault (then_fed c q) m
one_fed c k q m h = grind (arith, rootless)

one_load : (c : Settled) (i : RawEvent) (left : ℕ) (k : Directives → Reading) (l : Loading)
    (q : Directives → Loading → Fared) (m : Directives → Loading → Option Fault)
    → ((ds : Directives) (l : Loading) → ends_in (k ds) l ≡ fared_fault (q ds l) m)
    → ends_in (read_on c i left k) l ≡ fared_fault (then_load c i l q) m
unfolding fault_of_loads
one_load c i left k l q m h = grind (arith, one_fed)

pub front_loads : (is : List RawEvent) (left : ℕ) (gs : List Given) (f : Option Fault)
    (ds : Directives) (l : Loading)
    → ends_in (reading (map (λ (i : RawEvent). (i, left)) is ++ gs) f ds) l
    ≡ fared_fault (load_items is ds l) (λ d m. ends_in (reading gs f d) m)
unfolding reading
front_loads [] left gs f ds l = refl
front_loads (i ∷ is) left gs f ds l =
    one_load (settle i ds) i left (λ d. reading (map (λ (i : RawEvent). (i, left)) is ++ gs) f d) l (λ d m. load_items is d m) (λ d m. ends_in (reading gs f d) m) (λ d m. front_loads is left gs f d m)

pub last_loads : (is : List RawEvent) (left : ℕ) (f : Option Fault) (ds : Directives) (l : Loading)
    → ends_in (reading (map (λ (i : RawEvent). (i, left)) is) f ds) l
    ≡ fared_fault (load_items is ds l) (λ d m. f)
unfolding reading fault_of_loads
last_loads [] left f ds l = refl
last_loads (i ∷ is) left f ds l =
    one_load (settle i ds) i left (λ d. reading (map (λ (i : RawEvent). (i, left)) is) f d) l (λ d m. load_items is d m) (λ d m. f) (λ d m. last_loads is left f d m)
