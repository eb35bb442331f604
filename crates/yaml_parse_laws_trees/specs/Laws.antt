-- What loads end in is the list's fault.
use Rattle.std.specs.Prelude.{◌≡◌, ℕ, List, Option}
use Rattle.yaml_parse_model.specs.scan_types.Tokens.{Token}
use Rattle.yaml_parse_model.specs.scan_types.Faults.{Fault}
use Rattle.yaml_parse_laws_trees.specs.parse_grammar.Machine.{run, initial}
use Rattle.yaml_parse_laws_trees.specs.parse_grammar.Resolve.{no_directives, Reading, Told}
use Rattle.yaml_parse_laws_trees.specs.parse_grammar.Remaining.{reading_of}
use Rattle.yaml_parse_loader.specs.Loading.{nothing_loaded}
use Rattle.yaml_parse_laws_trees.specs.AllLoads.{load_all}
use Rattle.yaml_parse_laws_trees.specs.Faults.{FaultOfLoading}
use Rattle.yaml_parse_laws_trees.specs.Places.{FaultOfTokens}
use Rattle.yaml_parse_laws_trees.specs.Given.{EventsOfTokens}
use Rattle.yaml_parse_laws_trees.specs.NextLoad.{LoadsByContent, loads_fault}

-- what all loads of a reading end in
abbrev pub loads_end : Reading → Option Fault
loads_end r = (load_all r.events r.ending nothing_loaded).fault

-- A list has one such fault at most.
abbrev pub LoadFaultIsOne : Type 0
LoadFaultIsOne = (ts : List Token) (own : Option Fault) (x y : Option Fault)
    → FaultOfLoading ts own x → FaultOfLoading ts own y → x ≡ y

-- What loads end in is the list's fault, where it has one.
abbrev pub LoadsEndInFault : Type 0
LoadsEndInFault = (ts : List Token) (own : Option Fault)
    → FaultOfLoading ts own (loads_end (reading_of (run ts initial own) no_directives))

-- And what is the list's fault is what loads end in.
abbrev pub FaultEndsLoads : Type 0
FaultEndsLoads = (ts : List Token) (own fault : Option Fault) → FaultOfLoading ts own fault
    → loads_end (reading_of (run ts initial own) no_directives) ≡ fault

-- Of a list's events and its fault: load after load, as content says, they come to the fault of loading the list.
abbrev pub LoadsComeToFault : Type 0
LoadsComeToFault = (ts : List Token) (own : Option Fault) (events : List Told)
    (ending : Option Fault) (behind : ℕ) → EventsOfTokens ts own events
    → FaultOfTokens ts own ending
    → (h : LoadsByContent ending behind events) → FaultOfLoading ts own (loads_fault h)
