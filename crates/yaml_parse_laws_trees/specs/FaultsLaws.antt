-- The machine's fault is the list's.
use Rattle.std.specs.Prelude.{◌≡◌, List, Option, Some}
use Rattle.yaml_parse_model.specs.scan_types.Tokens.{Token}
use Rattle.yaml_parse_model.specs.scan_types.Faults.{Fault}
use Rattle.yaml_parse_laws_trees.specs.parse_grammar.Machine.{run, initial}
use Rattle.yaml_parse_laws_trees.specs.parse_grammar.Resolve.{no_directives}
use Rattle.yaml_parse_laws_trees.specs.parse_grammar.Remaining.{reading_of, unasked_of}
use Rattle.yaml_parse_laws_trees.specs.Places.{FaultOfTokens, IsToldWith}

-- A list has one fault at most.
abbrev pub FaultIsOne : Type 0
FaultIsOne = (ts : List Token) (own : Option Fault) (x y : Option Fault) → FaultOfTokens ts own x
    → FaultOfTokens ts own y → x ≡ y

-- What the machine ends in is the list's fault, where it has one.
abbrev pub EndsInFault : Type 0
EndsInFault = (ts : List Token) (own : Option Fault)
    → FaultOfTokens ts own (reading_of (run ts initial own) no_directives).ending

-- And what is the list's fault is what the machine ends in.
abbrev pub FaultEnds : Type 0
FaultEnds = (ts : List Token) (own fault : Option Fault) → FaultOfTokens ts own fault
    → (reading_of (run ts initial own) no_directives).ending ≡ fault

-- It is reported once its place is reached, with no token asked for after that.
abbrev pub FaultIsToldAtPlace : Type 0
FaultIsToldAtPlace = (ts : List Token) (own : Option Fault) (e : Fault)
    → (reading_of (run ts initial own) no_directives).ending ≡ Some e
    → IsToldWith ts own e (unasked_of ts own initial no_directives)
