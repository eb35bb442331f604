-- What a look at the next token shows.
use Rattle.std.specs.Prelude.{◌≡◌, ◌⊎◌, ℕ, List, [], ◌∷◌, length, Option, Some}
use Rattle.yaml_scan_types.specs.Tokens.{Token}
use Rattle.yaml_scan_types.specs.Faults.{Fault, IsMemoryFault, scan_layers}
use Rattle.yaml_scan_model.specs.Coming.{front_of, rest_of, MayAnswer}
use Rattle.yaml_scan_model.specs.declared.kind.Kind.{Kind}
use Rattle.yaml_scan_model.specs.declared.kind.Kind.TheVariants as kind
use Rattle.yaml_scan_model.specs.Kinds.{IsOf}

-- a token of that kind is next
pub record IsNext (k : Kind) (ts : List Token) : Type 0 where
  pub same : ts ≡ front_of ts ∷ rest_of ts
  pub is : IsOf k (front_of ts).body

-- A token of that kind is next, after the last the empty one. Nothing is taken.
pub record ShowsToken (k : Kind) (old : List Token) (fault : Option Fault) (new : List Token)
    (after : Option Fault) : Type 0 where
  pub front : new ≡ front_of old ∷ rest_of old
  pub same : after ≡ fault
  pub may : MayAnswer old fault
  pub next : IsNext k new

-- A fault is next: that to come, or lack of memory in a layer that scans, after which nothing comes.
pub record ShowsFault (old : List Token) (fault : Option Fault) (new : List Token)
    (after : Option Fault) : Type 0 where
  pub told : Fault
  pub none : new ≡ []
  pub ends : after ≡ Some told
  pub reason : IsMemoryFault scan_layers told ⊎ ((old ≡ []) × (fault ≡ Some told))

abbrev pub Shows : Kind → List Token → Option Fault → List Token → Option Fault → Type 0
Shows kind.Failed old fault new after = ShowsFault old fault new after
Shows kind.BadTag old fault new after = ShowsFault old fault new after
Shows kind.BadPrefix old fault new after = ShowsFault old fault new after
Shows k old fault new after = ShowsToken k old fault new after

-- how many tokens are after the first
abbrev pub left_behind : List Token → ℕ
left_behind ts = length (rest_of ts)
