-- What a source of tokens gives.
use Rattle.std.specs.Prelude.{◌≡◌, ◌⊎◌, List, [], ◌∷◌, Option, Some, None, Result, Ok, Err}
use Rattle.yaml_scan_model.specs.declared.token.yaml_token_t.{yaml_token_t}
use Rattle.yaml_scan_model.specs.declared.fault.yaml_fault_t.{yaml_fault_t}
use Rattle.yaml_scan_model.specs.scan_types.Tokens.{Token, token_of}
use Rattle.yaml_scan_model.specs.scan_types.Faults.{Fault, fault_of, IsMemoryFault, scan_layers}
pub use Rattle.yaml_scan_model.specs.Coming.{front_of, rest_of, MayAnswer, HasUtf8, spells_text}

-- a token was given: the first to come
pub record GivesToken (old : List Token) (fault : Option Fault) (t : Token) (new : List Token)
    (after : Option Fault) : Type 0 where
  pub given : t ≡ front_of old
  pub rest : new ≡ rest_of old
  pub same : after ≡ fault
  pub may : MayAnswer old fault
  pub utf8 : HasUtf8 t.body

-- something is to come: a token or an event, or a fault
abbrev pub HasMore : {X : Type 0} → List X → Option Fault → Type 0
HasMore [] None = ⊥
HasMore [] (Some f) = Unit {0}
HasMore (x ∷ xs) fault = Unit {0}

-- A fault was given: that to come, or out of memory in a layer that scans. Something was to come, and nothing comes after it:
-- it is given once.
pub record GivesFault (old : List Token) (fault : Option Fault) (f : Fault) (new : List Token)
    (after : Option Fault) : Type 0 where
  pub more : HasMore old fault
  pub none : new ≡ []
  pub no_fault : after ≡ None
  pub reason : IsMemoryFault scan_layers f ⊎ ((old ≡ []) × (fault ≡ Some f))

-- what a call of a source answers
abbrev pub Answer : Type 0
Answer = Result Token Fault

abbrev pub answer_of : Result yaml_token_t yaml_fault_t → Answer
answer_of (Ok t) = Ok (token_of t)
answer_of (Err f) = Err (fault_of f)
