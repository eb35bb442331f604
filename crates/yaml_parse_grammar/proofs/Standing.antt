-- A step keeps how states are above one another, and says by what it gives whether a document is half taken.
use Rattle.std.proofs.Common.{◌≡◌, false, List, [], arith}
use Rattle.yaml_parse_grammar.proofs.Words.{Token, RawEventBody, State, taken_at, IsInner}
use Rattle.yaml_parse_grammar.specs.Items as item
use Rattle.yaml_parse_grammar.proofs.Throughout.{AreTaken, Inner, inner_are}
use Rattle.yaml_parse_grammar.specs.Stacks.{parts_documents_behind, IsInside, IsStack}

-- ---- inside a document

-- what is within a document is a stack
pub inside_stack : (s : List State) → IsInside s → IsStack s
inside_stack s h = grind arith

-- ---- taking a token inside a document

-- the item is a node, or an event within a document
abbrev pub IsWithin : RawEventBody → Type 0
IsWithin (item.event body) = false ≡ parts_documents_behind body
IsWithin (item.node anchor tag shape) = Unit {0}
IsWithin _ = ⊥

-- What is given within a document stays within it.
inside_rules : Inner (λ b. Unit {0}) (λ a. Unit {0}) (λ g. Unit {0}) IsWithin IsInner
inside_rules = grind arith

-- An inner state takes what is within, and puts inner states above.
pub inside_taken : (x : State) (t : Token) → IsInner x → AreTaken IsWithin IsInner (taken_at x t)
inside_taken x t i = inner_are inside_rules x t i i tt
