-- One step of the machine, at a token.
use Rattle.std.proofs.Common.{◌≡◌, List, [], ◌∷◌, Option, None, refl, arith}
use Rattle.yaml_parse_grammar.proofs.Words.{Token, no_token, Fault, Choice, Take, Open, State, choice_at, Fed, stop, go, turn, feed, finished, carry, run}
use Rattle.yaml_parse_model.specs.declared.yaml_token_type_t.TheVariants as kind
use Rattle.yaml_parse_model.specs.Source.{front_of, rest_of, MayAnswer}
use Rattle.yaml_parse_grammar.specs.Machine.{unasked_at_stop}
use Rattle.yaml_parse_grammar.proofs.Rules.{none_opens, takes_a_token}
pub use Rattle.yaml_parse_grammar.proofs.Rules.{opens_node}

-- ---- the end of a list

abbrev pub Emptied : Fed → Type 0
Emptied (stop is f) = Unit {0}
Emptied (go is s) = s ≡ []

turn_empties : (c : Choice) (x : State) (t : Token) (s : List State) (below : Fed) → (c ≡ Take → ⊥)
    → (c ≡ Open → ⊥) → Emptied below → Emptied (turn c x t s below)
turn_empties c x t s below a b h = grind arith

-- At the empty token nothing stays open.
pub emptied : (s : List State) → Emptied (feed s no_token)
unfolding feed
emptied [] = refl
emptied (x ∷ s) = turn_empties (choice_at x kind.YAML_NO_TOKEN) x no_token s (feed s no_token) (takes_a_token x) (none_opens x) (emptied s)

carry_emptied : (fed : Fed) → Emptied fed
    → carry 0 fed (λ _. finished) ≡ carry 0 fed (λ s. run [] s None)
unfolding run feed
carry_emptied fed h = grind arith

unfinished : (s : List State) → run [] s None ≡ run (no_token ∷ []) s None
unfolding run
unfinished s = carry_emptied (feed s no_token) (emptied s)

-- the front of a source's list
pub front_runs : (ts : List Token) (f : Option Fault) → MayAnswer ts f → (s : List State)
    → run (front_of ts ∷ rest_of ts) s f ≡ run ts s f
front_runs ts f h s = grind (arith, unfinished)

-- ---- where the machine stops

-- The first token and the rest are the list.
pub front_stops : (ts : List Token) (s : List State)
    → unasked_at_stop (front_of ts ∷ rest_of ts) s ≡ unasked_at_stop ts s
unfolding unasked_at_stop
front_stops ts s = grind arith
