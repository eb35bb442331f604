-- A stack that isn't empty still has an event to give, or a fault.
use Rattle.std.proofs.Common.{◌≡◌, ℕ, List, [], ◌∷◌, ◌++◌, length, map, Option, Some, None, refl, subst, arith}
use Rattle.yaml_parse_grammar.proofs.Words.{Token, type_of, no_token, Fault, Choice, RawEvent, State, Given, choice_at, Fed, stop, go, turn, feed, Stands, Outcome, finished, carry, run, Directives, Settled, settle, reading, read_on}
use Rattle.yaml_parse_grammar.specs.Items.{IsDirective}
pub use Rattle.yaml_parse_grammar.proofs.Rules.{takes_a_token}
use Rattle.yaml_parse_grammar.proofs.Single.{Emptied, emptied}

abbrev pub IsSome : Option Fault → Type 0
IsSome None = ⊥
IsSome (Some f) = Unit {0}

-- among the items is an event, or a fault ends them
abbrev pub HasVoice : List Given → Option Fault → Type 0
HasVoice [] f = IsSome f
HasVoice (g ∷ gs) f = IsDirective g.0.body → HasVoice gs f

-- ---- a turn

abbrev SpeaksIn : List RawEvent → List State → Type 0
SpeaksIn [] s = Stands s
SpeaksIn (i ∷ is) s = IsDirective i.body → SpeaksIn is s

-- a stop, an event, or something that is still open
abbrev FedSpeaks : Fed → Type 0
FedSpeaks (stop is f) = Unit {0}
FedSpeaks (go is s) = SpeaksIn is s

turn_speaks : (c : Choice) (x : State) (t : Token) (s : List State) (below : Fed)
    → FedSpeaks (turn c x t s below)
turn_speaks c x t s below = grind arith

feed_speaks : (x : State) (s : List State) (t : Token) → FedSpeaks (feed (x ∷ s) t)
unfolding feed
feed_speaks x s t = turn_speaks (choice_at x (type_of t.body)) x t s (feed s t)

abbrev Begins : (List State → Outcome) → Type 0
Begins k = (s : List State) → Stands s → HasVoice (k s).items (k s).ending

carried_go : (left : ℕ) (is : List RawEvent) (s : List State) (k : List State → Outcome)
    → SpeaksIn is s → (Stands s → HasVoice (k s).items (k s).ending)
    → HasVoice (map (λ (i : RawEvent). (i, left)) is ++ (k s).items) (k s).ending
carried_go left [] s k h b = b h
carried_go left (i ∷ is) s k h b = λ d. carried_go left is s k (h d) b

stopped : (left : ℕ) (is : List RawEvent) (f : Fault)
    → HasVoice (map (λ (i : RawEvent). (i, left)) is) (Some f)
stopped left [] f = tt
stopped left (i ∷ is) f = λ d. stopped left is f

carried_speaks : (left : ℕ) (fed : Fed) (k : List State → Outcome) → FedSpeaks fed → Begins k
    → HasVoice (carry left fed k).items (carry left fed k).ending
carried_speaks left (stop is f) k h b = stopped left is f
carried_speaks left (go is s) k h b = carried_go left is s k h (b s)

ended_speaks : (fed : Fed) → FedSpeaks fed → Emptied fed
    → HasVoice (carry 0 fed (λ _. finished)).items (carry 0 fed (λ _. finished)).ending
ended_speaks (stop is f) h e = stopped 0 is f
ended_speaks (go is s) h e = carried_go 0 is s (λ _. finished) h (λ k. absurd (subst Stands e k))

-- A stack that isn't empty has an event to give, or a fault.
pub speaks : (ts : List Token) (f : Option Fault) (s : List State) → Stands s
    → HasVoice (run ts s f).items (run ts s f).ending
unfolding run feed
speaks ts f [] h = absurd h
speaks [] (Some e) (x ∷ s) h = tt
speaks [] None (x ∷ s) h = ended_speaks (feed (x ∷ s) no_token) (feed_speaks x s no_token) (emptied (x ∷ s))
speaks (t ∷ ts) f (x ∷ s) h = carried_speaks (length ts) (feed (x ∷ s) t) (λ s'. run ts s' f) (feed_speaks x s t) (λ s' h'. speaks ts f s' h')

-- ---- resolved

read_on_speaks : (c : Settled) (g : Given) (gs : List Given) (f : Option Fault) (ds : Directives)
    → settle g.0 ds ≡ c → (IsDirective g.0.body → HasVoice gs f)
    → ((ds' : Directives) → HasVoice gs f → (reading gs f ds').events ≡ []
    → (reading gs f ds').ending ≡ None → ⊥)
    → (read_on c g.0 g.1 (λ ds'. reading gs f ds')).events ≡ []
    → (read_on c g.0 g.1 (λ ds'. reading gs f ds')).ending ≡ None → ⊥
read_on_speaks c g gs f ds s h k p q = grind arith

-- Where something is to be given, an event or a fault is.
pub reading_speaks : (gs : List Given) (f : Option Fault) (ds : Directives) → HasVoice gs f
    → (reading gs f ds).events ≡ [] → (reading gs f ds).ending ≡ None → ⊥
unfolding reading
reading_speaks [] None ds h p q = h
reading_speaks [] (Some e) ds h p q = cc
reading_speaks (g ∷ gs) f ds h p q = read_on_speaks (settle g.0 ds) g gs f ds refl h (λ ds' h'. reading_speaks gs f ds' h') p q
