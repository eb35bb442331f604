-- What the machine accepts begins with the tokens of a tree.
use Rattle.std.proofs.Common.{◌≡◌, ℕ, true, List, [], ◌∷◌, length, Option, Some, None, refl, arith}
use Rattle.yaml_parse_laws_trees.specs.parse_grammar.parse_model.declared.yaml_token_type_t.TheVariants as kind
use Rattle.yaml_parse_laws_trees.proofs.Words.{Token, type_of, no_token, Fault, Root, Choice, Refuse, Take, Leave, Open, RawEvent, item_at, State, Given, choice_at, taken_at, left_at, Fed, stop, go, with_item, given_by, turn, feed, Outcome, finished, carry, ending_at, run, Directives, Settled, settle, Reading, read_on, reading, AcceptedAreTrees, AcceptedAreSentences, SentencesAreAccepted, leave_rule, none_opens}
use Rattle.yaml_parse_laws_trees.specs.parse_grammar.Items as item
use Rattle.yaml_parse_laws_trees.specs.parse_grammar.States as state
use Rattle.yaml_parse_laws_trees.proofs.CompleteStream.{stream_runs}
use Rattle.yaml_parse_laws_trees.proofs.EventsToGive.{takes_a_token}
use Rattle.yaml_parse_laws_trees.proofs.Turns.{items_given}
use Rattle.yaml_parse_laws_trees.proofs.Left.{Left, Over, over_both, leaving, taking, opening}

-- ---- a stack at a token

-- after an empty stack tokens are passed over
abbrev pub MayPass : (List Token → Type 0) → List State → Type 0
MayPass P [] = (t : Token) (ts : List Token) → P ts → P (t ∷ ts)
MayPass P (x ∷ s) = Unit {0}

-- what the stack after a token waits for, after the token, is what the stack before it waits for
abbrev pub FedLeft : (List Token → Type 0) → List State → Token → Fed → Type 0
FedLeft P s t (stop is f) = Unit {0}
FedLeft P s t (go is s') = MayPass P s' → (ts : List Token) → Over s' P ts → Over s P (t ∷ ts)

fed_with : (P : List Token → Type 0) (s : List State) (t : Token) (i : RawEvent) (fed : Fed)
    → FedLeft P s t fed → FedLeft P s t (with_item i fed)
fed_with P s t i fed h = grind arith

fed_taken : (P : List Token → Type 0) (x : State) (i : Option RawEvent) (above s : List State)
    (t : Token)
    → ((ts : List Token) → Over above (Over s P) ts → Left x (Over s P) (t ∷ ts))
    → FedLeft P (x ∷ s) t (given_by (record { item = i; above = above }) s)
fed_taken P x i above s t h = grind (arith, over_both)

fed_left : (P : List Token → Type 0) (x : State) (s : List State) (t : Token) (fed : Fed)
    → choice_at x (type_of t.body) ≡ Leave → FedLeft P s t fed → FedLeft P (x ∷ s) t fed
fed_left P x s t (stop is f) c h = tt
fed_left P x s t (go is s') c h = λ m ts k. leaving x (type_of t.body) (leave_rule x (type_of t.body) c) (Over s P) (t ∷ ts) (h m ts k)

fed_opened : (P : List Token → Type 0) (x : State) (s : List State) (t : Token)
    (i : Option RawEvent) (above : List State)
    → ((ts : List Token) → Over above (Over (state.document_end ∷ state.documents ∷ []) (Over s P))
    ts → Left x (Over s P) (t ∷ ts))
    → FedLeft P (x ∷ s) t (given_by (record { item = i; above = above })
    (state.document_end ∷ state.documents ∷ s))
fed_opened P x s t i above h = grind (arith, over_both)

turn_left : (P : List Token → Type 0) (c : Choice) (x : State) (t : Token) (s : List State)
    (below : Fed) → choice_at x (type_of t.body) ≡ c → FedLeft P s t below
    → FedLeft P (x ∷ s) t (turn c x t s below)
turn_left P (Refuse p o) x t s below e h = tt
turn_left P Take x t s below e h = fed_taken P x (taken_at x t).item (taken_at x t).above s t (λ ts k. taking x t e (Over s P) ts k)
turn_left P Leave x t s below e h = fed_with P (x ∷ s) t (left_at x t.start_mark) below (fed_left P x s t below e h)
turn_left P Open x t s below e h =
    fed_with P (x ∷ s) t (item_at (item.document true) t.start_mark t.start_mark)
    (given_by (taken_at (state.optional Root t.start_mark) t) (state.document_end ∷ state.documents ∷ s))
    (fed_opened P x s t (taken_at (state.optional Root t.start_mark) t).item (taken_at (state.optional Root t.start_mark) t).above (λ ts k. opening x t e (Over s P) ts k))

pub feed_left : (P : List Token → Type 0) (s : List State) (t : Token) → FedLeft P s t (feed s t)
unfolding feed
feed_left P [] t = λ m ts k. m t ts k
feed_left P (x ∷ s) t = turn_left P (choice_at x (type_of t.body)) x t s (feed s t) refl (feed_left P s t)

-- ---- the end of a list

-- where nothing is refused after the last token, the states wait for nothing
abbrev EndLeft : (List Token → Type 0) → List State → Fed → Type 0
EndLeft P s (stop is f) = Unit {0}
EndLeft P s (go is s') = Over s P []

end_with : (P : List Token → Type 0) (s : List State) (i : RawEvent) (fed : Fed) → EndLeft P s fed
    → EndLeft P s (with_item i fed)
end_with P s i fed h = grind arith

end_left : (P : List Token → Type 0) (x : State) (s : List State) (fed : Fed)
    → choice_at x kind.YAML_NO_TOKEN ≡ Leave → EndLeft P s fed → EndLeft P (x ∷ s) fed
end_left P x s (stop is f) c h = tt
end_left P x s (go is s') c h = leaving x kind.YAML_NO_TOKEN (leave_rule x kind.YAML_NO_TOKEN c) (Over s P) [] h

turn_ends : (P : List Token → Type 0) (c : Choice) (x : State) (s : List State) (below : Fed)
    → choice_at x kind.YAML_NO_TOKEN ≡ c → EndLeft P s below
    → EndLeft P (x ∷ s) (turn c x no_token s below)
turn_ends P c x s below e h = grind (arith, takes_a_token, end_with, end_left, none_opens)

feed_ends : (P : List Token → Type 0) → P [] → (s : List State) → EndLeft P s (feed s no_token)
unfolding feed
feed_ends P h [] = h
feed_ends P h (x ∷ s) = turn_ends P (choice_at x kind.YAML_NO_TOKEN) x s (feed s no_token) refl (feed_ends P h s)

-- ---- a list of tokens

abbrev Any : List Token → Type 0
Any ts = Unit {0}

passes : (s : List State) → MayPass Any s
passes [] = λ t ts h. tt
passes (x ∷ s) = tt

source_ended : (s : List State) (f : Fault) → (ending_at s f).ending ≡ None → Over s Any []
source_ended s f h = grind arith

ended : (s : List State) (fed : Fed) → EndLeft Any s fed
    → (carry 0 fed (λ _. finished)).ending ≡ None → Over s Any []
ended s (stop is f) h e = cc
ended s (go is s') h e = h

carried : (left : ℕ) (s : List State) (t : Token) (ts : List Token) (fed : Fed)
    (k : List State → Outcome) → FedLeft Any s t fed
    → ((s' : List State) → (k s').ending ≡ None → Over s' Any ts) → (carry left fed k).ending ≡ None
    → Over s Any (t ∷ ts)
carried left s t ts fed k h r e = grind (arith, passes)

accepts : (ts : List Token) (f : Option Fault) (s : List State) → (run ts s f).ending ≡ None
    → Over s Any ts
unfolding run
accepts [] (Some f) s e = source_ended s f e
accepts [] None s e = ended s (feed s no_token) (feed_ends Any tt s) e
accepts (t ∷ ts) f s e = carried (length ts) s t ts (feed s t) (λ s'. run ts s' f) (feed_left Any s t) (λ s' e'. accepts ts f s' e') e

pub accepted_trees : AcceptedAreTrees
accepted_trees ts f e = grind (arith, accepts)

-- ---- directives and tag handles

read_quietly : (c : Settled) (g : Given) (k : Directives → Reading) (f : Option Fault)
    → ((ds : Directives) → (k ds).ending ≡ None → f ≡ None) → (read_on c g.0 g.1 k).ending ≡ None
    → f ≡ None
read_quietly c g k f r e = grind arith

-- what is read without a fault was not ended by one
quiet : (gs : List Given) (f : Option Fault) (ds : Directives) → (reading gs f ds).ending ≡ None
    → f ≡ None
unfolding reading
quiet [] f ds e = e
quiet (g ∷ gs) f ds e = read_quietly (settle g.0 ds) g (λ ds'. reading gs f ds') f (λ ds' e'. quiet gs f ds' e') e

pub accepted_sentences : AcceptedAreSentences
accepted_sentences ts f e = grind (arith, accepted_trees, quiet, stream_runs, items_given)

pub sentences_accepted : SentencesAreAccepted
sentences_accepted ts f b = grind (arith, stream_runs, items_given)
