-- What is below a state: after a left-out node nothing is refused, and below a state that leaves something waits to be closed.
use Rattle.std.proofs.Common.{◌≡◌, ◌⊎◌, true, List, [], ◌∷◌, ◌++◌, Option, Some, None, refl, sym, subst, arith}
use Rattle.yaml_parse_laws_trees.proofs.Words.{append_assoc, yaml_mark_t, yaml_token_type_t, Token, TokenBody, type_of, Wants, Block, Side, Key, Value, Brackets, Site, Root, Entry, IndentlessEntry, BlockPair, FlowPair, Choice, Take, Leave, RawEvent, Properties, State, wants_of, follows, choice_at, documents_taken, content_taken, node_taken, lone_below, taken_at, left_at, Fed, stop, go, with_item, turn, feed, was_take, false≢true}
use Rattle.yaml_parse_model.specs.scan_types.Tokens as token
use Rattle.yaml_parse_laws_trees.specs.parse_grammar.States as state

-- ---- nothing is refused

abbrev pub Goes : Fed → Type 0
Goes (stop is f) = ⊥
Goes (go is s) = Unit {0}

goes_with : (i : RawEvent) (fed : Fed) → Goes fed → Goes (with_item i fed)
goes_with i fed h = grind arith

takes_goes : (x : State) (s : List State) (t : Token) → choice_at x (type_of t.body) ≡ Take
    → Goes (feed (x ∷ s) t)
unfolding feed
takes_goes x s t h = subst (λ (c : Choice). Goes (turn c x t s (feed s t))) (sym h) tt

leaves_goes : (x : State) (s : List State) (t : Token) → choice_at x (type_of t.body) ≡ Leave
    → Goes (feed s t) → Goes (feed (x ∷ s) t)
unfolding feed
leaves_goes x s t h k = subst (λ (c : Choice). Goes (turn c x t s (feed s t))) (sym h) (goes_with (left_at x t.start_mark) (feed s t) k)

-- what may follow a node that is left out there isn't refused by the states below
abbrev pub Fits : Site → List State → Type 0
Fits place s = (t : Token) → follows place (type_of t.body) ≡ true → Goes (feed s t)

abbrev TakesOrLeaves : State → yaml_token_type_t → Type 0
TakesOrLeaves x k = (choice_at x k ≡ Take) ⊎ (choice_at x k ≡ Leave)

takes_or_leaves : (x : State) (s : List State) (t : Token) → TakesOrLeaves x (type_of t.body)
    → (choice_at x (type_of t.body) ≡ Leave → Goes (feed s t)) → Goes (feed (x ∷ s) t)
takes_or_leaves x s t h3 k = grind (arith, takes_goes, leaves_goes)

entry_taken : (o : yaml_mark_t) (k : yaml_token_type_t) → follows Entry k ≡ true
    → choice_at (state.entries o) k ≡ Take
entry_taken o k h = grind (arith, false≢true)

pair_taken : (o : yaml_mark_t) (k : yaml_token_type_t) → follows (BlockPair Value) k ≡ true
    → choice_at (state.pairs o) k ≡ Take
pair_taken o k h = grind (arith, false≢true)

colon_choice : (place : Site) (k : yaml_token_type_t) → TakesOrLeaves (state.colon place) k
colon_choice place k = grind arith

block_key : (k : yaml_token_type_t) → follows (BlockPair Key) k ≡ true
    → choice_at (state.colon (BlockPair Value)) k ≡ Leave → follows (BlockPair Value) k ≡ true
block_key k h c = grind (arith, false≢true)

keys_fit : (o : yaml_mark_t) (s : List State)
    → Fits (BlockPair Key) (state.colon (BlockPair Value) ∷ state.pairs o ∷ s)
keys_fit o s t h = grind (arith, takes_or_leaves, colon_choice, takes_goes, pair_taken, block_key)

more_taken_at : (b : Brackets) (o : yaml_mark_t) (k : yaml_token_type_t)
    → follows (FlowPair b Value) k ≡ true → choice_at (state.more b o) k ≡ Take
more_taken_at b o k h = grind (arith, false≢true)

more_fits : (b : Brackets) (o : yaml_mark_t) (s : List State)
    → Fits (FlowPair b Value) (state.more b o ∷ s)
more_fits b o s t h = takes_goes (state.more b o) s t (more_taken_at b o (type_of t.body) h)

end_fits : (b : Brackets) (o : yaml_mark_t) (s : List State)
    → Fits (FlowPair b Value) (state.pair_end ∷ state.more b o ∷ s)
end_fits b o s t h = leaves_goes state.pair_end (state.more b o ∷ s) t refl (more_fits b o s t h)

flow_key : (b : Brackets) (k : yaml_token_type_t) → follows (FlowPair b Key) k ≡ true
    → choice_at (state.colon (FlowPair b Value)) k ≡ Leave → follows (FlowPair b Value) k ≡ true
flow_key b k h c = grind (arith, false≢true)

flow_keys_fit : (b : Brackets) (s : List State) → Fits (FlowPair b Value) s
    → Fits (FlowPair b Key) (state.colon (FlowPair b Value) ∷ s)
flow_keys_fit b s f t h = grind (arith, takes_or_leaves, colon_choice, flow_key)

end_choice : (k : yaml_token_type_t) → TakesOrLeaves state.document_end k
end_choice k = grind arith

root_taken : (k : yaml_token_type_t) → follows Root k ≡ true
    → choice_at state.document_end k ≡ Leave → choice_at state.documents k ≡ Take
root_taken k h c = grind (arith, false≢true)

root_fits : (s : List State) → Fits Root (state.document_end ∷ state.documents ∷ s)
root_fits s t h = grind (arith, takes_or_leaves, end_choice, takes_goes, root_taken)

others_choice : (side : Side) (k : yaml_token_type_t) → TakesOrLeaves (state.others side) k
others_choice side k = grind arith

side_follows : (side : Side) (k : yaml_token_type_t) → follows (IndentlessEntry side) k ≡ true
    → choice_at (state.others side) k ≡ Leave → follows (BlockPair side) k ≡ true
side_follows side k h c = grind (arith, false≢true)

others_fit : (side : Side) (s : List State) → Fits (BlockPair side) s
    → Fits (IndentlessEntry side) (state.others side ∷ s)
others_fit side s f t h = takes_or_leaves (state.others side) s t (others_choice side (type_of t.body)) (λ c. f t (side_follows side (type_of t.body) h c))

abbrev pub FitsWants : Wants → List State → Type 0
FitsWants (Block (Some side)) s = Fits (BlockPair side) s
FitsWants _ s = Unit {0}

fits_wants : (place : Site) (s : List State) → Fits place s → FitsWants (wants_of place) s
fits_wants place s f = grind arith

-- ---- states that wait for a closing token

-- a token that closes is waited for, and no state above it takes that token
abbrev pub ClosedAt : State → Type 0 → Type 0
ClosedAt state.stream below = ⊥
ClosedAt (state.directives from) below = ⊥
ClosedAt state.first below = Unit {0}
ClosedAt state.documents below = Unit {0}
ClosedAt (state.entries opener) below = Unit {0}
ClosedAt (state.pairs opener) below = Unit {0}
ClosedAt (state.items b opener) below = Unit {0}
ClosedAt (state.more b opener) below = Unit {0}
ClosedAt _ below = below

abbrev pub Closed : List State → Type 0
Closed [] = ⊥
Closed (x ∷ s) = ClosedAt x (Closed s)

abbrev pub Stood : State → List State → Type 0
Stood (state.optional place before) s = Fits place s × Closed s
Stood (state.colon place) s = Fits place s × Closed s
Stood (state.others side) s = Fits (BlockPair side) s × Closed s
Stood (state.with_properties w p) s = FitsWants w s × Closed s
Stood state.document_end s = Closed s
Stood state.pair_end s = Closed s
Stood state.lone s = Closed s
Stood _ s = Unit {0}

abbrev pub AllStood : List State → Type 0
AllStood [] = Unit {0}
AllStood (x ∷ s) = Stood x s × AllStood s

-- ---- a step keeps it

content_stood : (w : Wants) (p : Option Properties) (start end : yaml_mark_t) (b : TokenBody)
    (s : List State) → FitsWants w s → Closed s → AllStood s
    → AllStood ((content_taken w p start end b).above ++ s)
content_stood w p start end b s f c a = grind (arith, others_fit)

node_stood : (w : Wants) (start end : yaml_mark_t) (b : TokenBody) (s : List State) → FitsWants w s
    → Closed s → AllStood s → AllStood ((node_taken w start end b).above ++ s)
node_stood w start end (token.alias name) s f c a = a
node_stood w start end (token.anchor name) s f c a = ((f, c), a)
node_stood w start end (token.tag handle suffix) s f c a = ((f, c), a)
node_stood w start end b s f c a = content_stood w None start end b s f c a

documents_stood : (from start end : yaml_mark_t) (b : TokenBody) (s : List State) → AllStood s
    → AllStood ((documents_taken from start end b).above ++ s)
documents_stood from start end b s a = grind (arith, root_fits)

lone_closed : (b : Brackets) (o : yaml_mark_t) (s : List State)
    → Closed (lone_below b (state.more b o ∷ []) ++ s)
lone_closed b o s = grind arith

lone_stood : (b : Brackets) (o : yaml_mark_t) (s : List State) → AllStood s
    → AllStood (lone_below b (state.more b o ∷ []) ++ s)
lone_stood b o s a = grind arith

taken_stood_by : (x : State) (start end : yaml_mark_t) (b : TokenBody) (s : List State)
    → choice_at x (type_of b) ≡ Take → Stood x s → AllStood s
    → AllStood ((taken_at x (record { body = b; start_mark = start; end_mark = end })).above ++ s)
taken_stood_by x start end b s c h a = grind (arith, documents_stood, node_stood, fits_wants, takes_goes, entry_taken, others_fit, keys_fit, pair_taken, content_stood, flow_keys_fit, end_fits, more_fits, append_assoc, lone_closed, lone_stood, was_take)

taken_stood : (x : State) (t : Token) (s : List State) → choice_at x (type_of t.body) ≡ Take → Stood
    x s → AllStood s → AllStood ((taken_at x t).above ++ s)
taken_stood x t s c h a = taken_stood_by x t.start_mark t.end_mark t.body s c h a

abbrev pub FedStood : Fed → Type 0
FedStood (stop is f) = Unit {0}
FedStood (go is s) = AllStood s

stood_with : (i : RawEvent) (fed : Fed) → FedStood fed → FedStood (with_item i fed)
stood_with i fed h = grind arith

turn_stood : (c : Choice) (x : State) (t : Token) (s : List State) (below : Fed)
    → choice_at x (type_of t.body) ≡ c → AllStood (x ∷ s) → FedStood below
    → FedStood (turn c x t s below)
turn_stood c x t s below e a h = grind (arith, taken_stood, stood_with, node_stood)

pub feed_stood : (s : List State) (t : Token) → AllStood s → FedStood (feed s t)
unfolding feed
feed_stood [] t a = tt
feed_stood (x ∷ s) t a = turn_stood (choice_at x (type_of t.body)) x t s (feed s t) refl a (feed_stood s t a.1)
