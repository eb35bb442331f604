-- How many items come of a list of tokens.
use Rattle.std.proofs.Common.{◌≡◌, ◌≤◌, ◌+◌, ◌*◌, ℕ, suc, List, [], ◌∷◌, ◌++◌, length, map, Option, Some, None, refl, ap, arith}
use Rattle.yaml_parse_laws_trees.proofs.Words.{yaml_mark_t, yaml_token_type_t, Token, TokenBody, type_of, no_token, Fault, Wants, Block, Brackets, Choice, Take, Leave, Open, RawEvent, Properties, State, Taken, Given, choice_at, taken_at, documents_taken, content_taken, node_taken, with_properties_taken, lone_below, Fed, stop, go, with_item, given_by, turn, feed, Outcome, finished, carry, ending_at, run, initial, Directives, Settled, settle, Reading, read_on, reading, reading_of, MayLeave, leave_rule, none_opens}
use Rattle.yaml_parse_grammar.specs.parse_model.declared.yaml_token_type_t.TheVariants as kind
use Rattle.yaml_parse_grammar.specs.States as state
use Rattle.yaml_parse_grammar.proofs.EventsToGive.{takes_a_token}

-- ---- what a state may still give as it is left

abbrev owes : State → ℕ
owes (state.optional place before) = 1
owes state.document_end = 1
owes (state.others side) = 1
owes (state.colon place) = 1
owes (state.with_properties wants p) = 1
owes state.pair_end = 1
owes state.lone = 1
owes _ = 0

abbrev pub all_owe : List State → ℕ
all_owe [] = 0
all_owe (x ∷ s) = owes x + all_owe s

owe_over : (xs ys : List State) → all_owe (xs ++ ys) ≡ all_owe xs + all_owe ys
owe_over [] ys = omega arith
owe_over (x ∷ xs) ys = let e : all_owe (xs ++ ys) ≡ all_owe xs + all_owe ys = owe_over xs ys in omega arith

abbrev count : Option RawEvent → ℕ
count None = 0
count (Some i) = 1

abbrev cost : Taken → ℕ
cost x = count x.item + all_owe x.above

-- ---- taking a token

abbrev extra : Wants → ℕ
extra (Block (Some side)) = 2
extra _ = 0

content_cost : (w : Wants) (p : Option Properties) (start end : yaml_mark_t) (b : TokenBody)
    → cost (content_taken w p start end b) ≤ 1 + extra w
content_cost w p start end b = grind arith

node_cost : (w : Wants) (start end : yaml_mark_t) (b : TokenBody)
    → cost (node_taken w start end b) ≤ 1 + extra w
node_cost w start end b = grind (arith, content_cost)

with_properties_cost : (w : Wants) (p : Properties) (start end : yaml_mark_t) (b : TokenBody)
    → cost (with_properties_taken w p start end b) ≤ 1 + extra w
with_properties_cost w p start end b = grind (arith, content_cost)

few_extra : (w : Wants) → extra w ≤ 2
few_extra w = grind arith

lone_cost : (b : Brackets) (o : yaml_mark_t) → all_owe (lone_below b (state.more b o ∷ [])) ≤ 1
lone_cost b o = grind arith

above_cost : (i : Option RawEvent) (xs ys : List State) (n m : ℕ) → count i + all_owe xs ≤ n
    → all_owe ys ≤ m → count i + all_owe (xs ++ ys) ≤ n + m
above_cost i xs ys n m h k = let e : all_owe (xs ++ ys) ≡ all_owe xs + all_owe ys = owe_over xs ys in omega arith

documents_cost : (from start end : yaml_mark_t) (b : TokenBody)
    → cost (documents_taken from start end b) ≤ 4
documents_cost from start end b = grind arith

less : (a b : ℕ) → a ≤ 1 + b → b ≤ 2 → a ≤ 4
less a b h k = omega arith

taken_cost_by : (x : State) (start end : yaml_mark_t) (b : TokenBody)
    → cost (taken_at x (record { body = b; start_mark = start; end_mark = end })) ≤ 4
taken_cost_by x start end b = grind (arith, documents_cost, less, node_cost, few_extra, with_properties_cost, above_cost, lone_cost)

taken_cost : (x : State) (t : Token) → cost (taken_at x t) ≤ 4
taken_cost x t = taken_cost_by x t.start_mark t.end_mark t.body

-- ---- what is left owed

left_owes : (x : State) (k : yaml_token_type_t) → MayLeave x k → owes x ≡ 1
left_owes x k l = grind arith

-- ---- a stack at a token

abbrev pub owed : Fed → ℕ
owed (stop is f) = length is
owed (go is s) = length is + all_owe s

given_owed : (i : Option RawEvent) (above s : List State)
    → owed (given_by (record { item = i; above = above }) s) ≡ count i + (all_owe above + all_owe s)
given_owed i above s = grind (arith, owe_over)

with_owed : (i : RawEvent) (below : Fed) → owed (with_item i below) ≡ 1 + owed below
with_owed i below = grind arith

opened_sum : (a b c d x s : ℕ) → a ≡ 1 + b → b ≡ c + (d + (1 + (0 + s))) → c + d ≤ 1 + 0
    → a ≤ 4 + (x + s)
opened_sum a b c d x s h k l = omega arith

turn_owed : (c : Choice) (x : State) (t : Token) (s : List State) (below : Fed)
    → (c ≡ Leave → owes x ≡ 1) → owed below ≤ 4 + all_owe s
    → owed (turn c x t s below) ≤ 4 + (owes x + all_owe s)
turn_owed c x t s below l h = grind (arith, given_owed, taken_cost, with_owed, opened_sum, node_cost)

pub feed_owed : (s : List State) (t : Token) → owed (feed s t) ≤ 4 + all_owe s
unfolding feed
feed_owed [] t = omega arith
feed_owed (x ∷ s) t = turn_owed (choice_at x (type_of t.body)) x t s (feed s t) (λ e. left_owes x (type_of t.body) (leave_rule x (type_of t.body) e)) (feed_owed s t)

-- ---- the end of the list

abbrev pub given : Fed → ℕ
given (stop is f) = length is
given (go is s) = length is

with_given : (i : RawEvent) (below : Fed) → given (with_item i below) ≡ 1 + given below
with_given i below = grind arith

turn_given : (c : Choice) (x : State) (t : Token) (s : List State) (below : Fed)
    → (c ≡ Leave → owes x ≡ 1) → (c ≡ Take → ⊥) → (c ≡ Open → ⊥) → given below ≤ all_owe s
    → given (turn c x t s below) ≤ owes x + all_owe s
turn_given c x t s below l a b h = grind (arith, with_given)

pub end_given : (s : List State) → given (feed s no_token) ≤ all_owe s
unfolding feed
end_given [] = omega arith
end_given (x ∷ s) = turn_given (choice_at x kind.YAML_NO_TOKEN) x no_token s (feed s no_token) (λ e. left_owes x kind.YAML_NO_TOKEN (leave_rule x kind.YAML_NO_TOKEN e)) (takes_a_token x) (none_opens x) (end_given s)

-- ---- a list of tokens

counted : (left : ℕ) (is : List RawEvent)
    → length {A = Given} (map (λ (i : RawEvent). (i, left)) is) ≡ length is
counted left [] = refl
counted left (i ∷ is) = ap suc (counted left is)

counted_more : (left : ℕ) (is : List RawEvent) (more : List Given)
    → length (map (λ (i : RawEvent). (i, left)) is ++ more) ≡ length is + length more
counted_more left [] more = omega arith
counted_more left (i ∷ is) more = one_more _ (length is) (length more) (counted_more left is more)
  where
    one_more : (a b c : ℕ) → a ≡ b + c → suc a ≡ suc b + c
    one_more a b c h = omega arith

at_most : (a b n : ℕ) → a ≡ b → b ≤ n → a ≤ n
at_most a b n h k = omega arith

at_most_end : (a b n : ℕ) → a ≡ b + 0 → b ≤ n → a ≤ n
at_most_end a b n h k = omega arith

at_most_more : (a b n m : ℕ) → a ≡ b → b ≤ m → a ≤ n + m
at_most_more a b n m h k = omega arith

at_most_both : (a b c o n m : ℕ) → a ≡ b + c → b + o ≤ m → c ≤ n + o → a ≤ n + m
at_most_both a b c o n m h k l = omega arith

ended : (fed : Fed) (n : ℕ) → given fed ≤ n → length (carry 0 fed (λ _. finished)).items ≤ n
ended (stop is f) n h = at_most _ (length is) n (counted 0 is) h
ended (go is s) n h = at_most_end _ (length is) n (counted_more 0 is []) h

carried : (left : ℕ) (fed : Fed) (k : List State → Outcome) (n m : ℕ) → owed fed ≤ m
    → ((s : List State) → length (k s).items ≤ n + all_owe s)
    → length (carry left fed k).items ≤ n + m
carried left (stop is f) k n m h r = at_most_more _ (length is) n m (counted left is) h
carried left (go is s) k n m h r = at_most_both _ (length is) (length (k s).items) (all_owe s) n m (counted_more left is (k s).items) h (r s)

ending_none : (s : List State) (f : Fault) → length (ending_at s f).items ≤ 0
ending_none s f = grind arith

four_more : (a n m k : ℕ) → a ≤ 4 * n + (4 + m) → k ≡ 1 + n → a ≤ 4 * k + m
four_more a n m k h e = omega arith

nothing_more : (a o : ℕ) → a ≤ o → a ≤ 4 * 0 + o
nothing_more a o h = omega arith

few_items : (ts : List Token) (f : Option Fault) (s : List State)
    → length (run ts s f).items ≤ 4 * length ts + all_owe s
unfolding run
few_items [] (Some e) s = let k : length (ending_at s e).items ≤ 0 = ending_none s e in omega arith
few_items [] None s = nothing_more (length (carry 0 (feed s no_token) (λ _. finished)).items) (all_owe s) (ended (feed s no_token) (all_owe s) (end_given s))
few_items (t ∷ ts) f s =
    four_more (length (carry (length ts) (feed s t) (λ s'. run ts s' f)).items) (length ts) (all_owe s) (length (t ∷ ts))
    (carried (length ts) (feed s t) (λ s'. run ts s' f) (4 * length ts) (4 + all_owe s) (feed_owed s t) (λ s'. few_items ts f s')) (omega arith)

-- ---- resolved

read_few : (c : Settled) (g : Given) (gs : List Given) (k : Directives → Reading)
    → ((ds : Directives) → length (k ds).events ≤ length gs)
    → length (read_on c g.0 g.1 k).events ≤ 1 + length gs
read_few c g gs k h = grind arith

few_events : (gs : List Given) (f : Option Fault) (ds : Directives)
    → length (reading gs f ds).events ≤ length gs
unfolding reading
few_events [] f ds = omega arith
few_events (g ∷ gs) f ds =
    let e : length (read_on (settle g.0 ds) g.0 g.1 (λ d. reading gs f d)).events ≤ 1 + length gs = read_few (settle g.0 ds) g gs (λ d. reading gs f d) (λ d. few_events gs f d) in
    omega arith

both : (a b c : ℕ) → a ≤ b → b ≤ c + 0 → a ≤ c
both a b c h k = omega arith

pub four_a_token : (ts : List Token) (f : Option Fault) (ds : Directives)
    → length (reading_of (run ts initial f) ds).events ≤ 4 * length ts
four_a_token ts f ds = grind (arith, both, few_events, few_items)
