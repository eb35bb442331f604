-- The numbers of tokens that are not asked for fall from event to event.
use Rattle.std.proofs.Common.{◌≡◌, ◌≤◌, ◌+◌, ℕ, List, [], ◌∷◌, ◌++◌, length, map, Option, Some, None, refl, arith}
use Rattle.yaml_parse_laws_trees.proofs.Words.{Token, no_token, Fault, HasMore, RawEvent, State, Given, Fed, stop, go, feed, Outcome, finished, carry, ending_at, run, left_where_stopped, unasked_at_stop, Directives, Settled, refused, gave, noted, settle, Reading, read_on, reading, unasked_at_fault, reading_of, AreFalling, unasked_on, next_unasked}

-- ---- something is to come

-- Something is to come where the list or the fault isn't empty.
pub has_more : {X : Type 0} (xs : List X) (f : Option Fault) → (xs ≡ [] → f ≡ None → ⊥)
    → HasMore xs f
has_more xs f h = grind arith

-- Where list and fault are empty nothing is to come.
pub nothing_more : {X : Type 0} (xs : List X) (f : Option Fault) → xs ≡ [] → f ≡ None → HasMore xs f
    → ⊥
nothing_more [] None p q h = h
nothing_more [] (Some e) p q h = cc
nothing_more (x ∷ xs) f p q h = cc

-- ---- items

-- none goes with more than that many
abbrev Within : ℕ → List Given → Type 0
Within n [] = Unit {0}
Within n (g ∷ gs) = (g.1 ≤ n) × Within n gs

within_map : (is : List RawEvent) (left n : ℕ) (gs : List Given) → left ≤ n → Within n gs
    → Within n (map (λ (i : RawEvent). (i, left)) is ++ gs)
within_map [] left n gs l h = h
within_map (i ∷ is) left n gs l h = (l, within_map is left n gs l h)

within_last : (is : List RawEvent) (left n : ℕ) → left ≤ n
    → Within n (map (λ (i : RawEvent). (i, left)) is)
within_last [] left n l = tt
within_last (i ∷ is) left n l = (l, within_last is left n l)

within_carried : (left n : ℕ) (fed : Fed) (k : List State → Outcome) → left ≤ n
    → ((s : List State) → Within n (k s).items) → Within n (carry left fed k).items
within_carried left n (stop is f) k l h = within_last is left n l
within_carried left n (go is s) k l h = within_map is left n (k s).items l (h s)

within_ending : (s : List State) (e : Fault) (n : ℕ) → Within n (ending_at s e).items
within_ending s e n = grind arith

within : (ts : List Token) (f : Option Fault) (s : List State) (n : ℕ) → length ts ≤ n + 1
    → Within n (run ts s f).items
unfolding run
within [] (Some e) s n h = within_ending s e n
within [] None s n h = within_carried 0 n (feed s no_token) (λ _. finished) (omega arith) (λ z. tt)
within (t ∷ ts) f s n h = within_carried (length ts) n (feed s t) (λ s'. run ts s' f) (omega arith) (λ z. within ts f z n (omega arith))

stop_on : (left n : ℕ) (fed : Fed) (k : List State → ℕ) → left ≤ n → ((s : List State) → k s ≤ n)
    → left_where_stopped left fed k ≤ n
stop_on left n fed k l h = grind arith

stop_within : (ts : List Token) (s : List State) (n : ℕ) → length ts ≤ n + 1
    → unasked_at_stop ts s ≤ n
unfolding unasked_at_stop
stop_within [] s n h = omega arith
stop_within (t ∷ ts) s n h = stop_on (length ts) n (feed s t) (λ s'. unasked_at_stop ts s') (omega arith) (λ z. stop_within ts z n (omega arith))

-- ---- the next event

next_on : (c : Settled) (i : RawEvent) (left n : ℕ) (k : Directives → Reading) (u : Directives → ℕ)
    → left ≤ n → ((ds : Directives) → next_unasked (k ds).events (u ds) ≤ n)
    → next_unasked (read_on c i left k).events (unasked_on c left u) ≤ n
next_on c i left n k u l h = grind arith

next_read : (gs : List Given) (f : Option Fault) (m n : ℕ) (ds : Directives) → Within n gs → m ≤ n
    → next_unasked (reading gs f ds).events (unasked_at_fault gs m ds) ≤ n
unfolding reading unasked_at_fault
next_read [] f m n ds h l = l
next_read (g ∷ gs) f m n ds h l = next_on (settle g.0 ds) g.0 g.1 n (λ d. reading gs f d) (λ d. unasked_at_fault gs m d) h.0 (λ d. next_read gs f m n d h.1 l)

-- When it is given, or the fault is reported, the first token was asked for.
pub next_behind : (t : Token) (rest : List Token) (f : Option Fault) (s : List State)
    (ds : Directives)
    → next_unasked (reading_of (run (t ∷ rest) s f) ds).events
    (unasked_at_fault (run (t ∷ rest) s f).items (unasked_at_stop (t ∷ rest) s) ds) ≤ length rest
next_behind t rest f s ds =
    next_read (run (t ∷ rest) s f).items (run (t ∷ rest) s f).ending (unasked_at_stop (t ∷ rest) s) (length rest) ds (within (t ∷ rest) f s (length rest) (omega arith)) (stop_within (t ∷ rest) s (length rest) (omega arith))

-- where the source's own fault comes at once, it is reported there
pub ended_next : (s : List State) (e : Fault) (m : ℕ) (ds : Directives)
    → next_unasked (reading_of (ending_at s e) ds).events
    (unasked_at_fault (ending_at s e).items m ds) ≡ m
unfolding reading unasked_at_fault
ended_next s e m ds = grind arith

-- ---- all events

-- each goes with no less than those after it
abbrev Down : List Given → ℕ → Type 0
Down [] m = Unit {0}
Down (g ∷ gs) m = Within g.1 gs × ((m ≤ g.1) × Down gs m)

down_map : (is : List RawEvent) (left m : ℕ) (gs : List Given) → m ≤ left → Within left gs
    → Down gs m → Down (map (λ (i : RawEvent). (i, left)) is ++ gs) m
down_map [] left m gs l w d = d
down_map (i ∷ is) left m gs l w d = (within_map is left left gs (omega arith) w, (l, down_map is left m gs l w d))

down_last : (is : List RawEvent) (left m : ℕ) → m ≤ left
    → Down (map (λ (i : RawEvent). (i, left)) is) m
down_last [] left m l = tt
down_last (i ∷ is) left m l = (within_last is left left (omega arith), (l, down_last is left m l))

down_carried : (left : ℕ) (fed : Fed) (k : List State → Outcome) (u : List State → ℕ)
    → ((s : List State) → Within left (k s).items) → ((s : List State) → u s ≤ left)
    → ((s : List State) → Down (k s).items (u s))
    → Down (carry left fed k).items (left_where_stopped left fed u)
down_carried left (stop is f) k u w l d = down_last is left left (omega arith)
down_carried left (go is s) k u w l d = down_map is left (u s) (k s).items (l s) (w s) (d s)

down_ended : (fed : Fed) → Down (carry 0 fed (λ _. finished)).items 0
down_ended (stop is f) = down_last is 0 0 (omega arith)
down_ended (go is s) = down_map is 0 0 [] (omega arith) tt tt

down_ending : (s : List State) (e : Fault) (m : ℕ) → Down (ending_at s e).items m
down_ending s e m = grind arith

run_down : (ts : List Token) (f : Option Fault) (s : List State)
    → Down (run ts s f).items (unasked_at_stop ts s)
unfolding run unasked_at_stop
run_down [] (Some e) s = down_ending s e 0
run_down [] None s = down_ended (feed s no_token)
run_down (t ∷ ts) f s =
    down_carried (length ts) (feed s t) (λ s'. run ts s' f) (λ s'. unasked_at_stop ts s') (λ z. within ts f z (length ts) (omega arith)) (λ z. stop_within ts z (length ts) (omega arith)) (λ z. run_down ts f z)

falls_on : (c : Settled) (i : RawEvent) (left : ℕ) (k : Directives → Reading) (u : Directives → ℕ)
    → ((ds : Directives) → next_unasked (k ds).events (u ds) ≤ left)
    → ((ds : Directives) → AreFalling (k ds).events (u ds))
    → AreFalling (read_on c i left k).events (unasked_on c left u)
falls_on c i left k u l h = grind arith

read_falls : (gs : List Given) (f : Option Fault) (m : ℕ) (ds : Directives) → Down gs m
    → AreFalling (reading gs f ds).events (unasked_at_fault gs m ds)
unfolding reading unasked_at_fault
read_falls [] f m ds h = tt
read_falls (g ∷ gs) f m ds h =
    falls_on (settle g.0 ds) g.0 g.1 (λ d. reading gs f d) (λ d. unasked_at_fault gs m d) (λ d. next_read gs f m g.1 d h.0 h.1.0) (λ d. read_falls gs f m d h.1.1)

-- The events of a run ask for tokens in their order: fewer and fewer are left.
pub run_falls : (ts : List Token) (f : Option Fault) (s : List State) (ds : Directives)
    → AreFalling (reading_of (run ts s f) ds).events
    (unasked_at_fault (run ts s f).items (unasked_at_stop ts s) ds)
run_falls ts f s ds = read_falls (run ts s f).items (run ts s f).ending (unasked_at_stop ts s) ds (run_down ts f s)
