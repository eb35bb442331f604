-- Which items come with that many tokens unasked for, and what they mean.
use Rattle.std.proofs.Common.{◌≡◌, ◌+◌, ◌-◌, ◌≤◌, ◌<◌, nat_le, ℕ, Bool, true, false, if◌then◌else◌, List, [], ◌∷◌, ◌++◌, length, Option, None, refl, ap, ◌∙◌, arith}
use Rattle.std.proofs.lemmas.Bool.Decides.{nat_tests}
use Rattle.yaml_parse_laws_trees.proofs.Words.{Token, no_token, Fault, RawEvent, State, Given, Fed, feed, Outcome, finished, carry, run, Directives, Settled, settle, Reading, read_on, reading, first_items, but_last, BeginsWith}
use Rattle.yaml_parse_laws_trees.proofs.Walking.{raised, numbered}

le_true : (n m : ℕ) → n ≤ m → nat_le n m ≡ true
le_true n m h = grind (arith, nat_tests)

le_false : (n m : ℕ) → m < n → nat_le n m ≡ false
le_false n m h = grind (arith, nat_tests)

-- ---- items one by one

keep : (n m b : ℕ) (g : Given) (gs : List Given) → n ≤ g.1
    → first_items n m b (g ∷ gs) ≡ (g.0, (g.1 + b) - m) ∷ first_items n m b gs
keep n m b g gs h = ap (λ (x : Bool). if x then (g.0, (g.1 + b) - m) ∷ first_items n m b gs else []) (le_true n g.1 h)

drop_on : (n m b : ℕ) (g : Given) (gs : List Given) → g.1 < n → first_items n m b (g ∷ gs) ≡ []
drop_on n m b g gs h = ap (λ (x : Bool). if x then (g.0, (g.1 + b) - m) ∷ first_items n m b gs else []) (le_false n g.1 h)

-- those of the front are all there
pub front_items : (n m b : ℕ) (xs ys : List Given) → n ≤ m
    → first_items n m b (raised m xs ++ ys) ≡ raised b xs ++ first_items n m b ys
front_items n m b [] ys h = refl
front_items n m b (x ∷ xs) ys h =
    keep n m b (x.0, x.1 + m) (raised m xs ++ ys) (omega arith)
    ∙ ap (λ (k : ℕ). (x.0, k) ∷ first_items n m b (raised m xs ++ ys)) (same x.1)
    ∙ ap (λ (z : List Given). (x.0, x.1 + b) ∷ z) (front_items n m b xs ys h)
  where
    same : (k : ℕ) → ((k + m) + b) - m ≡ k + b
    same k = omega arith

-- so are those of a token that is asked for
pub token_items : (n m b : ℕ) (is : List RawEvent) (ys : List Given)
    → first_items n m b (numbered n is ++ ys) ≡ numbered ((n + b) - m) is ++ first_items n m b ys
token_items n m b [] ys = refl
token_items n m b (i ∷ is) ys = keep n m b (i, n) (numbered n is ++ ys) (omega arith) ∙ ap (λ (z : List Given). (i, (n + b) - m) ∷ z) (token_items n m b is ys)

-- and none of the tokens after it
none_numbered : (n m b k : ℕ) (is : List RawEvent) (ys : List Given) → k < n
    → first_items n m b ys ≡ [] → first_items n m b (numbered k is ++ ys) ≡ []
none_numbered n m b k [] ys h e = e
none_numbered n m b k (i ∷ is) ys h e = drop_on n m b (i, k) (numbered k is ++ ys) h

none_alone : (n m b k : ℕ) (is : List RawEvent) → k < n → first_items n m b (numbered k is) ≡ []
none_alone n m b k [] h = refl
none_alone n m b k (i ∷ is) h = drop_on n m b (i, k) (numbered k is) h

none_carried : (n m b k : ℕ) (fed : Fed) (next : List State → Outcome) → k < n
    → ((s : List State) → first_items n m b (next s).items ≡ [])
    → first_items n m b (carry k fed next).items ≡ []
none_carried n m b k fed next h r = grind (arith, none_alone, none_numbered)

pub none_behind : (n m b : ℕ) (ts : List Token) (s : List State) → length ts < n
    → first_items n m b (run ts s None).items ≡ []
unfolding run
none_behind n m b [] s h = none_carried n m b 0 (feed s no_token) (λ _. finished) h (λ s'. refl)
none_behind n m b (t ∷ ts) s h = none_carried n m b (length ts) (feed s t) (λ s'. run ts s' None) (less h) (λ s'. none_behind n m b ts s' (less h))
  where
    less : length (t ∷ ts) < n → length ts < n
    less h = omega arith

-- the items of the tokens that are left, where none but the first is asked for
pub none_from : (m b : ℕ) (ts : List Token) (t : Token) (s : List State)
    → first_items (length (t ∷ ts)) m b (run (t ∷ ts) s None).items ≡ []
unfolding run
none_from m b ts t s = grind (arith, none_carried, none_behind)

-- ---- all but the last

pub but_one : (xs : List Given) (x : Given) → but_last (xs ++ x ∷ []) ≡ xs
but_one (y ∷ z ∷ xs) x = ap (λ (w : List Given). y ∷ w) (but_one (z ∷ xs) x)
but_one _ x = refl

-- ---- what they mean

one_read : (c : Settled) (i : RawEvent) (left : ℕ) (k l : Directives → Reading)
    → ((ds : Directives) → (k ds).events ≡ (l ds).events)
    → (read_on c i left k).events ≡ (read_on c i left l).events
one_read c i left k l h = grind arith

-- whatever ends them
pub any_ending : (gs : List Given) (f g : Option Fault) (ds : Directives)
    → (reading gs f ds).events ≡ (reading gs g ds).events
unfolding reading
any_ending [] f g ds = refl
any_ending (x ∷ gs) f g ds = one_read (settle x.0 ds) x.0 x.1 (λ d. reading gs f d) (λ d. reading gs g d) (λ d. any_ending gs f g d)

one_begins : (c : Settled) (i : RawEvent) (left : ℕ) (k l : Directives → Reading)
    → ((ds : Directives) → BeginsWith (k ds).events (l ds).events)
    → BeginsWith (read_on c i left k).events (read_on c i left l).events
one_begins c i left k l h = grind arith

pub more_begin : (xs ys : List Given) (f g : Option Fault) (ds : Directives)
    → BeginsWith (reading xs f ds).events (reading (xs ++ ys) g ds).events
unfolding reading
more_begin [] ys f g ds = record { others = (reading ys g ds).events; same = refl }
more_begin (x ∷ xs) ys f g ds = one_begins (settle x.0 ds) x.0 x.1 (λ d. reading xs f d) (λ d. reading (xs ++ ys) g d) (λ d. more_begin xs ys f g d)
