-- Tokens that are alike make events of the same content.
use Rattle.std.proofs.Common.{◌≡◌, ◌⊎◌, inl, inr, ℕ, true, List, [], ◌∷◌, ◌++◌, length, map, Option, Some, None, refl, sym, ap, subst}
use Rattle.yaml_round_content.proofs.Words.{yaml_encoding_t, YAML_ANY_ENCODING, yaml_mark_t, Token, type_of, Fault, EventBody, RawEvent, State, Choice, Refuse, Take, Leave, Given, event_at, item_at, Root, Fed, stop, go, choice_at, taken_at, left_at, with_item, given_by, feed, Outcome, carry, run, Directives, Settled, refused, gave, noted, settle, Reading, read_on, reading, contents, normalize_body, content_of, Taken, taken, at_end}
use Rattle.yaml_parse_model.specs.Events as event
use Rattle.yaml_emit_laws.specs.parse_grammar.States as state
use Rattle.yaml_emit_laws.specs.parse_grammar.declared.Choice.TheVariants.{Open}
use Rattle.yaml_emit_laws.specs.parse_grammar.Items as item
use Rattle.yaml_emit_laws.specs.parse_grammar.Machine.{turn}
use Rattle.yaml_round_content.proofs.EncodingsTokens.{start, IsAlike, AreAlike}

-- ---- items

abbrev pub opened : yaml_encoding_t → yaml_mark_t → yaml_mark_t → RawEvent
opened x from to = event_at (event.stream_start x) from to

-- both open a stream, at the same place
pub record BothOpen (i j : RawEvent) : Type 0 where
  one : yaml_encoding_t
  two : yaml_encoding_t
  from : yaml_mark_t
  to : yaml_mark_t
  first : i ≡ opened one from to
  second : j ≡ opened two from to

abbrev pub IsLike : RawEvent → RawEvent → Type 0
IsLike i j = (i ≡ j) ⊎ BothOpen i j

abbrev AreLike : List RawEvent → List RawEvent → Type 0
AreLike [] [] = Unit {0}
AreLike [] (j ∷ js) = ⊥
AreLike (i ∷ is) [] = ⊥
AreLike (i ∷ is) (j ∷ js) = IsLike i j × AreLike is js

same_items : (is : List RawEvent) → AreLike is is
same_items [] = tt
same_items (i ∷ is) = (inl refl, same_items is)

abbrev IsLikeOption : Option RawEvent → Option RawEvent → Type 0
IsLikeOption None None = Unit {0}
IsLikeOption None (Some j) = ⊥
IsLikeOption (Some i) None = ⊥
IsLikeOption (Some i) (Some j) = IsLike i j

same_option : (o : Option RawEvent) → IsLikeOption o o
same_option None = tt
same_option (Some i) = inl refl

-- ---- a stack at a token

abbrev IsLikeTaken : Taken → Taken → Type 0
IsLikeTaken p q = IsLikeOption p.item q.item × (p.above ≡ q.above)

abbrev IsLikeFed : Fed → Fed → Type 0
IsLikeFed (stop is f) (stop js g) = AreLike is js × (f ≡ g)
IsLikeFed (stop is f) (go js z) = ⊥
IsLikeFed (go is s) (stop js g) = ⊥
IsLikeFed (go is s) (go js z) = AreLike is js × (s ≡ z)

same_fed : (a : Fed) → IsLikeFed a a
same_fed (stop is f) = (same_items is, refl)
same_fed (go is s) = (same_items is, refl)

item_fed : (i : RawEvent) (a b : Fed) → IsLikeFed a b → IsLikeFed (with_item i a) (with_item i b)
item_fed i (stop is f) (stop js g) (h, e) = ((inl refl, h), e)
item_fed i (stop is f) (go js z) h = absurd h
item_fed i (go is s) (stop js g) h = absurd h
item_fed i (go is s) (go js z) (h, e) = ((inl refl, h), e)

option_given : (i j : Option RawEvent) (one two s : List State) → IsLikeOption i j → one ≡ two
    → IsLikeFed (given_by (taken i one) s) (given_by (taken j two) s)
option_given None None one two s h e = (tt, ap (λ (z : List State). z ++ s) e)
option_given None (Some j) one two s h e = absurd h
option_given (Some i) None one two s h e = absurd h
option_given (Some i) (Some j) one two s h e = ((h, tt), ap (λ (z : List State). z ++ s) e)

taken_given : (p q : Taken) (s : List State) → IsLikeTaken p q
    → IsLikeFed (given_by p s) (given_by q s)
taken_given p q s (h, e) = option_given p.item q.item p.above q.above s h e

-- what a state takes of a stream's start shows the encoding at most
taken_start : (q : State) (x y : yaml_encoding_t) (from to : yaml_mark_t)
    → IsLikeTaken (taken_at q (start x from to)) (taken_at q (start y from to))
taken_start state.stream x y from to = (inr record { one = x; two = y; from = from; to = to; first = refl; second = refl }, refl)
taken_start z x y from to = (same_option (taken_at z (start x from to)).item, refl)

turn_start : (c : Choice) (q : State) (x y : yaml_encoding_t) (from to : yaml_mark_t)
    (s : List State) (a b : Fed) → IsLikeFed a b
    → IsLikeFed (turn c q (start x from to) s a) (turn c q (start y from to) s b)
turn_start (Refuse p opener) q x y from to s a b h = (tt, refl)
turn_start Take q x y from to s a b h = taken_given (taken_at q (start x from to)) (taken_at q (start y from to)) s (taken_start q x y from to)
turn_start Leave q x y from to s a b h = item_fed (left_at q from) a b h
turn_start Open q x y from to s a b h =
    let r = state.optional Root from in
    let z = state.document_end ∷ state.documents ∷ s in
    let p = taken_at r (start x from to) in
    let n = taken_at r (start y from to) in
    item_fed (item_at (item.document true) from from) (given_by p z) (given_by n z) (taken_given p n z (taken_start r x y from to))

feed_start : (s : List State) (x y : yaml_encoding_t) (from to : yaml_mark_t)
    → IsLikeFed (feed s (start x from to)) (feed s (start y from to))
unfolding feed
feed_start [] x y from to = (tt, refl)
feed_start (q ∷ s) x y from to =
    turn_start (choice_at q (type_of (start x from to).body)) q x y from to s (feed s (start x from to)) (feed s (start y from to)) (feed_start s x y from to)

feed_alike : (s : List State) (t u : Token) → IsAlike t u → IsLikeFed (feed s t) (feed s u)
feed_alike s t u (inl e) = subst (λ (v : Token). IsLikeFed (feed s t) (feed s v)) e (same_fed (feed s t))
feed_alike s t u (inr b) =
    subst (λ (v : Token). IsLikeFed (feed s t) (feed s v)) (sym b.second)
    (subst (λ (v : Token). IsLikeFed (feed s v) (feed s (start b.two b.from b.to))) (sym b.first) (feed_start s b.one b.two b.from b.to))

-- ---- a list of tokens

abbrev pub AreGivenLike : List Given → List Given → Type 0
AreGivenLike [] [] = Unit {0}
AreGivenLike [] (h ∷ hs) = ⊥
AreGivenLike (g ∷ gs) [] = ⊥
AreGivenLike (g ∷ gs) (h ∷ hs) = IsLike g.0 h.0 × AreGivenLike gs hs

same_given : (gs : List Given) → AreGivenLike gs gs
same_given [] = tt
same_given (g ∷ gs) = (inl refl, same_given gs)

given_more : (n m : ℕ) (is js : List RawEvent) (gs hs : List Given) → AreLike is js
    → AreGivenLike gs hs
    → AreGivenLike (map (λ (i : RawEvent). (i, n)) is ++ gs)
    (map (λ (i : RawEvent). (i, m)) js ++ hs)
given_more n m [] [] gs hs a k = k
given_more n m [] (j ∷ js) gs hs a k = absurd a
given_more n m (i ∷ is) [] gs hs a k = absurd a
given_more n m (i ∷ is) (j ∷ js) gs hs (a, rest) k = (a, given_more n m is js gs hs rest k)

given_alone : (n m : ℕ) (is js : List RawEvent) → AreLike is js
    → AreGivenLike (map (λ (i : RawEvent). (i, n)) is) (map (λ (i : RawEvent). (i, m)) js)
given_alone n m [] [] a = tt
given_alone n m [] (j ∷ js) a = absurd a
given_alone n m (i ∷ is) [] a = absurd a
given_alone n m (i ∷ is) (j ∷ js) (a, rest) = (a, given_alone n m is js rest)

abbrev pub IsLikeOutcome : Outcome → Outcome → Type 0
IsLikeOutcome o p = AreGivenLike o.items p.items × (o.ending ≡ p.ending)

carry_alike : (n m : ℕ) (a b : Fed) (k l : List State → Outcome) → IsLikeFed a b
    → ((s : List State) → IsLikeOutcome (k s) (l s)) → IsLikeOutcome (carry n a k) (carry m b l)
carry_alike n m (stop is f) (stop js g) k l (h, e) more = (given_alone n m is js h, ap (λ (x : Fault). Some x) e)
carry_alike n m (stop is f) (go js z) k l h more = absurd h
carry_alike n m (go is s) (stop js g) k l h more = absurd h
carry_alike n m (go is s) (go js z) k l (h, e) more =
    let r : IsLikeOutcome (k s) (l z) = subst (λ (x : List State). IsLikeOutcome (k s) (l x)) e (more s) in
    (given_more n m is js (k s).items (l z).items h r.0, r.1)

pub run_alike : (ts us : List Token) (s : List State) (f : Option Fault) → AreAlike ts us
    → IsLikeOutcome (run ts s f) (run us s f)
unfolding run
run_alike [] [] s f h = (same_given (at_end f s).items, refl)
run_alike [] (u ∷ us) s f h = absurd h
run_alike (t ∷ ts) [] s f h = absurd h
run_alike (t ∷ ts) (u ∷ us) s f (h, hs) =
    carry_alike (length ts) (length us) (feed s t) (feed s u) (λ z. run ts z f) (λ z. run us z f) (feed_alike s t u h) (λ z. run_alike ts us z f hs)

-- ---- what they say

abbrev pub SaysAlike : Reading → Reading → Type 0
SaysAlike p q = (contents p.events ≡ contents q.events) × (p.ending ≡ q.ending)

settled_alike : (x : Settled) (i j : RawEvent) (n m : ℕ) (k l : Directives → Reading)
    → ((ds : Directives) → SaysAlike (k ds) (l ds)) → SaysAlike (read_on x i n k) (read_on x j m l)
settled_alike (refused f) i j n m k l h = (refl, refl)
settled_alike (gave body ds) i j n m k l h = (ap (λ (es : List EventBody). content_of (normalize_body true body) ∷ es) (h ds).0, (h ds).1)
settled_alike (noted ds) i j n m k l h = h ds

one_read : (i j : RawEvent) (n m : ℕ) (ds : Directives) (k l : Directives → Reading) → IsLike i j
    → ((e : Directives) → SaysAlike (k e) (l e))
    → SaysAlike (read_on (settle i ds) i n k) (read_on (settle j ds) j m l)
one_read i j n m ds k l (inl e) h = subst (λ (z : RawEvent). SaysAlike (read_on (settle i ds) i n k) (read_on (settle z ds) z m l)) e (settled_alike (settle i ds) i i n m k l h)
one_read i j n m ds k l (inr b) h =
    subst (λ (z : RawEvent). SaysAlike (read_on (settle i ds) i n k) (read_on (settle z ds) z m l)) (sym b.second)
    (subst (λ (z : RawEvent). SaysAlike (read_on (settle z ds) z n k) (read_on (settle (opened b.two b.from b.to) ds) (opened b.two b.from b.to) m l)) (sym b.first)
    (ap (λ (es : List EventBody). event.stream_start YAML_ANY_ENCODING ∷ es) (h ds).0, (h ds).1))

pub read_alike : (gs hs : List Given) (f : Option Fault) (ds : Directives) → AreGivenLike gs hs
    → SaysAlike (reading gs f ds) (reading hs f ds)
unfolding reading
read_alike [] [] f ds h = (refl, refl)
read_alike [] (j ∷ js) f ds h = absurd h
read_alike (g ∷ gs) [] f ds h = absurd h
read_alike (g ∷ gs) (j ∷ js) f ds (h, hs) = one_read g.0 j.0 g.1 j.1 ds (λ e. reading gs f e) (λ e. reading js f e) h (λ e. read_alike gs js f e hs)
