-- The machine gives the events of a list, and a list has no others.
use Rattle.std.proofs.Common.{◌≡◌, ◌⊎◌, inl, inr, ◌+◌, ◌-◌, ℕ, suc, Bool, true, false, ◌||◌, List, [], ◌∷◌, ◌++◌, length, Option, Some, None, refl, ap, sym, subst, ◌∙◌, arith, append_assoc, append-nil, le_refl}
use Rattle.yaml_parse_laws_trees.proofs.Words.{true≢false, false≢true, or_cases, yaml_mark_t, Token, no_token, zero_mark, Fault, RawEvent, State, Stream, spell, Given, next, items, Fed, stop, go, feed, Outcome, run, initial, Told, reading, no_directives, GoesOn, bare, RefusedAt, RunsOut, first_items, but_last, EndsAt, last_leaves_open, BeginsWith, EventsOfTokens, events_run, given_of, BeginsWithTree, IsLongest, LongestFront, events_of, events_of_front, events_at_next, has_fault, gives_no_more, GivesAt, HasFront, ListHasFront, EventsAreOne, RunGivesEvents, EventsAreRun, RunGivesLeast}
use Rattle.yaml_parse_laws_trees.proofs.CompleteStream.{stream_runs, nothing_runs}
use Rattle.yaml_parse_laws_trees.proofs.Left.{Over}
use Rattle.yaml_parse_laws_trees.proofs.Closing.{closers, Empty, all_close, closers_end}
use Rattle.yaml_parse_laws_trees.proofs.Sound.{accepted_trees}
use Rattle.yaml_parse_laws_trees.proofs.Refusal.{faults_stand, not_none}
use Rattle.yaml_parse_laws_trees.proofs.Spelling.{spelled_before}
use Rattle.yaml_parse_laws_trees.proofs.FaultsStanding.{Last, nothing, last_of, told}
use Rattle.yaml_parse_laws_trees.proofs.Taking.{stack_solid, Stops, stops_at_none}
use Rattle.yaml_parse_laws_trees.proofs.Ending.{runs_fed, runs_out}
use Rattle.yaml_parse_laws_trees.proofs.Turns.{items_given}
use Rattle.yaml_parse_laws_trees.proofs.Walking.{raised, numbered, before, Knows, knows_step, takes_step, Unfinished, last_behind, Walked, walk}
use Rattle.yaml_parse_laws_trees.proofs.Behind.{open_behind, front_open, none_given, OneMore, Alike, feed_alike, closed_top}
use Rattle.yaml_parse_laws_trees.proofs.Counting.{front_items, token_items, none_from, but_one, any_ending, more_begin}

-- ---- after the front

accepted : (ts : List Token) (t : Stream) → ts ≡ spell t []
    → run ts initial None ≡ record { items = items t []; ending = None }
accepted ts t p = ap (λ (us : List Token). run us initial None) p ∙ stream_runs t [] None

start : Knows nothing initial
start = record { topped = (refl, tt); nested = (tt, tt); stack = refl; stood = (tt, tt) }

unfinished : (ts : List Token) → (BeginsWithTree ts → ⊥) → Unfinished initial ts
unfinished ts n = λ us vs p o. n (record { tree = o.tree; rest = vs; same = p ∙ ap (λ (z : List Token). z ++ vs) (o.same ∙ ap (spell o.tree) o.goes) ∙ spelled_before o.tree vs })

-- the stack after the front
record Here (front : List Token) : Type 0 where
  items : List Given
  top : State
  below : List State
  knows : Knows (last_behind nothing front) (top ∷ below)
  runs : (us : List Token) (f : Option Fault)
      → run (front ++ us) initial f ≡ before (raised (length us) items) (run us (top ∷ below) f)
  goes : (us : List Token) → Over (top ∷ below) Empty us → Over initial Empty (front ++ us)

here_at : (front behind : List Token) (is : List Given) (s : List State)
    → Knows (last_behind nothing front) s
    → ((us : List Token) (f : Option Fault) → run (front ++ us) initial f
    ≡ before (raised (length us) is) (run us s f))
    → ((us : List Token) → Over s Empty us → Over initial Empty (front ++ us)) → Unfinished s behind
    → Here front
here_at front behind is [] k r g u = absurd (u [] behind refl refl)
here_at front behind is (x ∷ s) k r g u = record { items = is; top = x; below = s; knows = k; runs = r; goes = g }

here : (ts : List Token) → (BeginsWithTree ts → ⊥) → (l : LongestFront ts) → Here l.front
here ts n l =
    let w : Walked l.front l.behind nothing initial =
    walk l.front l.behind l.more nothing initial start (subst (Unfinished initial) l.list (unfinished ts n)) (ap (λ (o : Outcome). o.ending) (accepted (l.front ++ l.more) l.tree l.same))
    in here_at l.front l.behind w.items w.stack w.knows w.runs w.goes w.unfinished

-- ---- the token after the front is refused

record StoppedAt (s : List State) (at : yaml_mark_t) (is : List RawEvent) : Type 0 where
  token : Token
  fault : Fault
  start : token.start_mark ≡ at
  same : feed s token ≡ stop is fault

record Refused (s : List State) (behind : List Token) (own : Option Fault) : Type 0 where
  items : List RawEvent
  given : (run behind s own).items ≡ numbered (length behind - 1) items
  silent : has_fault behind own ≡ true → items ≡ []
  stopped : has_fault behind own ≡ false → StoppedAt s (next behind) items

own_items : (x : State) (s : List State) (f : Fault) → (run [] (x ∷ s) (Some f)).items ≡ []
unfolding run
own_items x s f = refl

refused_end : (x : State) (s : List State) (fed : Fed) → feed (x ∷ s) no_token ≡ fed → Stops fed
    → Refused (x ∷ s) [] None
refused_end x s (stop is e) p h = record {
  items = is;
  given = ap (λ (o : Outcome). o.items) (runs_out (x ∷ s) (stop is e) p);
  silent = λ q. absurd (false≢true q);
  stopped = λ q. record { token = no_token; fault = e; start = refl; same = p };
}
refused_end x s (go is s') p h = absurd h

refused_token : (s : List State) (t : Token) (ts : List Token) (own : Option Fault) (fed : Fed)
    → feed s t ≡ fed → ((js : List RawEvent) (s' : List State) → feed s t ≡ go js s' → ⊥)
    → Refused s (t ∷ ts) own
refused_token s t ts own (stop is e) p h = record {
  items = is;
  given = ap (λ (o : Outcome). o.items) (runs_fed s t ts own (stop is e) p) ∙ ap (λ (k : ℕ). numbered k is) counted;
  silent = λ q. absurd (false≢true q);
  stopped = λ q. record { token = t; fault = e; start = refl; same = p };
}
  where
    counted : length ts ≡ length (t ∷ ts) - 1
    counted = omega arith
refused_token s t ts own (go is s') p h = absurd (h is s' p)

-- no tree goes on with it
goes_further : (front : List Token) (w : Here front) (t : Token) (is : List RawEvent)
    (s' : List State) → feed (w.top ∷ w.below) t ≡ go is s' → GoesOn (front ++ t ∷ [])
goes_further front w t is s' p =
    let us : List Token = closers zero_mark s' in
    let h : Over initial Empty (front ++ t ∷ us) = w.goes (t ∷ us) (takes_step w.top w.below s' (last_behind nothing front) t is w.knows p us (all_close zero_mark s')) in
    record { tree = h.tree; more = us; same = append_assoc front (t ∷ []) us ∙ h.same ∙ ap (spell h.tree) h.goes }

refused : (front behind : List Token) (own : Option Fault) (w : Here front) → IsLongest front behind
    → Refused (w.top ∷ w.below) behind own
refused front [] (Some f) w h = record { items = []; given = own_items w.top w.below f; silent = λ q. refl; stopped = λ q. absurd (true≢false q) }
refused front [] None w h = refused_end w.top w.below (feed (w.top ∷ w.below) no_token) refl (stops_at_none (w.top ∷ w.below) (stack_solid w.top w.below w.knows.stack))
refused front (t ∷ ts) own w h = refused_token (w.top ∷ w.below) t ts own (feed (w.top ∷ w.below) t) refl (λ js s' p. h (goes_further front w t js s' p))

-- ---- the machine's items

run_items : (ts : List Token) (own : Option Fault) (l : LongestFront ts) (w : Here l.front)
    (r : Refused (w.top ∷ w.below) l.behind own)
    → (run ts initial own).items ≡ raised (length l.behind) w.items
    ++ numbered (length l.behind - 1) r.items
run_items ts own l w r = grind arith

run_events : (ts : List Token) (own : Option Fault) (gs : List Given)
    → (run ts initial own).items ≡ gs → events_run ts own ≡ events_of gs
run_events ts own gs p = any_ending (run ts initial own).items (run ts initial own).ending None no_directives ∙ ap events_of p

-- ---- the tree's items

tree_items : (front more : List Token) (t : Stream) (w : Here front) → front ++ more ≡ spell t []
    → items t [] ≡ raised (length more) w.items ++ (run more (w.top ∷ w.below) None).items
tree_items front more t w p = sym (ap (λ (o : Outcome). o.items) (accepted (front ++ more) t p)) ∙ ap (λ (o : Outcome). o.items) (w.runs more None)

tree_ending : (front more : List Token) (t : Stream) (w : Here front) → front ++ more ≡ spell t []
    → (run more (w.top ∷ w.below) None).ending ≡ None
tree_ending front more t w p = sym (ap (λ (o : Outcome). o.ending) (w.runs more None)) ∙ ap (λ (o : Outcome). o.ending) (accepted (front ++ more) t p)

not_done : (x : State) (s : List State) (fed : Fed) → feed (x ∷ s) no_token ≡ fed → Stops fed
    → (run [] (x ∷ s) None).ending ≡ None → ⊥
not_done x s fed p h a = grind (arith, not_none, runs_out)

some_left : (x : State) (s : List State) (l : Last) → Knows l (x ∷ s)
    → (run [] (x ∷ s) None).ending ≡ None → ⊥
some_left x s l k a = not_done x s (feed (x ∷ s) no_token) refl (stops_at_none (x ∷ s) (stack_solid x s k.stack)) a

-- none of the tree's own tokens
none_of_more : (b : ℕ) (more : List Token) (x : State) (s : List State) (l : Last) → Knows l (x ∷ s)
    → (run more (x ∷ s) None).ending ≡ None
    → first_items (length more) (length more) b (run more (x ∷ s) None).items ≡ []
none_of_more b [] x s l k a = absurd (some_left x s l k a)
none_of_more b (m ∷ ms) x s l k a = none_from (length (m ∷ ms)) b ms m (x ∷ s)

front_given : (ts : List Token) (l : LongestFront ts) (w : Here l.front)
    → first_items (length l.more) (length l.more) (length l.behind) (items l.tree [])
    ≡ raised (length l.behind) w.items
front_given ts l w =
    ap (first_items (length l.more) (length l.more) (length l.behind)) (tree_items l.front l.more l.tree w l.same)
    ∙ front_items (length l.more) (length l.more) (length l.behind) w.items (run l.more (w.top ∷ w.below) None).items (le_refl (length l.more))
    ∙ ap (λ (z : List Given). raised (length l.behind) w.items ++ z)
    (none_of_more (length l.behind) l.more w.top w.below (last_behind nothing l.front) w.knows (tree_ending l.front l.more l.tree w l.same))
    ∙ append-nil (raised (length l.behind) w.items)

-- ---- where nothing is given after the front

top_open : (front : List Token) (w : Here front)
    → open_behind (told w.top) ≡ last_leaves_open true front
top_open front w = ap open_behind w.knows.topped.0 ∙ sym (front_open front nothing)

open_none : (front behind : List Token) (own : Option Fault) (w : Here front)
    (r : Refused (w.top ∷ w.below) behind own) → last_leaves_open true front ≡ true → (b : Bool)
    → has_fault behind own ≡ b → r.items ≡ []
open_none front behind own w r o b p = grind (arith, none_given, top_open)

nothing_given : (front behind : List Token) (own : Option Fault) (w : Here front)
    (r : Refused (w.top ∷ w.below) behind own)
    → (last_leaves_open true front ≡ true) ⊎ (has_fault behind own ≡ true) → r.items ≡ []
nothing_given front behind own w r (inl o) = open_none front behind own w r o (has_fault behind own) refl
nothing_given front behind own w r (inr p) = r.silent p

gives_front : (ts : List Token) (own : Option Fault) (l : LongestFront ts) (w : Here l.front)
    (r : Refused (w.top ∷ w.below) l.behind own) → gives_no_more l own ≡ true
    → events_run ts own ≡ events_of_front l
gives_front ts own l w r q =
    run_events ts own (first_items (length l.more) (length l.more) (length l.behind) (given_of l.tree 0))
    (run_items ts own l w r
    ∙ ap (λ (z : List RawEvent). raised (length l.behind) w.items ++ numbered (length l.behind - 1) z) (nothing_given l.front l.behind own w r (or_cases (last_leaves_open true l.front) (has_fault l.behind own) q))
    ∙ append-nil (raised (length l.behind) w.items)
    ∙ sym (front_given ts l w)
    ∙ ap (first_items (length l.more) (length l.more) (length l.behind)) (items_given l.tree []))

-- ---- where an end is after the front

record Ended (s : List State) (u : Token) (us : List Token) : Type 0 where
  items : List RawEvent
  left : List State
  same : feed s u ≡ go items left
  given : (run (u ∷ us) s None).items ≡ numbered (length us) items ++ (run us left None).items
  ending : (run us left None).ending ≡ None

ended : (s : List State) (u : Token) (us : List Token) (fed : Fed) → feed s u ≡ fed
    → (run (u ∷ us) s None).ending ≡ None → Ended s u us
ended s u us (stop is e) p a = absurd (not_none e (sym (ap (λ (o : Outcome). o.ending) (runs_fed s u us None (stop is e) p)) ∙ a))
ended s u us (go is s') p a = record {
  items = is;
  left = s';
  same = p;
  given = ap (λ (o : Outcome). o.items) (runs_fed s u us None (go is s') p);
  ending = sym (ap (λ (o : Outcome). o.ending) (runs_fed s u us None (go is s') p)) ∙ a;
}

numbered_on : (k : ℕ) (is : List RawEvent) (i : RawEvent)
    → numbered k (is ++ i ∷ []) ≡ numbered k is ++ (i, k) ∷ []
numbered_on k [] i = refl
numbered_on k (j ∷ is) i = ap (λ (z : List Given). (j, k) ∷ z) (numbered_on k is i)

none_left : (m b : ℕ) (us : List Token) (s : List State) (l : Last) → Knows l s
    → (run us s None).ending ≡ None → first_items (length us) m b (run us s None).items ≡ []
none_left m b us [] l k a = ap (λ (o : Outcome). first_items (length us) m b o.items) (nothing_runs us None)
none_left m b [] (x ∷ s) l k a = absurd (some_left x s l k a)
none_left m b (u ∷ us) (x ∷ s) l k a = none_from m b us u (x ∷ s)

end_number : (n b : ℕ) → (n + b) - suc n ≡ b - 1
end_number n b = omega arith

-- what the tree gives up to the end's own event
end_items : (front : List Token) (u : Token) (us : List Token) (t : Stream) (b : ℕ) (w : Here front)
    (d : Ended (w.top ∷ w.below) u us) (is : List RawEvent) (i : RawEvent)
    → front ++ u ∷ us ≡ spell t []
    → (l : Last) → Knows l d.left → d.items ≡ is ++ i ∷ []
    → first_items (length us) (length (u ∷ us)) b (items t [])
    ≡ (raised b w.items ++ numbered (b - 1) is) ++ (i, b - 1) ∷ []
end_items front u us t b w d is i p l k q =
    ap (first_items (length us) (length (u ∷ us)) b) (tree_items front (u ∷ us) t w p)
    ∙ front_items (length us) (length (u ∷ us)) b w.items (run (u ∷ us) (w.top ∷ w.below) None).items (omega arith)
    ∙ ap (λ (z : List Given). raised b w.items ++ z)
    (ap (first_items (length us) (length (u ∷ us)) b) d.given
    ∙ token_items (length us) (length (u ∷ us)) b d.items (run us d.left None).items
    ∙ ap (λ (z : List Given). numbered ((length us + b) - length (u ∷ us)) d.items ++ z) (none_left (length (u ∷ us)) b us d.left l k d.ending)
    ∙ append-nil (numbered ((length us + b) - length (u ∷ us)) d.items)
    ∙ ap (λ (n : ℕ). numbered n d.items) (end_number (length us) b)
    ∙ ap (numbered (b - 1)) q
    ∙ numbered_on (b - 1) is i)
    ∙ sym (append_assoc (raised b w.items) (numbered (b - 1) is) ((i, b - 1) ∷ []))

either_false : (a b : Bool) → (a || b) ≡ false → (a ≡ false) × (b ≡ false)
either_false a b h = grind (arith, true≢false)

one_more : (s : List State) (t u : Token) (is js : List RawEvent) (e : Fault) (s' : List State)
    → feed s t ≡ stop is e → feed s u ≡ go js s' → Alike (feed s t) (feed s u) → OneMore is js
one_more s t u is js e s' p q h = subst (λ (z : Fed). Alike (stop is e) z) q (subst (λ (z : Fed). Alike z (feed s u)) p h)

end_given : (front behind more : List Token) (own : Option Fault) (t : Stream) (w : Here front)
    (r : Refused (w.top ∷ w.below) behind own) → front ++ more ≡ spell t []
    → (last_leaves_open true front || has_fault behind own) ≡ false → EndsAt (next behind) more
    → raised (length behind) w.items ++ numbered (length behind - 1) r.items
    ≡ but_last (first_items (length more - 1) (length more) (length behind) (items t []))
end_given front behind [] own t w r p o h = absurd h
end_given front behind (u ∷ us) own t w r p o h =
    let f : (last_leaves_open true front ≡ false) × (has_fault behind own ≡ false) = either_false (last_leaves_open true front) (has_fault behind own) o in
    let d : Ended (w.top ∷ w.below) u us = ended (w.top ∷ w.below) u us (feed (w.top ∷ w.below) u) refl (tree_ending front (u ∷ us) t w p) in
    let st : StoppedAt (w.top ∷ w.below) (next behind) r.items = r.stopped f.1 in
    let a : OneMore r.items d.items =
    one_more (w.top ∷ w.below) st.token u r.items d.items st.fault d.left st.same d.same
    (feed_alike w.top w.below st.token u (top_open front w ∙ f.0) w.knows.topped.1 h.0 (h.1 ∙ sym st.start)) in
    sym (ap but_last (ap (λ (n : ℕ). first_items n (length (u ∷ us)) (length behind) (items t [])) (omega arith)
    ∙ end_items front u us t (length behind) w d r.items a.last p (last_of u.body) (knows_step w.top w.below d.left (last_behind nothing front) u d.items w.knows d.same) a.same)
    ∙ but_one (raised (length behind) w.items ++ numbered (length behind - 1) r.items) (a.last, length behind - 1))

gives_at_end : (ts : List Token) (own : Option Fault) (l : LongestFront ts) (w : Here l.front)
    (r : Refused (w.top ∷ w.below) l.behind own) → gives_no_more l own ≡ false
    → EndsAt (next l.behind) l.more
    → events_run ts own ≡ events_at_next l
gives_at_end ts own l w r q h =
    run_events ts own (but_last (first_items (length l.more - 1) (length l.more) (length l.behind) (given_of l.tree 0)))
    (run_items ts own l w r
    ∙ end_given l.front l.behind l.more own l.tree w r l.same q h
    ∙ ap (λ (gs : List Given). but_last (first_items (length l.more - 1) (length l.more) (length l.behind) gs)) (items_given l.tree []))

-- ---- the laws

gives_at : (ts : List Token) (own : Option Fault) (l : LongestFront ts) (w : Here l.front)
    (r : Refused (w.top ∷ w.below) l.behind own) (b : Bool) → gives_no_more l own ≡ b
    → GivesAt b l (events_run ts own)
gives_at ts own l w r true q = gives_front ts own l w r q
gives_at ts own l w r false q = λ h. gives_at_end ts own l w r q h

pub run_gives_tree : (ts : List Token) (own : Option Fault) (t : Stream) (rest : List Token)
    → ts ≡ spell t rest
    → events_run ts own ≡ (reading (given_of t (length rest)) None no_directives).events
run_gives_tree ts own t rest p = grind (arith, stream_runs, items_given)

pub run_gives_events : RunGivesEvents
run_gives_events ts own = record {
  tree = run_gives_tree ts own;
  front =
      (λ n. λ l. let w : Here l.front = here ts n l in gives_at ts own l w (refused l.front l.behind own w l.longest) (gives_no_more l own) refl);
}

least_given : (ts : List Token) (own : Option Fault) (l : LongestFront ts) (w : Here l.front)
    (r : Refused (w.top ∷ w.below) l.behind own)
    → BeginsWith (events_of_front l) (events_run ts own)
least_given ts own l w r =
    let gs : List Given = numbered (length l.behind - 1) r.items in
    let b : BeginsWith (events_of (raised (length l.behind) w.items)) (events_of (raised (length l.behind) w.items ++ gs)) =
    more_begin (raised (length l.behind) w.items) gs None None no_directives in
    record {
      others = b.others;
      same = run_events ts own (raised (length l.behind) w.items ++ gs) (run_items ts own l w r)
          ∙ b.same
          ∙ ap (λ (z : List Given). events_of z ++ b.others) (sym (front_given ts l w) ∙ ap (first_items (length l.more) (length l.more) (length l.behind)) (items_given l.tree []));
    }

pub run_gives_least : RunGivesLeast
run_gives_least ts own n = λ l. let w : Here l.front = here ts n l in least_given ts own l w (refused l.front l.behind own w l.longest)

-- ---- the longest front

-- another tree that goes on with it: what is open is closed where the token after it is
closing_tree : (ts : List Token) (l : LongestFront ts) → Here l.front → LongestFront ts
closing_tree ts l w =
    let us : List Token = closers (next l.behind) (w.top ∷ w.below) in
    let h : Over initial Empty (l.front ++ us) = w.goes us (all_close (next l.behind) (w.top ∷ w.below)) in
    record { front = l.front; behind = l.behind; list = l.list; longest = l.longest; tree = h.tree; more = us; same = h.same ∙ ap (spell h.tree) h.goes }

closes : (ts : List Token) (own : Option Fault) (l : LongestFront ts) (w : Here l.front)
    → gives_no_more l own ≡ false
    → EndsAt (next l.behind) (closers (next l.behind) (w.top ∷ w.below))
closes ts own l w q =
    closers_end (next l.behind) (w.top ∷ w.below)
    (closed_top w.top w.below (top_open l.front w ∙ (either_false (last_leaves_open true l.front) (has_fault l.behind own) q).0) w.knows.stood.0)

closed_front : (ts : List Token) (own : Option Fault) (l : LongestFront ts) → Here l.front
    → HasFront ts own
unfolding closing_tree
closed_front ts own l w = record { front = closing_tree ts l w; ends = λ q. closes ts own l w q }

placed_front : (ts : List Token) (own : Option Fault) (e : Fault)
    → RefusedAt ts (bare (run ts initial own).items) e
    ⊎ RunsOut ts own (bare (run ts initial own).items) e → LongestFront ts
placed_front ts own e (inl r) = grind arith
placed_front ts own e (inr r) = record { front = ts; behind = []; list = sym (append-nil ts); longest = tt; tree = r.before.tree; more = r.before.more; same = r.before.same }

front_by : (ts : List Token) (own o : Option Fault) → (run ts initial own).ending ≡ o
    → (BeginsWithTree ts → ⊥) → HasFront ts own
front_by ts own None p n = absurd (n (accepted_trees ts own p))
front_by ts own (Some e) p n = let l : LongestFront ts = placed_front ts own e (faults_stand ts own e p) in closed_front ts own l (here ts n l)

pub list_has_front : ListHasFront
list_has_front ts own n = front_by ts own (run ts initial own).ending refl n

-- ---- the events are one list

one_at : (ts : List Token) (l : LongestFront ts) (b : Bool) (x y : List Told)
    → (b ≡ false → EndsAt (next l.behind) l.more) → GivesAt b l x → GivesAt b l y → x ≡ y
one_at ts l b x y e h k = grind arith

one_by : (ts : List Token) (own o : Option Fault) (x y : List Told)
    → (run ts initial own).ending ≡ o → EventsOfTokens ts own x → EventsOfTokens ts own y → x ≡ y
one_by ts own None x y p h k = let t : BeginsWithTree ts = accepted_trees ts own p in h.tree t.tree t.rest t.same ∙ sym (k.tree t.tree t.rest t.same)
one_by ts own (Some e) x y p h k =
    let n : BeginsWithTree ts → ⊥ = λ t. not_none e (sym p ∙ ap (λ (us : List Token). (run us initial own).ending) t.same ∙ ap (λ (o : Outcome). o.ending) (stream_runs t.tree t.rest own)) in
    let f : HasFront ts own = list_has_front ts own n in
    one_at ts f.front (gives_no_more f.front own) x y f.ends (h.front n f.front) (k.front n f.front)

pub events_are_one : EventsAreOne
events_are_one ts own x y h k = one_by ts own (run ts initial own).ending x y refl h k

pub events_are_run : EventsAreRun
events_are_run ts own events h = events_are_one ts own events (events_run ts own) h (run_gives_events ts own)
