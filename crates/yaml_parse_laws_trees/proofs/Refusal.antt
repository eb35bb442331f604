-- Where a list of tokens is refused: at the first token that no tree goes on with.
use Rattle.std.proofs.Common.{◌≡◌, ◌⊎◌, inl, inr, ℕ, List, [], ◌∷◌, ◌++◌, length, map, Option, Some, None, refl, ap, sym, subst, ◌∙◌, arith}
use Rattle.yaml_parse_laws_trees.proofs.Words.{append_assoc, yaml_mark_t, Token, type_of, no_token, zero_mark, Fault, Choice, RawEvent, State, Given, Stream, spell, choice_at, Fed, stop, go, with_item, turn, feed, Outcome, finished, carry, ending_at, run, initial, bare, BeginsWithItems, GoesOn, RefusedAt, RunsOut, TreeGoesOnGiving, StandsAtLoad, FaultsStandAtFirst, FrontsAreNotRefused}
use Rattle.yaml_parse_laws_trees.proofs.CompleteStream.{stream_runs, nothing_runs}
use Rattle.yaml_parse_laws_trees.proofs.Turns.{items_given}
use Rattle.yaml_parse_laws_trees.proofs.Left.{Over}
use Rattle.yaml_parse_laws_trees.proofs.Sound.{FedLeft, feed_left}
use Rattle.yaml_parse_laws_trees.proofs.SoundStanding.{AllStood, FedStood, feed_stood}
use Rattle.yaml_parse_laws_trees.proofs.Closing.{closers, Empty, all_close, StopBegins, feed_begins}

-- ---- a fault's mark

abbrev StopsAt : yaml_mark_t → Fed → Type 0
StopsAt at (stop is e) = StandsAtLoad at e
StopsAt at (go is s) = Unit {0}

stops_with : (at : yaml_mark_t) (i : RawEvent) (fed : Fed) → StopsAt at fed
    → StopsAt at (with_item i fed)
stops_with at i fed h = grind arith

turn_stops : (c : Choice) (x : State) (t : Token) (s : List State) (below : Fed)
    → StopsAt t.start_mark below → StopsAt t.start_mark (turn c x t s below)
turn_stops c x t s below h = grind (arith, stops_with)

feed_stops : (s : List State) (t : Token) → StopsAt t.start_mark (feed s t)
unfolding feed
feed_stops [] t = tt
feed_stops (x ∷ s) t = turn_stops (choice_at x (type_of t.body)) x t s (feed s t) (feed_stops s t)

-- ---- a list of tokens above a stack

-- what the stack waits for begins with the front, and gives what was given; whatever follows the token is not accepted
record RefusedFrom (s : List State) (ts : List Token) (given : List RawEvent) (e : Fault) : Type 0 where
  front : List Token
  token : Token
  behind : List Token
  list : ts ≡ front ++ token ∷ behind
  closing : List Token
  before : Over s Empty (front ++ closing)
  begins : BeginsWithItems given (run (front ++ closing) s None).items
  wrong : (more : List Token) (f : Option Fault) → (run (front ++ token ∷ more) s f).ending ≡ None
      → ⊥
  stands : StandsAtLoad token.start_mark e

-- what the stack waits for begins with the whole list, and gives what was given
record RunsOutFrom (s : List State) (ts : List Token) (f : Option Fault) (given : List RawEvent) (e : Fault) : Type 0 where
  closing : List Token
  before : Over s Empty (ts ++ closing)
  begins : BeginsWithItems given (run (ts ++ closing) s None).items
  own : (f ≡ Some e) ⊎ ((f ≡ None) × StandsAtLoad zero_mark e)

abbrev given_from : List State → List Token → Option Fault → List RawEvent
given_from s ts f = bare (run ts s f).items

abbrev Placed : List State → List Token → Option Fault → Fault → Type 0
Placed s ts f e = RefusedFrom s ts (given_from s ts f) e ⊎ RunsOutFrom s ts f (given_from s ts f) e

runs_fed : (s : List State) (t : Token) (ts : List Token) (f : Option Fault) (fed : Fed)
    → feed s t ≡ fed
    → (run (t ∷ ts) s f).ending ≡ (carry (length ts) fed (λ s'. run ts s' f)).ending
unfolding run
runs_fed s t ts f fed p = ap (λ (d : Fed). (carry (length ts) d (λ s'. run ts s' f)).ending) p

bare_all : (left : ℕ) (is : List RawEvent) → bare (map (λ (i : RawEvent). (i, left)) is) ≡ is
bare_all left [] = refl
bare_all left (i ∷ is) = ap (λ (z : List RawEvent). i ∷ z) (bare_all left is)

bare_more : (left : ℕ) (is : List RawEvent) (more : List Given)
    → bare (map (λ (i : RawEvent). (i, left)) is ++ more) ≡ is ++ bare more
bare_more left [] more = refl
bare_more left (i ∷ is) more = ap (λ (z : List RawEvent). i ∷ z) (bare_more left is more)

pub stopped_given : (s : List State) (t : Token) (ts : List Token) (f : Option Fault)
    (is : List RawEvent) (g : Fault) → feed s t ≡ stop is g → given_from s (t ∷ ts) f ≡ is
unfolding run
stopped_given s t ts f is g p = ap (λ (d : Fed). bare (carry (length ts) d (λ s'. run ts s' f)).items) p ∙ bare_all (length ts) is

gone_given : (s : List State) (t : Token) (ts : List Token) (f : Option Fault) (is : List RawEvent)
    (s' : List State) → feed s t ≡ go is s' → given_from s (t ∷ ts) f ≡ is ++ given_from s' ts f
unfolding run
gone_given s t ts f is s' p = ap (λ (d : Fed). bare (carry (length ts) d (λ z. run ts z f)).items) p ∙ bare_more (length ts) is (run ts s' f).items

-- a token comes first
begins_behind : (s : List State) (t : Token) (ts us : List Token) (f : Option Fault)
    (is : List RawEvent) (s' : List State) → feed s t ≡ go is s'
    → BeginsWithItems (given_from s' ts f) (run us s' None).items
    → BeginsWithItems (given_from s (t ∷ ts) f) (run (t ∷ us) s None).items
begins_behind s t ts us f is s' p b = record {
  others = b.others;
  same = gone_given s t us None is s' p
      ∙ ap (λ (z : List RawEvent). is ++ z) b.same
      ∙ sym (append_assoc is (given_from s' ts f) b.others)
      ∙ ap (λ (z : List RawEvent). z ++ b.others) (sym (gone_given s t ts f is s' p));
}

pub begins_same : (is js : List RawEvent) (more : List Given) → is ≡ js → BeginsWithItems is more
    → BeginsWithItems js more
begins_same is js more p b = subst (λ (z : List RawEvent). BeginsWithItems z more) p b

some_same : (g e : Fault) (at : yaml_mark_t) → Some g ≡ Some e → StandsAtLoad at g
    → StandsAtLoad at e
some_same g e at p h = let same : g ≡ e = cc in subst (StandsAtLoad at) same h

pub not_none : (g : Fault) → Some g ≡ None → ⊥
not_none g p = cc

further : (s : List State) (t : Token) (ts : List Token) (is : List RawEvent) (x : State)
    (s' : List State) (f : Option Fault) (e : Fault) → feed s t ≡ go is (x ∷ s')
    → FedLeft Empty s t (go is (x ∷ s')) → Placed (x ∷ s') ts f e → Placed s (t ∷ ts) f e
further s t ts is x s' f e p h (inl r) = inl record {
  front = t ∷ r.front;
  token = r.token;
  behind = r.behind;
  list = ap (λ us. t ∷ us) r.list;
  closing = r.closing;
  before = h tt (r.front ++ r.closing) r.before;
  begins = begins_behind s t ts (r.front ++ r.closing) f is (x ∷ s') p r.begins;
  wrong = λ more g q. r.wrong more g (sym (runs_fed s t (r.front ++ r.token ∷ more) g (go is (x ∷ s')) p) ∙ q);
  stands = r.stands;
}
further s t ts is x s' f e p h (inr r) = inr record {
  closing = r.closing;
  before = h tt (ts ++ r.closing) r.before;
  begins = begins_behind s t ts (ts ++ r.closing) f is (x ∷ s') p r.begins;
  own = r.own;
}

-- nothing is refused above an empty stack
never : (ts : List Token) (f : Option Fault) (e : Fault) → (run ts [] f).ending ≡ Some e → ⊥
never ts f e h = not_none e (sym h ∙ ap (λ (o : Outcome). o.ending) (nothing_runs ts f))

placed_at : (s : List State) (t : Token) (ts : List Token) (f : Option Fault) (e : Fault)
    (fed : Fed) → feed s t ≡ fed → StopsAt t.start_mark fed → StopBegins t.start_mark s fed
    → FedStood fed → FedLeft Empty s t fed
    → ((s' : List State) → AllStood s' → (run ts s' f).ending ≡ Some e → Placed s' ts f e)
    → (carry (length ts) fed (λ s'. run ts s' f)).ending ≡ Some e → Placed s (t ∷ ts) f e
placed_at s t ts f e (stop is g) p a b d h r q = inl record {
  front = [];
  token = t;
  behind = ts;
  list = refl;
  closing = closers t.start_mark s;
  before = all_close t.start_mark s;
  begins = begins_same is (given_from s (t ∷ ts) f) (run (closers t.start_mark s) s None).items (sym (stopped_given s t ts f is g p)) b;
  wrong = λ more f' k. not_none g (sym (runs_fed s t more f' (stop is g) p) ∙ k);
  stands = some_same g e t.start_mark q a;
}
placed_at s t ts f e (go is []) p a b d h r q = absurd (never ts f e q)
placed_at s t ts f e (go is (x ∷ s')) p a b d h r q = further s t ts is x s' f e p h (r (x ∷ s') d q)

placed_end : (s : List State) (e : Fault) (fed : Fed) → StopsAt zero_mark fed
    → (carry 0 fed (λ _. finished)).ending ≡ Some e → StandsAtLoad zero_mark e
placed_end s e fed a q = grind (arith, some_same)

own_end : (s : List State) (f : Option Fault) (e : Fault) → (run [] s f).ending ≡ Some e
    → (f ≡ Some e) ⊎ ((f ≡ None) × StandsAtLoad zero_mark e)
unfolding run
own_end s f e q = grind (arith, placed_end, feed_stops)

-- what is given after the last token
source_gives : (s : List State) (g : Fault) → bare (ending_at s g).items ≡ []
source_gives s g = grind arith

end_gives : (s : List State) (e : Fault) (fed : Fed) → StopBegins zero_mark s fed
    → (carry 0 fed (λ _. finished)).ending ≡ Some e
    → BeginsWithItems (bare (carry 0 fed (λ _. finished)).items)
    (run (closers zero_mark s) s None).items
end_gives s e (stop is g) b q = begins_same is (bare (map (λ (i : RawEvent). (i, 0)) is)) (run (closers zero_mark s) s None).items (sym (bare_all 0 is)) b
end_gives s e (go is s') b q = cc

pub end_begins : (s : List State) (f : Option Fault) (e : Fault) → AllStood s
    → (run [] s f).ending ≡ Some e
    → BeginsWithItems (given_from s [] f) (run (closers zero_mark s) s None).items
unfolding run
end_begins s (Some g) e a q =
    begins_same [] (bare (ending_at s g).items) (run (closers zero_mark s) s None).items (sym (source_gives s g)) (record { others = bare (run (closers zero_mark s) s None).items; same = refl })
end_begins s None e a q = end_gives s e (feed s no_token) (feed_begins s no_token a) q

placed : (ts : List Token) (f : Option Fault) (e : Fault) (s : List State) → AllStood s
    → (run ts s f).ending ≡ Some e → Placed s ts f e
placed [] f e s a q = inr record { closing = closers zero_mark s; before = all_close zero_mark s; begins = end_begins s f e a q; own = own_end s f e q }
placed (t ∷ ts) f e s a q =
    placed_at s t ts f e (feed s t) refl (feed_stops s t) (feed_begins s t a) (feed_stood s t a) (feed_left Empty s t)
    (λ s' a' q'. placed ts f e s' a' q') (sym (runs_fed s t ts f (feed s t) refl) ∙ q)

-- ---- a list of tokens

goes_on : (ts more : List Token) → Over initial Empty (ts ++ more) → GoesOn ts
goes_on ts more h = record { tree = h.tree; more = more; same = h.same ∙ ap (spell h.tree) h.goes }

goes_giving : (ts more : List Token) (given : List RawEvent) → Over initial Empty (ts ++ more)
    → BeginsWithItems given (run (ts ++ more) initial None).items → TreeGoesOnGiving ts given
unfolding goes_on
goes_giving ts more given h b = grind (arith, goes_on, stream_runs, items_given)

-- a list that isn't accepted is no tree's
not_accepted : (ts more : List Token) (t : Stream) → ts ++ more ≡ spell t []
    → ((run (ts ++ more) initial None).ending ≡ None → ⊥) → ⊥
not_accepted ts more t p h = h (ap (λ (us : List Token). (run us initial None).ending) p ∙ ap (λ (o : Outcome). o.ending) (stream_runs t [] None))

refused_at : (ts : List Token) (given : List RawEvent) (e : Fault) → RefusedFrom initial ts given e
    → RefusedAt ts given e
refused_at ts given e r = record {
  front = r.front;
  token = r.token;
  behind = r.behind;
  list = r.list;
  before = goes_giving r.front r.closing given r.before r.begins;
  wrong = λ g. not_accepted (r.front ++ r.token ∷ []) g.more g.tree g.same (λ k. r.wrong g.more None (ap (λ (us : List Token). (run us initial None).ending) (sym (append_assoc r.front (r.token ∷ []) g.more)) ∙ k));
  stands = r.stands;
}

pub faults_stand : FaultsStandAtFirst
faults_stand ts f e q = whole (placed ts f e initial (tt, tt) q)
  where
    whole : Placed initial ts f e
        → RefusedAt ts (given_from initial ts f) e ⊎ RunsOut ts f (given_from initial ts f) e
    whole (inl r) = inl (refused_at ts (given_from initial ts f) e r)
    whole (inr r) = inr record { before = goes_giving ts r.closing (given_from initial ts f) r.before r.begins; own = r.own }

-- a front of such a list is one
front_goes_on : (ts front : List Token) (t : Token) (behind : List Token) → ts ≡ front ++ t ∷ behind
    → GoesOn ts → GoesOn (front ++ t ∷ [])
front_goes_on ts front t behind p g = record {
  tree = g.tree;
  more = behind ++ g.more;
  same = append_assoc front (t ∷ []) (behind ++ g.more) ∙ sym (append_assoc front (t ∷ behind) g.more) ∙ ap (λ us. us ++ g.more) (sym p) ∙ g.same;
}

pub fronts_pass : FrontsAreNotRefused
fronts_pass ts f e g q = unrefused (faults_stand ts f e q)
  where
    unrefused : RefusedAt ts (given_from initial ts f) e ⊎ RunsOut ts f (given_from initial ts f) e
        → RunsOut ts f (given_from initial ts f) e
    unrefused (inl r) = absurd (r.wrong (front_goes_on ts r.front r.token r.behind r.list g))
    unrefused (inr r) = r
